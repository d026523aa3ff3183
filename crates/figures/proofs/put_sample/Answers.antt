-- By the sign.
use mathlib.Core.Path.{sym, ◌∙◌, ap}
use mathlib.Core.List.{[], ◌∷◌}
use mir.Facts.{to_z-of_z}
use Rattle.std.specs.Prelude.{unsigned_abs}
use Rattle.std.specs.Int.{is_negative}
use Rattle.figures.proofs.Laws.{signless, signed}
use Rattle.writer.proofs.Laws.{put-append}
use Rattle.figures.proofs.put_sample.Goals.{then-is_negative, else-is_negative}
use Rattle.figures.proofs.put_sample.Goals as goal

pub returns : goal.returns
returns c =
    let x = to_z-of_z c.ranges.x in
    let n = c.from.ensures ∙ c.unsigned_abs.ensures.value ∙ ap unsigned_abs x in
    let s = c.is_negative.ensures ∙ ap is_negative x in
    let p = rw n at c.put_unsigned.ensures in
    elim c.if-is_negative.branch [
      | then-is_negative w ↦ rw (signed c.args.x (sym s ∙ w.if-is_negative.true)) (put-append {s = 45 ∷ []} (rw (← w.out-is) at w.put_byte.ensures) p)
      | else-is_negative w ↦ rw (signless c.args.x (sym s ∙ w.if-is_negative.false)) (rw w.out-is at p)
    ]
