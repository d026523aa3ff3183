-- What the closures ask stands when they are made, and one document has no more bytes than any may have.
use mathlib.Core.Path.{sym, ◌∙◌}
use borrow.Author.Rules.{rules}
use Rattle.document.proofs.Laws.{all-taken, enough}
use Rattle.document.proofs.write_document.Goals as goal

pub write_fitting-requires : goal.write_fitting-requires
write_fitting-requires c κs within =
    let room = enough _ _ _ c.has_room.ensures.documented (sym c.has_room.ensures.value ∙ c.if-has_room.true) in
    (all-taken within.0 within.1.0 within.1.1.0, (search rules, (λ a b p. search rules, room)))

pub write_whole-requires : goal.write_whole-requires
write_whole-requires c κs within =
    (all-taken within.0 within.1.0 within.1.1.0, (search rules, λ a b p. search rules))
