-- The place of the key decides. Each way out cites its own law: what they shared is the clause of find.
use mathlib.Core.Path.{refl, sym, ◌∙◌}
use native.Mathlib.Omega.{arith}
use Rattle.marks.proofs.Laws.{found-some, found-none}
use Rattle.judging.proofs.Laws.{cleared-none, cleared_by}
use Rattle.judging.proofs.judge_cleared.Goals as goal

pub returns-in-Some : goal.returns-in-Some
returns-in-Some c =
    let f = found-some c.args.key c.args.marks.now c.in-Some.ensures.place in
    cleared_by _ _ f.0 (λ e. omega (arith, f.1)) refl c.repeated_if.ensures

pub returns-in-None : goal.returns-in-None
returns-in-None c =
    let p = found-none c.args.key c.args.marks.now c.in-None.ensures.place in
    cleared-none _ _ refl (sym p ∙ c.told-marks)
