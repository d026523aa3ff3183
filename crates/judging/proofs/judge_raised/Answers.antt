-- The place of the key decides, and the row there.
use mathlib.Core.Path.{refl, sym, ◌∙◌}
use native.Mathlib.Omega.{arith}
use Rattle.spec.proofs.Refused.{handed-on, none-of}
use Rattle.marks.proofs.Laws.{found-some, found-none}
use Rattle.judging.proofs.Laws.{raised-none, raised-free, raised_by}
use Rattle.judging.proofs.judge_raised.Goals as goal

pub returns-in_err-j : goal.returns-in_err-j
returns-in_err-j c =
    let e = c.in_err-j.ensures.ok_part in
    let n = found-none c.args.key c.args.marks.now (sym e ∙ c.find.ensures.place) in
    handed-on _ c.from_residual.ensures.1 (none-of c.find.result c.ok_or.ensures.value c.in_err-j.was).1
    ∙ raised-none _ _ refl _ _ (sym n ∙ c.told-marks)

pub returns-then-marks-j-eq0 : goal.returns-then-marks-j-eq0
returns-then-marks-j-eq0 c =
    let f = found-some c.args.key c.args.marks.now (sym c.in_ok-j.ensures.ok_part ∙ c.find.ensures.place) in
    raised-free _ _ f.0 _ _ (λ e. omega (arith, f.1)) c.if-marks-j-eq0.true

pub returns : goal.returns
returns c =
    let f = found-some c.args.key c.args.marks.now (sym c.in_ok-j.ensures.ok_part ∙ c.find.ensures.place) in
    raised_by _ _ f.0 _ _ (λ e. omega (arith, f.1)) c.if-marks-j-eq0.false
    c.row-row.ensures c.repeated_if.ensures
