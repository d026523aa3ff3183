-- Each way out is one way through the definition.
use mathlib.Core.Bool.{not}
use mathlib.Core.Path.{refl, sym, ap, ◌∙◌}
use native.Mathlib.Omega.{arith}
use Rattle.changes.specs.Changes.{changed, is_full}
use Rattle.changes.specs.declared.Change.{Change}
use Rattle.marks.proofs.Laws.{found-some, found-none}
use Rattle.changes.proofs.Laws.{raised-full, raised-put}
use Rattle.eights.proofs.raise.Goals as goal

pub returns-in_err-j-clause-value : goal.returns-in_err-j-clause-value
returns-in_err-j-clause-value c =
    let z = c.args in
    let p = found-none z.key z.marks.now (sym c.in_err-j.was ∙ c.find.ensures.place) in
    let e = raised-full z.key z.marks.now refl (sym p ∙ c.told-marks) in
    rw c.from_residual.ensures (ap (λ (x : Change). not (is_full x)) e)

pub returns : goal.returns
returns c =
    let z = c.args in
    let f = found-some z.key z.marks.now (sym c.in_ok-j.was ∙ c.find.ensures.place) in
    let e = raised-put z.key z.marks.now f.0 (λ e. omega (arith, f.1)) in record {
      value = ap (λ (x : Change). not (is_full x)) e;
      marks_after = λ y. ap (λ (x : Change). changed 0 x z.x z.marks.now) e;
    }
