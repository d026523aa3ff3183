-- Each way out is one way through the definition, at the place that is found. Each cites its own law: what they shared
-- is the clause of find.
use mathlib.Core.Path.{refl, sym, ◌∙◌}
use native.Mathlib.Omega.{arith}
use Rattle.marks.proofs.Laws.{found-some, found-none}
use Rattle.changes.proofs.Laws.{cleared-none, cleared-unused, cleared-last, cleared-out}
use Rattle.changes.proofs.cleared.Goals as goal

pub returns-then-marks-eq0 : goal.returns-then-marks-eq0
returns-then-marks-eq0 c =
    let z = c.args in
    let f = found-some z.key z.marks.now c.in-Some.ensures.place in
    cleared-last z.key z.marks.now f.0 (λ e. omega (arith, f.1)) c.if-marks-j-ne0.true c.if-marks-eq0.true

pub returns-else-marks-eq0 : goal.returns-else-marks-eq0
returns-else-marks-eq0 c =
    let z = c.args in
    let f = found-some z.key z.marks.now c.in-Some.ensures.place in
    cleared-out z.key z.marks.now f.0 (λ e. omega (arith, f.1)) c.if-marks-j-ne0.true c.if-marks-eq0.false

pub returns-in_default : goal.returns-in_default
returns-in_default c =
    let z = c.args in
    let f = found-some z.key z.marks.now c.in-Some.ensures.place in
    cleared-unused z.key z.marks.now f.0 (λ e. omega (arith, f.1)) c.if-marks-j-ne0.false

pub returns-in_default-2 : goal.returns-in_default-2
returns-in_default-2 c =
    let z = c.args in
    let p = found-none z.key z.marks.now c.in_default.ensures.place in
    cleared-none z.key z.marks.now refl (sym p ∙ c.told-marks)
