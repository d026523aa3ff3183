-- The marks tell, branch by branch, what observe finds of the used rows.
use native.Mathlib.Numerals.{add-one}
use Rattle.marks.proofs.Laws.{key-zero, key-some}
use Rattle.entries.specs.declared.Filled.{Filled}
use Rattle.entries.proofs.Kept.{kept-none}
use Rattle.entries.specs.Forms.{FilledBy}
use Rattle.spec.specs.Entries.{active}
use Rattle.judging.proofs.Laws.{some-filled, judged-unused, judged-raised, judged-first, judged-idle}
use Rattle.std.proofs.Common.{rules, tests}
use Rattle.spec.proofs.Refused.{handed-on, none-of}
use Rattle.judging.proofs.Laws.{judged-cleared, judged-all}
use Prim.Native.Nat.{suc}
use mathlib.Core.Path.{◌≡◌, sym, ap, ◌∙◌}
use mathlib.Core.Bool.{false}
use Rattle.std.specs.Prelude.{Ok}
use Rattle.judging.specs.declared.Judged.{Judged}
use Rattle.judging.proofs.judge.Goals as goal
use Rattle.judging.proofs.judge.Goals.{In_ok-filled, After-row-first}

-- one row at least is used, and the marks are theirs
used : (c : In_ok-filled) → let f = c.in_ok-filled.filled in
    FilledBy c.args.own c.args.entries.now f.marks f.used × (f.used ≡ 0 → ⊥)
used c =
    some-filled c.fill.result c.filter.result c.fill.ensures c.filter.ensures (λ f b q. search (rules, tests))
    c.in_ok-filled.ensures.ok_part

-- behind the first test the word is not active
idle : (c : After-row-first) → active c.args.own c.args.word ≡ false
idle c = key-zero _ _ c.key_of-key.ensures.0 c.if-key-ne0.false

pub returns-in_err-filled : goal.returns-in_err-filled
returns-in_err-filled c =
    let e = c.in_err-filled.ensures.ok_part in
    let r = none-of c.filter.result c.ok_or.ensures.value c.in_err-filled.was in
    let k = kept-none (λ (f : Filled). f.used) c.fill.result c.filter.result _ c.filter.ensures (λ f b q. search (rules, tests)) e in
    handed-on _ c.from_residual.ensures.1 r.1 ∙ judged-unused _ _ _ c.fill.ensures k

pub returns-then-key-ne0 : goal.returns-then-key-ne0
returns-then-key-ne0 c =
    let d = used (goal.at.returns-then-key-ne0 c).In_ok-filled in
    let some = key-some _ _ c.key_of-key.ensures.0 c.if-key-ne0.true in
    c.judge_raised.ensures ∙ judged-raised d.0 d.1 _ some c.key_of-key.ensures.0

pub returns-then-not-is_normal : goal.returns-then-not-is_normal
returns-then-not-is_normal c =
    let d = used (goal.at.returns-then-not-is_normal c).In_ok-filled in
    let i = idle (goal.at.returns-then-not-is_normal c).After-row-first in
    judged-first d.0 d.1 _ i c.row-first.ensures
    (sym c.is_normal.ensures ∙ c.if-not-is_normal.true) c.repeated_if.ensures

pub returns-then-code-ne0 : goal.returns-then-code-ne0
returns-then-code-ne0 c =
    let d = used (goal.at.returns-then-code-ne0 c).In_ok-filled in
    let i = idle (goal.at.returns-then-code-ne0 c).After-row-first in
    ap (λ (x : Judged). Ok x) c.judge_cleared.ensures
    ∙ judged-cleared d.0 d.1 _ i (sym c.is_normal.ensures ∙ c.if-not-is_normal.false)
    (λ y. c.if-code-ne0.true (c.code_of-code.ensures.0 ∙ y)) (add-one _ ∙ ap suc c.code_of-code.ensures.0)

pub returns-then-key_in-ne0 : goal.returns-then-key_in-ne0
returns-then-key_in-ne0 c =
    let d = used (goal.at.returns-then-key_in-ne0 c).In_ok-filled in
    let i = idle (goal.at.returns-then-key_in-ne0 c).After-row-first in
    judged-all d.0 d.1 _ i (sym c.is_normal.ensures ∙ c.if-not-is_normal.false)
    (sym c.code_of-code.ensures.0 ∙ c.if-code-ne0.false)
    (λ y. c.if-key_in-ne0.true (c.key_in.ensures.0 ∙ y))

pub returns : goal.returns
returns c =
    let d = used (goal.at.returns c).In_ok-filled in
    let i = idle (goal.at.returns c).After-row-first in
    judged-idle d.0 d.1 _ i c.row-first.ensures
    (sym c.is_normal.ensures ∙ c.if-not-is_normal.false)
    (sym c.code_of-code.ensures.0 ∙ c.if-code-ne0.false)
    (sym c.key_in.ensures.0 ∙ c.if-key_in-ne0.false)
    (rw c.pack.ensures at c.repeated_if-2.ensures)
