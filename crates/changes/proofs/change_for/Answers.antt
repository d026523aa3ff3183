-- Each way out is one way through the definition; a key that isn't 0 is that of an active word. What two of five begin
-- with is shorter than the type of a lemma of it.
use native.Mathlib.Omega.{arith}
use Prim.Native.Nat.{ℕ, suc, ◌+◌}
use mathlib.Core.Path.{◌≡◌, sym, ap, ◌∙◌}
use mathlib.Core.List.{List}
use lib.ListN.{length, get_or}
use Rattle.spec.specs.Entries.{code_field}
use Rattle.marks.specs.Marks.{key_in}
use Rattle.changes.specs.Changes.{raised_for, cleared_for, change_for, ChangeFits}
use Rattle.changes.specs.declared.Change.{Change}
use Rattle.changes.proofs.Laws.{change-fits, change-first, change-raised}
use Rattle.changes.proofs.Laws.{change-codeless, change-other, change-cleared}
use Rattle.marks.proofs.Laws.{key-zero, key-some}
use Rattle.changes.proofs.change_for.Goals as goal
use Rattle.changes.proofs.change_for.Goals.{then-code-eq0-via-then-code-eq0, then-code-eq0-via-else-code-eq0+then-not-is_normal}

-- the change by the definition fits
fitting : (ms : List ℕ) (own word : ℕ) {h : Change} → length ms ≡ 8 → h ≡ change_for own ms word → ChangeFits h
fitting ms own word l e = rw e (change-fits ms l own word)

-- the first mark has a key
first_some : (ms : List ℕ) {n : ℕ} → n ≡ key_in (get_or ms 0 0) → (n ≡ 0 → ⊥) → key_in (get_or ms 0 0) ≡ 0 → ⊥
first_some ms is f e = f (is ∙ e)

pub returns-then-key_in-eq0-clause-value : goal.returns-then-key_in-eq0-clause-value
returns-then-key_in-eq0-clause-value c =
    let z = c.args in
    change-first z.own z.marks.now z.word (sym c.key_in.ensures.0 ∙ c.if-key_in-eq0.true)

pub returns-then-key-ne0 : goal.returns-then-key-ne0
returns-then-key-ne0 c =
    let z = c.args in
    let ms = z.marks.now in
    let f = first_some ms c.key_in.ensures.0 c.if-key_in-eq0.false in
    let a = key-some z.own z.word c.key_of-key.ensures.0 c.if-key-ne0.true in
    let e = c.raised.ensures ∙ ap (λ (n : ℕ). raised_for n ms) c.key_of-key.ensures.0
    ∙ change-raised z.own ms z.word f a in
    record { value = e; change_fits = fitting ms z.own z.word c.told-marks e }

pub returns-then-code-eq0-clause-value : goal.returns-then-code-eq0-clause-value
returns-then-code-eq0-clause-value c =
    let z = c.args in
    let f = first_some z.marks.now c.key_in.ensures.0 c.if-key_in-eq0.false in
    let i = key-zero z.own z.word c.key_of-key.ensures.0 c.if-key-ne0.false in
    elim c.then-code-eq0.branch [
      | then-code-eq0-via-then-code-eq0 w ↦
          change-codeless z.own z.marks.now z.word f i (sym c.code_of-code.ensures.0 ∙ w.if-code-eq0.true)
      | then-code-eq0-via-else-code-eq0+then-not-is_normal w ↦
          change-other z.own z.marks.now z.word f i (sym w.is_normal.ensures ∙ w.if-not-is_normal.true)
    ]

pub returns : goal.returns
returns c =
    let z = c.args in
    let ms = z.marks.now in
    let f = first_some ms c.key_in.ensures.0 c.if-key_in-eq0.false in
    let i = key-zero z.own z.word c.key_of-key.ensures.0 c.if-key-ne0.false in
    let o = sym c.is_normal.ensures ∙ c.if-not-is_normal.false in
    let code = c.code_of-code in
    let d : code.result + 1 ≡ suc (code_field z.word) = omega (arith, code.ensures.0) in
    let e = c.cleared.ensures ∙ ap (λ (m : ℕ). cleared_for m ms) d
    ∙ change-cleared z.own ms z.word f i o (λ w. c.if-code-eq0.false (code.ensures.0 ∙ w)) in
    record { value = e; change_fits = fitting ms z.own z.word c.told-marks e }
