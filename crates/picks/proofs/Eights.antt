-- The marks of all items: a step changes those of its own item alone.
use Prim.Native.Nat.{ℕ, suc, ◌<◌}
use mathlib.Core.Path.{◌≡◌, refl, sym, ap, ◌∙◌}
use mathlib.Core.Bool.{Bool, true, false, cond, ◌&&◌, not, and-false}
use mathlib.Core.List.{List, []}
use native.Mathlib.Omega.{arith}
use lib.Dec.{eqb}
use lib.ListN.{length, get_or, set, length-set}
use Rattle.std.proofs.lemmas.List.{get_or-set_same, get_or-set_other}
use borrow.Author.Tests.{eqb-true, eqb-false, eq-eqb}
use Rattle.spec.specs.Model.{max_items}
use Rattle.spec.specs.Words.{bit}
use Rattle.spec.proofs.Words.{by-test}
use Rattle.spec.specs.Entries.{normal, code_field}
use Rattle.marks.specs.Marks.{mark_of, key_in, key_of, eight_of, place_of}
use Rattle.changes.specs.Changes.{raised_for, cleared_for, change_for, changed, is_full}
use Rattle.changes.specs.declared.Change.{Change}
use Rattle.marks.proofs.Laws.{key-zero, key-some}
use Rattle.changes.proofs.Laws.{change-first, change-raised}
use Rattle.picks.specs.Pass.{stepped_eight, stepped}

-- ---- marks of one item, and of the others

pub eight-same : (vs : List ℕ) (l : List (List ℕ)) (i : ℕ) → i < length l → eight_of (set l i vs) i ≡ vs
eight-same vs l i h = get_or-set_same l i vs [] h

pub eight-other : (vs : List ℕ) (l : List (List ℕ)) (i j : ℕ) → (j ≡ i → ⊥) → eight_of (set l j vs) i ≡ eight_of l i
eight-other vs l i j n = get_or-set_other l j i vs [] (λ e. n (sym e))

-- ---- a step of one item's

module _ (place word : ℕ) where
  -- item i's eight behind an entry of item j
  pub eight-stepped : (steps i j : ℕ) (l : List (List ℕ)) → length l ≡ max_items → i < max_items
      → eight_of (stepped steps j place word l) i
      ≡ cond (bit steps i && eqb j i) (stepped_eight i place word (eight_of l i)) (eight_of l i)
  eight-stepped steps i j l n h =
      by-test (eqb j i)
      (λ t.
      let e : j ≡ i = eqb-true j i t in
      by-test (bit steps j)
      (λ b. rw (← e, b, eq-eqb j j refl) (eight-same (stepped_eight j place word (eight_of l j)) l j (omega arith)))
      (λ b. rw (← e, b)))
      (λ t.
      rw (t, and-false (bit steps i))
      (by-test (bit steps j)
      (λ b. rw b (eight-other (stepped_eight j place word (eight_of l j)) l i j (eqb-false j i t)))
      (λ b. rw b)))

  pub length-all-stepped : (steps j : ℕ) (l : List (List ℕ)) → length (stepped steps j place word l) ≡ length l
  length-all-stepped steps j l =
      by-test (bit steps j) (λ b. rw b (length-set l j (stepped_eight j place word (eight_of l j)))) (λ b. rw b)

-- ---- the step as it is done

-- a Normal is no ninth entry
clear-fits : (key : ℕ) (ms : List ℕ) → is_full (cleared_for key ms) ≡ false
unfolding cleared_for
clear-fits key ms =
    by-test (eqb (place_of key ms) 8)
    (λ a. rw a)
    (λ a.
    by-test (eqb (get_or ms (place_of key ms) 0) 0)
    (λ b. rw (a, b))
    (λ b. by-test (eqb (get_or ms 1 0) 0) (λ c. rw (a, b, c)) (λ c. rw (a, b, c))))

-- of any other observation, and where none is active
module _ (i place word : ℕ) (ms : List ℕ) where
  pub idle-fits : {k : ℕ} → k ≡ key_of i word → k ≡ 0 → true ≡ not (is_full (change_for i ms word))
  unfolding change_for
  idle-fits ek z =
      by-test (eqb (key_in (get_or ms 0 0)) 0)
      (λ a. rw a)
      (λ a.
      by-test (normal word && not (eqb (code_field word) 0))
      (λ b. rw (a, key-zero i word ek z, b, clear-fits (suc (code_field word)) ms))
      (λ b. rw (a, key-zero i word ek z, b)))

  pub first_fits : {x : ℕ} → x ≡ key_in (get_or ms 0 0) → x ≡ 0 → true ≡ not (is_full (change_for i ms word))
  first_fits ex z = ap (λ (c : Change). not (is_full c)) (change-first i ms word (sym ex ∙ z))

  pub change-step : {c : Change} {y k : ℕ} {r : List ℕ} → c ≡ change_for i ms word → y ≡ mark_of place k
      → k ≡ key_of i word → r ≡ changed 0 c y ms → r ≡ stepped_eight i place word ms
  change-step ec ey ek er = er ∙ rw (ey, ek, ec)

-- of a Warning or Fault, k being its key, where x, the first mark's, isn't 0
module _ (i place word : ℕ) (ms : List ℕ) {k x : ℕ} (ek : k ≡ key_of i word) (some : k ≡ 0 → ⊥)
    (ex : x ≡ key_in (get_or ms 0 0)) (first : x ≡ 0 → ⊥) where
  raised_is : raised_for k ms ≡ change_for i ms word
  raised_is = rw ek (change-raised i ms word (λ z. first (ex ∙ z)) (key-some i word ek some))

  pub raise-fits : {t : Bool} → t ≡ not (is_full (raised_for k ms)) → t ≡ not (is_full (change_for i ms word))
  raise-fits e = e ∙ ap (λ (c : Change). not (is_full c)) raised_is

  pub raise-step : {y : ℕ} {r : List ℕ} → y ≡ mark_of place k → r ≡ changed 0 (raised_for k ms) y ms
      → r ≡ stepped_eight i place word ms
  raise-step ey er = er ∙ rw (raised_is, ey, ek)
