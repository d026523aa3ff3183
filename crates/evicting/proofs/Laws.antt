-- A table that takes an observation, and the entry about to be overwritten: what its item's checkpoint asks, and that no
-- item's latest changes by it.
use Prim.Native.Nat.{ℕ, ◌-◌, ◌*◌, ◌^◌, ◌≤◌, ◌<◌}
use mathlib.Core.Path.{◌≡◌, refl, sym, ◌∙◌}
use mathlib.Core.Logic.{inl}
use mathlib.Core.Bool.{true}
use mathlib.Core.List.{List}
use native.Mathlib.Omega.{arith}
use lib.Dec.{ltb}
use lib.ListN.{length}
use borrow.Author.Tests.{le-leb, eq-eqb}
use Rattle.spec.specs.Words.{row}
use Rattle.spec.specs.Model.{max_items}
use Rattle.spec.specs.Value.{item_of}
use Rattle.spec.specs.Blocks.{table_rows, put_rows, padded}
use Rattle.spec.specs.Entries.{step, used_rows, form_ok}
use Rattle.history.specs.Observations.{latest_at, checkpoint_at, place}
use Rattle.history.specs.Observations.{item_at, item_rows, is_condition, set_newest, overwrites, overwritten, evict}
use Rattle.spec.proofs.Words.{and_left, and_right, by_cond}
use Rattle.spec.proofs.Blocks.{table-rows-apart}
use Rattle.history.proofs.Added.{rows_for, rows-for-three, rows-for-few, evict-item}
use Rattle.observations.specs.Ring.{ring_word}
use Rattle.entries.specs.Forms.{EightRows}
use Rattle.plain.specs.Short.{overwritable}
use Rattle.plain.proofs.Laws.{by_word}
use Rattle.evicting.specs.Writing.{Overwriting, InTable}

-- ---- a table that takes an observation; k is the number of items that the code has

module _ (cat : ℕ → ℕ) (st : List ℕ) (t m k item : ℕ) (em : k ≡ m) where
  -- what the step of a condition item's entries asks
  pub step_fits : InTable cat m t item st → k ≤ max_items → cat item ≡ 2
      → EightRows (8 * k) t (8 * item) (length st)
      × ((item < 2 ^ 24) × (form_ok item 0 (table_rows st t (8 * k) 8 (8 * item)) ≡ true))
  step_fits i h c =
      rw em (
        record { inside = omega (arith, i.low); room = omega (arith, i.room) },
        (omega (arith, i.low), i.form (eq-eqb (cat item) 2 c)),
      )

  pub newest-entries : (r e : List ℕ) → cat item ≡ 2
      → e ≡ put_rows st t (8 * k) (8 * item) (padded 8 (step item (used_rows (table_rows st t (8 * k) 8 (8 * item))) r))
      → e ≡ set_newest cat st t m item r
  newest-entries r e c q = rw (eq-eqb (cat item) 2 c, ← em) q

-- ---- the test of a packed word

module _ (cat : ℕ → ℕ) (n m : ℕ) (st : List ℕ) (word i : ℕ) (hi : i ≡ item_of word) where
  -- what it says of a condition item's checkpoint
  pub over-form : overwritable cat n m st word ≡ true → is_condition cat i ≡ true
      → form_ok i 0 (item_rows st (checkpoint_at n m) m i) ≡ true
  unfolding overwritable
  over-form ok c =
      let a = and_right (ltb i m) _ (rw (← hi) at ok) in
      and_left (form_ok i 0 (item_rows st (checkpoint_at n m) m i)) _ (rw c at a)

-- ---- the entry about to be overwritten, at place p with packed word w: what its item's checkpoint asks

pub goes_in : (cat : ℕ → ℕ) (n m b s p w : ℕ) (st : List ℕ) → p ≡ place n b s → w ≡ ring_word st n p → (i : ℕ)
    → i ≡ item_of w → n ≤ s - b → Overwriting cat n m b s st → InTable cat m (checkpoint_at n m) i st
goes_in cat n m b s p w st hp hw i hi u o =
    let there : i ≡ item_at n b st s = rw (hi, hw, hp) in
    record {
      low = rw there (evict-item cat n m b s st o.ok (le-leb _ _ u));
      room = omega (arith, o.ring.len);
      form = over-form cat n m st w i hi (sym (by_word cat n m b s p w st hp hw u) ∙ o.ok);
    }

-- ---- the latest

-- it stays through the eviction
module _ (cat : ℕ → ℕ) (n m b s : ℕ) (st : List ℕ) (o : Overwriting cat n m b s st) where
  pub evict-latest : (i : ℕ) → i < m
      → item_rows (evict cat n m b s st) (latest_at n) m i ≡ item_rows st (latest_at n) m i
  unfolding evict row
  evict-latest i l =
      by_cond (λ (x : List ℕ). item_rows x (latest_at n) m i ≡ item_rows st (latest_at n) m i) (overwrites n b s) _ _
      (λ e.
      let j = item_at n b st s in
      let r = overwritten n b st s in
      let low = evict-item cat n m b s st o.ok e in
      table-rows-apart (rows_for cat st (checkpoint_at n m) m j r) st (checkpoint_at n m) (8 * m) (8 * j)
      (rows-for-three cat st (checkpoint_at n m) m j r refl)
      (omega (arith, rows-for-few cat st (checkpoint_at n m) m j r))
      (latest_at n) (8 * m) 8 (8 * i) (omega arith) (inl (omega arith)))
      (λ e. refl)
