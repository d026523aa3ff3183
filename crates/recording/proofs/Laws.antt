-- The test of the packed word about to be overwritten, and one law to each branch of the room for a number; what an
-- addition asks of the tables.
use Prim.Native.Nat.{ℕ, suc, ◌+◌, ◌-◌, ◌*◌, ◌≤◌, ◌<◌}
use mathlib.Core.Path.{◌≡◌, ◌∙◌}
use mathlib.Core.Bool.{Bool, true, false, cond}
use mathlib.Core.List.{List, [], ◌∷◌}
use native.Mathlib.Omega.{arith}
use native.Mathlib.Numerals.{add-one}
use lib.ListN.{length}
use borrow.Author.Tests.{le-leb, lt-leb, lt-ltb, le-ltb, eq-eqb}
use Rattle.spec.specs.Words.{put}
use Rattle.spec.specs.Value.{item_of}
use Rattle.spec.specs.Blocks.{table_rows}
use Rattle.spec.specs.Entries.{form_ok}
use Rattle.history.specs.Observations.{max_number, ring_size, base, last, ring_at, latest_at, checkpoint_at, place}
use Rattle.history.specs.Observations.{Head, item_rows, is_condition, evict, evict_ok}
use Rattle.history.specs.Observations.{latest_ok}
use Rattle.history.specs.Calls.{room_for}
use Rattle.spec.specs.declared.Refusal.TheVariants.{Spent, Store}
use Rattle.std.specs.Prelude.{Ok, Err}
use Rattle.spec.proofs.Tables.{length-put}
use Rattle.spec.proofs.Steps.{form-less}
use Rattle.history.proofs.Added.{length-evict}
use Rattle.history.proofs.Heads.{room-for}
use Rattle.observations.specs.Ring.{ring_word}
use Rattle.stepping.specs.Taking.{takes_one}
use Rattle.plain.specs.Short.{overwritable}
use Rattle.plain.proofs.Laws.{by_word, number-left, next-ring, put-latest}
use Rattle.evicting.specs.Writing.{Overwriting, InTable}
use Rattle.evicting.proofs.Laws.{evict-latest}

-- ---- the test of a packed word

module _ (cat : ℕ → ℕ) (n m : ℕ) (st : List ℕ) (word i : ℕ) (hi : i ≡ item_of word) where
  pub over_none : m ≤ i → false ≡ overwritable cat n m st word
  unfolding overwritable
  over_none h = rw (← hi, le-ltb i m h)

  pub over-entries : i < m → {r : Bool} (w t : ℕ) → w ≡ 8 * m → t ≡ checkpoint_at n m → cat i ≡ 2
      → r ≡ takes_one i (table_rows st t w 8 (8 * i)) word → r ≡ overwritable cat n m st word
  unfolding overwritable takes_one
  over-entries l w t ew et h e = rw (e, et, ew, ← hi, lt-ltb i m l, eq-eqb (cat i) 2 h)

-- ---- the room for a number

module _ (cat : ℕ → ℕ) (st : List ℕ) (m l : ℕ) (hl : l ≡ last st) where
  pub room-spent : max_number ≤ l → Err Spent ≡ room_for cat m st
  unfolding room_for
  room-spent h = rw (le-leb max_number (last st) (omega arith))

  module _ (h : l < max_number) where
    pub room-unused : l + 1 - base st < ring_size st → Ok tt ≡ room_for cat m st
    unfolding room_for evict_ok
    room-unused u = rw (number-left st hl h, lt-leb (ring_size st) (suc (last st) - base st) (omega arith))

    -- where the number overwrites an entry, that entry's packed word decides
    pub room-entry : (p w : ℕ) → ring_size st ≤ l + 1 - base st → p ≡ place (ring_size st) (base st) (l + 1)
        → w ≡ ring_word st (ring_size st) p → (r x : Bool)
        → r ≡ overwritable cat (ring_size st) m st w → r ≡ x → cond x (Ok tt) (Err Store) ≡ room_for cat m st
    unfolding room_for
    room-entry p w u hp hw r x g f =
        let e = by_word cat (ring_size st) m (base st) (l + 1) p w st hp hw u in
        rw (← f, g, number-left st hl h, ← e, hl, add-one (last st))

-- ---- adding

-- with room for it the next number may be written
pub next_fits : {cat : ℕ → ℕ} {m n b l : ℕ} {st : List ℕ} → n ≡ ring_size st → b ≡ base st → l ≡ last st → Head m st
    → room_for cat m st ≡ Ok tt → Overwriting cat n m b (l + 1) st
next_fits {cat} {m} {n} {b} {l} {st} en eb el h e =
    record {
      ring = next-ring en eb el h;
      ok = rw (en, eb, el, add-one (last st)) (room-for cat m st e).1;
    }

-- an item whose latest has its form
pub latest-form : (cat : ℕ → ℕ) (n m : ℕ) (st : List ℕ) (i : ℕ) → latest_ok cat n m st i ≡ true
    → is_condition cat i ≡ true → form_ok i 0 (item_rows st (latest_at n) m i) ≡ true
unfolding latest_ok
latest-form cat n m st i ok c = form-less i (item_rows st (latest_at n) m i) (rw c at ok)

pub latest-in : {cat : ℕ → ℕ} {n m b s item : ℕ} {st : List ℕ} → Overwriting cat n m b s st → item < m
    → (is_condition cat item ≡ true → form_ok item 0 (item_rows st (latest_at n) m item) ≡ true)
    → InTable cat m (latest_at n) item st
latest-in o l f = record { low = l; room = omega (arith, o.ring.len); form = f }

-- the latest stays through the eviction and the ring's entry
module _ (cat : ℕ → ℕ) (n m b s : ℕ) (st : List ℕ) (o : Overwriting cat n m b s st) where
  pub still-in : (p time word item t : ℕ) (x y : List ℕ) → x ≡ evict cat n m b s st → p < n
      → y ≡ put x ring_at n p (time ∷ word ∷ []) → t ≡ latest_at n → InTable cat m (latest_at n) item st
      → InTable cat m t item y
  still-in p time word item t x y ex hp ey et i =
      let len : length y ≡ length st = rw (ey, ex) (length-put _ _ ring_at n p ∙ length-evict cat n m b s st) in
      rw et
      (record {
        low = i.low;
        room = omega (arith, len, i.room);
        form =
            λ c.
            rw (ey, put-latest n m x p time word item hp i.low, ex, evict-latest cat n m b s st o item i.low)
            (i.form c);
      })
