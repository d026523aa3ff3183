-- An item's one row; the entry about to be overwritten, by its packed word, and the room that it leaves; an addition by
-- its writes, and by one row where all rows of the item are unused.
use Prim.Native.Nat.{ℕ, zero, suc, ◌+◌, ◌-◌, ◌*◌, ◌≤◌, ◌<◌}
use mathlib.Core.Path.{◌≡◌, refl, sym, ap, ◌∙◌}
use mathlib.Core.Logic.{◌≢◌, inr}
use mathlib.Core.Bool.{true, false}
use mathlib.Core.List.{List, [], ◌∷◌}
use native.Mathlib.Omega.{arith}
use native.Mathlib.Numerals.{add-one}
use lib.Dec.{leb}
use lib.ListN.{length, set, drop}
use lib.Seq.{set-get_or}
use borrow.Author.Tests.{le-leb, lt-leb, lt-ltb, ne_eqb}
use Rattle.spec.specs.Words.{row, put}
use Rattle.spec.specs.Value.{item_of}
use Rattle.spec.specs.Blocks.{table_rows, put_rows, padded}
use Rattle.spec.specs.Entries.{any_entry, step, used_rows}
use Rattle.history.specs.Observations.{max_number, ring_size, base, last, last_at, ring_at, latest_at, checkpoint_at}
use Rattle.history.specs.Observations.{place, Head, item_at, item_rows, is_condition, stepped, set_newest, overwritten, evict}
use Rattle.history.specs.Observations.{evict_ok, add}
use Rattle.history.specs.Calls.{room_for, added}
use Rattle.std.specs.Prelude.{Ok}
use Rattle.spec.proofs.Words.{by_cond}
use Rattle.spec.proofs.Tables.{row-put-apart}
use Rattle.spec.proofs.Blocks.{table-rows-ext, table-rows-other}
use Rattle.spec.proofs.Steps.{step-length-word}
use Rattle.observations.specs.Ring.{ring_time, ring_word}
use Rattle.plain.specs.Short.{InRing, overwritable, put_number}

-- ---- a table takes an observation of an item without conditions; w is the number of its rows

pub newest-row : (cat : ℕ → ℕ) (st : List ℕ) (t m w item : ℕ) → w ≡ 8 * m → (r e : List ℕ) → cat item ≢ 2
    → e ≡ put st t w (8 * item) r → e ≡ set_newest cat st t m item r
unfolding put_rows
newest-row cat st t m w item ew r e c q = rw (ne_eqb (cat item) 2 c, ← ew) q

-- ---- the entry about to be overwritten

-- its item has no conditions
pub over_plain : (cat : ℕ → ℕ) (n m : ℕ) (st : List ℕ) (word i : ℕ) → i ≡ item_of word → i < m → cat i ≢ 2
    → true ≡ overwritable cat n m st word
unfolding overwritable
over_plain cat n m st word i hi l h = rw (← hi, lt-ltb i m l, ne_eqb (cat i) 2 h)

-- it is at place p, with packed word w
module _ (cat : ℕ → ℕ) (n m b s p w : ℕ) (st : List ℕ) (hp : p ≡ place n b s) (hw : w ≡ ring_word st n p) where
  -- its packed word decides
  pub by_word : n ≤ s - b → evict_ok cat n m b s st ≡ overwritable cat n m st w
  unfolding evict_ok overwritable row
  by_word u =
      rw (
        le-leb _ _ u,
        step-length-word (item_at n b st s) (overwritten n b st s) (0 ∷ 0 ∷ w ∷ []) (rw (hw, hp))
            (used_rows (item_rows st (checkpoint_at n m) m (item_at n b st s))),
        hw,
        hp,
      )

  module _ (i : ℕ) (hi : i ≡ item_of w) (u : n ≤ s - b) where
    pub evicted : (e : List ℕ) (k t : ℕ) → k ≡ s - n → t ≡ ring_time st n p
        → e ≡ set_newest cat st (checkpoint_at n m) m i (k ∷ t ∷ w ∷ []) → e ≡ evict cat n m b s st
    unfolding evict row
    evicted e k t hk ht q = rw (le-leb _ _ u, q, hk, ht, hi, hw, hp)

    -- as its one row, where its item has no conditions
    pub plain-evicted : (e : List ℕ) (time rows t : ℕ) → i < m → cat i ≢ 2 → rows ≡ 8 * m → t ≡ checkpoint_at n m
        → time ≡ ring_time st n p → e ≡ put st t rows (8 * i) ((s - n) ∷ time ∷ w ∷ [])
        → (evict_ok cat n m b s st ≡ true) × (e ≡ evict cat n m b s st)
    plain-evicted e time rows t l c er et ht q = (
      by_word u ∙ sym (over_plain cat n m st w i hi l c),
      evicted e (s - n) time refl ht (newest-row cat st (checkpoint_at n m) m rows i er _ e c (rw et at q)),
    )

pub not-evicted : (cat : ℕ → ℕ) (n m b s : ℕ) (st : List ℕ) → s - b < n → st ≡ evict cat n m b s st
unfolding evict
not-evicted cat n m b s st u = rw (lt-leb _ _ u)

-- an unused place is free
pub free-place : (cat : ℕ → ℕ) (n m b s : ℕ) (st : List ℕ) → s - b < n
    → (evict_ok cat n m b s st ≡ true) × (st ≡ evict cat n m b s st)
unfolding evict_ok
free-place cat n m b s st u = (rw (lt-leb _ _ u), not-evicted cat n m b s st u)

-- ---- the room for a number

pub number-left : {l : ℕ} (st : List ℕ) → l ≡ last st → l < max_number → leb max_number (last st) ≡ false
number-left st hl h = lt-leb max_number (last st) (omega arith)

-- what may be overwritten leaves room
pub room-left : (cat : ℕ → ℕ) (st : List ℕ) (m n b l : ℕ) → n ≡ ring_size st → b ≡ base st → l ≡ last st → l < max_number
    → evict_ok cat n m b (l + 1) st ≡ true → room_for cat m st ≡ Ok tt
unfolding room_for
room-left cat st m n b l hn hb hl h ok = rw (number-left st hl h, rw (hn, hb, hl, add-one (last st)) at ok)

-- ---- adding

-- the next number has its place
pub next-ring : {m n b l : ℕ} {st : List ℕ} → n ≡ ring_size st → b ≡ base st → l ≡ last st → Head m st
    → InRing n m b (l + 1) st
next-ring en eb el h =
    record {
      n_pos = omega (arith, h.n_pos);
      n_max = omega (arith, h.n_max);
      b_s = omega (arith, h.b_last);
      len = rw en h.len;
    }

-- the latest stays through the ring's entry
pub put-latest : (n m : ℕ) (x : List ℕ) (p time word i : ℕ) → p < n → i < m
    → item_rows (put x ring_at n p (time ∷ word ∷ [])) (latest_at n) m i ≡ item_rows x (latest_at n) m i
put-latest n m x p time word i h l =
    table-rows-ext _ x (latest_at n) (8 * m) 8 (8 * i)
    (λ j f g.
    row-put-apart (time ∷ word ∷ []) x ring_at n p (latest_at n) (8 * m) j 3 h (omega arith) (inr (omega arith)))

-- the writes behind an eviction are an addition
pub written : (cat : ℕ → ℕ) (n m b s item time word p t : ℕ) (st x y z v : List ℕ) → x ≡ evict cat n m b s st
    → p ≡ place n b s → y ≡ put x ring_at n p (time ∷ word ∷ []) → t ≡ latest_at n
    → z ≡ set_newest cat y t m item (s ∷ time ∷ word ∷ []) → v ≡ set z last_at s → v ≡ add cat n m b s item time word st
unfolding add
written cat n m b s item time word p t st x y z v ex ep ey et ez ev = rw (ev, ez, et, ey, ex, ep)

-- and so are those by one row, where that row is what the latest takes
pub numbered : (cat : ℕ → ℕ) (n m b s item time word p : ℕ) (st x v : List ℕ) → x ≡ evict cat n m b s st
    → p ≡ place n b s
    → (let y = put x ring_at n p (time ∷ word ∷ []) in
    let r = s ∷ time ∷ word ∷ [] in
    put y (latest_at n) (8 * m) (8 * item) r ≡ set_newest cat y (latest_at n) m item r)
    → v ≡ put_number n m p item s time word x → v ≡ add cat n m b s item time word st
unfolding put_number
numbered cat n m b s item time word p st x v ex ep er ev =
    written cat n m b s item time word p (latest_at n) st x _ _ v ex ep refl refl er ev

-- the next number, by what the head has
pub added_next : (cat : ℕ → ℕ) (m n b l item time word : ℕ) (st v : List ℕ) → n ≡ ring_size st → b ≡ base st
    → l ≡ last st → v ≡ add cat n m b (l + 1) item time word st → v ≡ added cat m st item time word
added_next cat m n b l item time word st v hn hb hl q = rw (hn, hb, hl, add-one (last st)) at q

-- ---- unused rows

-- writing back what stands changes nothing
put_back : (c : ℕ) (st : List ℕ) (b w i : ℕ) → put st b w i (row st b w i c) ≡ st
unfolding put row
put_back zero st b w i = refl
put_back (suc c) st b w i =
    ap (λ (x : List ℕ). put x (b + w) w i (row st (b + w) w i c)) (set-get_or st (b + i) 0) ∙ put_back c st (b + w) w i

put-rows-back : (n : ℕ) (st : List ℕ) (b w k : ℕ) → put_rows st b w k (table_rows st b w n k) ≡ st
unfolding put_rows table_rows
put-rows-back zero st b w k = refl
put-rows-back (suc n) st b w k =
    ap (λ (x : List ℕ). put_rows x b w (suc k) (table_rows st b w n (suc k))) (put_back 3 st b w k)
    ∙ put-rows-back n st b w (suc k)

-- so an item whose rows are all unused takes an observation by its first row, whatever its category
module _ (st : List ℕ) (t m i : ℕ) (r : List ℕ) (l : i < m) (u : item_rows st t m i ≡ padded 8 []) where
  behind-first : length r ≡ 3 → table_rows (put st t (8 * m) (8 * i) r) t (8 * m) 7 (suc (8 * i)) ≡ padded 7 []
  unfolding table_rows put_rows padded
  behind-first h =
      table-rows-other (r ∷ []) st t (8 * m) (8 * i) (h, tt) (omega arith) 7 (suc (8 * i)) (omega arith)
      (inr (omega arith))
      ∙ ap (drop 1) u

  step-none : stepped st t m i r ≡ r ∷ []
  unfolding step any_entry used_rows padded
  step-none = rw u

  pub newest-first : (cat : ℕ → ℕ) → length r ≡ 3 → put st t (8 * m) (8 * i) r ≡ set_newest cat st t m i r
  unfolding put_rows padded
  newest-first cat h =
      let x = put st t (8 * m) (8 * i) r in
      by_cond (λ (rs : List (List ℕ)). x ≡ put_rows st t (8 * m) (8 * i) rs) (is_condition cat i) _ _
      (λ e.
      rw step-none
      (sym (put-rows-back 7 x t (8 * m) (suc (8 * i))) ∙ ap (put_rows x t (8 * m) (suc (8 * i))) (behind-first h)))
      (λ e. refl)
