-- Whether an item is asked for Same, and what is found in the latest of one without conditions.
use Prim.Native.Nat.{ℕ}
use mathlib.Core.Path.{◌≡◌}
use mathlib.Core.Logic.{◌≢◌}
use mathlib.Core.Bool.{Bool, true, false}
use mathlib.Core.List.{List}
use lib.Dec.{eqb}
use lib.ListN.{get_or}
use borrow.Author.Tests.{eq-eqb, ne_eqb}
use Rattle.spec.specs.Model.{discrete}
use Rattle.spec.specs.Value.{repeats}
use Rattle.history.specs.Observations.{ring_size, latest_at, item_row, latest_ok, repeats_at, crowded_at}
use Rattle.history.specs.Calls.{room_for, observe_by}
use Rattle.std.specs.Prelude.{Result, Ok}
use Rattle.spec.specs.declared.Refusal.{Refusal}
use Rattle.spec.proofs.Words.{told}
use Rattle.judging.specs.declared.Judged.{Judged}
use Rattle.judging.specs.declared.Judged.TheVariants.{Repeated, New}
use Rattle.short_way.specs.Found.{found, found_gives, observed_by}

module _ (k l w : ℕ) where
  pub asked : k ≢ discrete → {x : ℕ} → x ≡ l → eqb x w ≡ repeats k l w
  unfolding repeats
  asked h e = rw (ne_eqb _ _ h, e)

  pub not-asked : k ≡ discrete → false ≡ repeats k l w
  unfolding repeats
  not-asked h = rw (eq-eqb _ _ h)

-- ---- what is found

module _ (cat : ℕ → ℕ) (n m : ℕ) (st : List ℕ) (item word : ℕ) where
  -- another's one word
  module _ (c : cat item ≢ 2) {s : Bool}
      (es : s ≡ repeats (cat item) (get_or (item_row st (latest_at n) m item) 2 0) word) where
    pub found-same : s ≡ true → Ok Repeated ≡ found cat n m st item word
    unfolding found latest_ok repeats_at crowded_at
    found-same g = rw (ne_eqb (cat item) 2 c, told es g)

    pub found-new : s ≡ false → Ok New ≡ found cat n m st item word
    unfolding found latest_ok repeats_at crowded_at
    found-new g = rw (ne_eqb (cat item) 2 c, told es g)

-- what is found decides
pub by-found : (cat : ℕ → ℕ) (m : ℕ) (st : List ℕ) (item time word : ℕ) (j : Result Judged Refusal)
    → j ≡ found cat (ring_size st) m st item word
    → observed_by cat m st item time word
    ≡ found_gives j (observe_by (room_for cat m st) cat m st item time word) st
unfolding observed_by
by-found cat m st item time word j e = rw (← e)
