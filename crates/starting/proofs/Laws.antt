-- What start's test decides, and the sizes that the writer of the observation store asks for.
use Prim.Native.Nat.{ℕ}
use mathlib.Core.Path.{◌≡◌}
use mathlib.Core.Bool.{Bool, true}
use Rattle.history.specs.Observations.{store_words}
use Rattle.history.specs.Calls.{start_ok}
use Rattle.history.proofs.Begin.{StartSizes, start-sizes}
use Rattle.spec.proofs.Words.{told}
use Rattle.starting.specs.Start.{Starting}

module _ (m n a b words size : ℕ) where
  -- a test that passed
  pub begins : {t : Bool} → t ≡ start_ok m n a b words size → t ≡ true → StartSizes m n a b words size
  begins is so = start-sizes m n a b words size (told is so)

-- for the model's items, of which the accessor gave m: what was tested, and what the writer asks
pub start-told : {m k : ℕ} {t c : Bool} (n a b words size : ℕ) → m ≡ k → t ≡ start_ok m n a b words size → t ≡ c
    → start_ok k n a b words size ≡ c
start-told n a b words size e is so = rw (← e) (told is so)

pub store-sizes : {m k n a b words size : ℕ} → m ≡ k → StartSizes m n a b words size
    → Starting n k b × (words ≡ store_words n k)
store-sizes e h =
    rw (← e)
    (record { n_pos = h.N-low; n_max = h.N-high; b_pos = h.B-low; b_max = h.B-high }, h.words-is)
