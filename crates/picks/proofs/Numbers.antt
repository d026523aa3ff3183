-- One more number of the pass, and runs of the ring.
use Prim.Native.Nat.{ℕ, zero, suc, ◌+◌, ◌-◌, ◌≤◌, ◌<◌}
use mathlib.Core.Path.{◌≡◌}
use mathlib.Core.List.{List}
use native.Mathlib.Numerals.{add-one}
use native.Mathlib.Omega.{arith}
use lib.ListN.{set}
use Rattle.spec.specs.Value.{item_of}
use Rattle.spec.proofs.Words.{one-more, none-left}
use Rattle.history.specs.Observations.{ring_size, base, place}
use Rattle.rows.specs.Rows.{Unwrapped}
use Rattle.rows.proofs.Ranges.{run-next}
use Rattle.rows.proofs.Laws.{word_at}
use Rattle.picks.specs.Pass.{seen_from}

-- ---- the newest places

pub seen_end : (st : List ℕ) (f s e : ℕ) (w : List ℕ) → e ≤ s → seen_from st f (e - s) s w ≡ w
unfolding seen_from
seen_end st f s e w h = rw (none-left s e h)

-- one number, at place q
pub seen_step : (st : List ℕ) (f s e q : ℕ) (w : List ℕ) → s < e → q ≡ place (ring_size st) (base st) s
    → seen_from st f (e - s) s w ≡ seen_from st f (e - (s + 1)) (s + 1) (set w (item_of (word_at st q)) (s - f + 9))
unfolding seen_from
seen_step st f s e q w h i = rw (one-more s e h, add-one s, i)

-- ---- runs of the ring

pub run-add : {N B e s q : ℕ} (k : ℕ) → Unwrapped N B e s q → s + k ≤ e → Unwrapped N B e (s + k) (q + k)
run-add {N} {B} {e} {s} {q} zero r h =
    let a : s + 0 ≡ s = omega arith in let b : q + 0 ≡ q = omega arith in rw (a, b) r
run-add {N} {B} {e} {s} {q} (suc k) r h =
    let a : s + suc k ≡ s + 1 + k = omega arith in
    let b : q + suc k ≡ q + 1 + k = omega arith in
    rw (a, b) (run-add {N = N} {B = B} {e = e} {s = s + 1} {q = q + 1} k (run-next r (omega arith)) (omega arith))

pub run_at : {N B e s q : ℕ} → Unwrapped N B e s q → (j : ℕ) → j < e - s → (q + j ≡ place N B (s + j)) × (q + j < N)
run_at {N} {B} {e} {s} {q} r j h =
    let u = run-add j r (omega arith) in (u.is (omega arith), omega (arith, r.room))
