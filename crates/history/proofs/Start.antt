-- Start's store stands for the H of one Unavailable per item, whatever N is.
use mathlib.Core.Path.{◌≡◌, refl, sym}
use Prim.Native.Nat.{ℕ, zero, suc, ◌+◌, ◌-◌, ◌*◌, ◌≤◌, ◌<◌}
use native.Mathlib.Nat.{not-suc-le-zero}
use native.Mathlib.Omega.{arith}
use mathlib.Core.List.{List, [], ◌∷◌, ◌++◌, append-nil}
use lib.Dec.{eqb}
use lib.ListN.{length, get_or, replicate, length-replicate, length-append}
use lib.Seq.{append_snoc, take-nil}
use Rattle.spec.specs.Words.{row}
use Rattle.spec.specs.Value.{pack}
use Rattle.history.specs.Reference.{Observation, newest_or, unavailable}
use Rattle.spec.specs.declared.Value.TheVariants.{Unavailable}
use Rattle.spec.specs.Blocks.{table_rows, padded}
use Rattle.history.specs.Standing.{standing_from, entries_of}
use Rattle.history.specs.Observations.{latest_at, checkpoint_at, blank, add, add_all, start_store}
use Rattle.spec.proofs.Words.{by-test}
use Rattle.history.proofs.Kept.{Stand, Rep, next, add-rep}

zeros : (n k : ℕ) → get_or {A = ℕ} (replicate n 0) k 0 ≡ 0
zeros zero k = refl
zeros (suc n) zero = refl
zeros (suc n) (suc k) = zeros n k

blank-zero : (N m B j : ℕ) → 4 ≤ j → get_or (blank N m B) j 0 ≡ 0
unfolding blank
blank-zero N m B zero h = omega arith
blank-zero N m B (suc zero) h = omega arith
blank-zero N m B (suc (suc zero)) h = omega arith
blank-zero N m B (suc (suc (suc zero))) h = omega arith
blank-zero N m B (suc (suc (suc (suc j)))) h = zeros (2 * N + 48 * m) j

blank-rows : (N m B b w n k : ℕ) → 4 ≤ b → table_rows (blank N m B) b w n k ≡ padded n []
unfolding table_rows row padded
blank-rows N m B b w zero k h = refl
blank-rows N m B b w (suc n) k h =
    rw (
      blank-zero N m B (b + k) (omega arith),
      blank-zero N m B (b + w + k) (omega arith),
      blank-zero N m B (b + w + w + k) (omega arith),
      blank-rows N m B b w n (suc k) h,
    )

pub none_of : (c i : ℕ) → entries_of c i [] ≡ []
unfolding entries_of standing_from newest_or
none_of c i = by-test (eqb c 2) (λ e. rw e) (λ e. rw e)

blank-stand : (cat : ℕ → ℕ) (N m B b : ℕ) → 4 ≤ b → Stand cat b m [] (blank N m B)
blank-stand cat N m B b h i l = rw (none_of (cat i) i) (blank-rows N m B b (8 * m) 8 (8 * i) h)

pub blank-rep : (cat : ℕ → ℕ) (N m B : ℕ) → 0 < N → 0 < B → Rep cat N m B [] (blank N m B)
unfolding blank standing_from
blank-rep cat N m B hN hB =
    record {
      N-pos = hN;
      B-pos = hB;
      words = omega (arith, length-replicate {A = ℕ} (2 * N + 48 * m) 0);
      cap = refl;
      items = refl;
      base = refl;
      last = omega arith;
      ring = λ k h l. absurd (not-suc-le-zero h);
      latest = blank-stand cat N m B (latest_at N) (omega arith);
      checkpoint = rw (take-nil {A = Observation} (0 - N)) (blank-stand cat N m B (checkpoint_at N m) (omega arith));
      numbered = tt;
      fits = λ k h. absurd (not-suc-le-zero h);
      few = λ i k c. rw (take-nil {A = Observation} k) (omega arith);
    }

add-all : (cat : ℕ → ℕ) (N m B host k n item : ℕ) (H : List Observation) (st : List ℕ) → Rep cat N m B H st
    → n ≡ B + length H → item + k ≤ m
    → Rep cat N m B (H ++ unavailable k n item host) (add_all cat N m B host k n item st)
unfolding add_all unavailable
add-all cat N m B host zero n item H st R e h = rw (append-nil H) R
add-all cat N m B host (suc k) n item H st R e h =
    rw (e, sym (append_snoc H (next B H item host Unavailable) (unavailable k (suc (B + length H)) (suc item) host)))
    (add-all cat N m B host k (suc (B + length H)) (suc item) (H ++ (next B H item host Unavailable ∷ []))
    (add cat N m B (B + length H) item host (pack item Unavailable) st)
    (add-rep cat N m B H st item host Unavailable R (omega arith) tt (λ c. refl))
    (omega (arith, length-append H (next B H item host Unavailable ∷ []))) (omega arith))

pub start-rep : (cat : ℕ → ℕ) (N m B host : ℕ) → 0 < N → 0 < B
    → Rep cat N m B (unavailable m B 0 host) (start_store cat N m B host)
unfolding start_store
start-rep cat N m B host hN hB =
    add-all cat N m B host m B 0 [] (blank N m B) (blank-rep cat N m B hN hB) (omega arith) (omega arith)
