-- The calls of the bench case, one behind the other, leave its stores, and a request behind them gives its reply.
use Prim.Native.Nat.{ℕ, zero, suc, ◌+◌, ◌≤◌, ◌<◌}
use native.Mathlib.Omega.{arith}
use mathlib.Core.Path.{◌≡◌, refl, ap}
use mathlib.Core.List.{List, [], ◌∷◌}
use lib.IntN.{pos, negsuc}
use lib.ListN.{length, replicate, get_or, drop, drop_of_length-le}
use Rattle.history.specs.Calls
use Rattle.cases.specs.Bench.{bench_model, bench_names, bench_words, bench_bytes, bench_observes, bench_stores}
use Rattle.cases.specs.Bench.{bench_request}
use Rattle.history.specs.History.{Stores, stores_after}
use Rattle.history.specs.History.Call.{observe}
use Rattle.spec.specs.Answers.{Answer}
use Rattle.spec.specs.declared.Value.{Value}
use Rattle.spec.specs.declared.Value.TheVariants.{Sample, Unavailable}
use Rattle.bench.specs.Print.{reply_length}
use Rattle.bench.proofs.Lengths.{request-within}

-- ---- a loop that makes the observes: those from the i-th on lead from the stores st and bs to the bench case's
abbrev pub Ahead : (st bs : List ℕ) (i : ℕ) → Type 0
Ahead st bs i =
    stores_after bench_model bench_names (record { observations = st; assets = bs }) (drop i bench_observes) ≡ bench_stores

pub ahead-start : {model names st bs s a : List ℕ}
    → model ≡ bench_model
    → names ≡ bench_names
    → st ≡ replicate bench_words 0
    → bs ≡ replicate bench_bytes 0
    → s ≡ (Calls.start model names st bs 3 1 1 1000).observations
    → a ≡ (Calls.start model names st bs 3 1 1 1000).assets
    → Ahead s a 0
unfolding bench_stores
ahead-start em en es eb e f = rw (e, f, em, en, es, eb)

-- time, host time and value of each, and the observe that they make
abbrev pub timed : List (ℕ × ℕ × Value)
timed = (1010, 1010, Sample (pos 5000)) ∷ (1020, 1020, Sample (pos 5000)) ∷ (0, 1030, Sample (negsuc 0)) ∷ []

pub next-observe : (i : ℕ) → i < 3
    → (let x = get_or timed i (0, 0, Unavailable) in
    drop i bench_observes ≡ observe 1 x.0 x.1 x.2 ∷ drop (i + 1) bench_observes)
next-observe zero h = refl
next-observe (suc zero) h = refl
next-observe (suc (suc zero)) h = refl
next-observe (suc (suc (suc i))) h = absurd (omega arith)

pub ahead-more : (st bs : List ℕ) (i : ℕ) {model names s : List ℕ} {time host : ℕ} {v : Value} → Ahead st bs i
    → model ≡ bench_model
    → names ≡ bench_names
    → drop i bench_observes ≡ observe 1 time host v ∷ drop (i + 1) bench_observes
    → s ≡ (Calls.observe model names st 1 time host v).observations
    → Ahead s bs (i + 1)
unfolding stores_after
ahead-more st bs i h em en next e = rw (e, em, en) (rw next at h)

pub ahead-end : {st bs : List ℕ} {i : ℕ} → Ahead st bs i → 3 ≤ i
    → (st ≡ bench_stores.observations) × (bs ≡ bench_stores.assets)
unfolding stores_after
ahead-end {st} {bs} {i} h n =
    let z = rw (drop_of_length-le bench_observes {i = i} n) at h in
    (ap (λ (s : Stores). s.observations) z, ap (λ (s : Stores). s.assets) z)

-- a request behind them is the bench case's, and its words fit a buffer of 64
pub bench-asked : (text b : List ℕ) {model names st bs e : List ℕ} {r : Answer}
    → model ≡ bench_model
    → names ≡ bench_names
    → st ≡ bench_stores.observations
    → bs ≡ bench_stores.assets
    → length b ≡ 64
    → r ≡ (Calls.request model names st bs text b).answer
    → e ≡ (Calls.request model names st bs text b).reply
    → ((r ≡ (bench_request text b).answer) × (e ≡ (bench_request text b).reply)) × (reply_length r e ≤ 64)
unfolding bench_request
bench-asked text b {model} {names} {st} {bs} em en es eb l er ee =
    let h = (request-within model names st bs b text).fits in
    ((rw (er, em, en, es, eb), rw (ee, em, en, es, eb)), rw (er, ee) (omega arith))
