-- Start: the stores' start answers as the reference model's on every input, and where it is accepted the stores that it makes
-- stand for the reference model's state.
use mathlib.Core.Path.{◌≡◌, refl, sym, ap, ◌∙◌, subst}
use mathlib.Core.Logic.{◌≢◌}
use mathlib.Core.Bool.{Bool, true, false, cond, ◌&&◌, ◌||◌, not}
use Prim.Native.Nat.{ℕ, zero, suc, ◌+◌, ◌-◌, ◌*◌, ◌^◌, ◌≤◌, ◌<◌}
use native.Mathlib.Omega.{arith}
use mathlib.Core.List.{[]}
use lib.Dec.{leb, ltb, eqb}
use lib.ListN.{length}
use borrow.Author.Tests.{ltb-true, ltb-false, leb-true, eqb-true, eqb-false, le-leb, lt-leb}
use Rattle.spec.specs.Model.{max_items, items, category, model_ok}
use Rattle.history.specs.Observations.{max_ring, store_words, start_store}
use Rattle.spec.specs.Assets.{max_assets, store_bytes, start_assets}
use Rattle.history.specs.Calls.{start_ok}
use Rattle.history.specs.Calls
use Rattle.history.specs.Reference.{State, Begun, Observation, nothing, newest_or, size_wrong, unavailable, begin, begin_answer}
use Rattle.history.specs.Reference.Begun.{not_begun, begun}
use Rattle.history.specs.History.{Start, begins, stores_start}
use Rattle.std.specs.Prelude.{Ok, Err}
use Rattle.std.proofs.lemmas.Bool.{not-false}
use Rattle.spec.specs.declared.Refusal.{Refusal}
use Rattle.spec.specs.declared.Refusal.TheVariants.{Model, Size}
use Rattle.spec.specs.declared.Value.TheVariants.{Unavailable}
use Rattle.spec.proofs.Words.{and_left, and_right, by_cond, leb-not}
use Rattle.spec.proofs.Model.{checked}
use Rattle.history.proofs.Recorded.{newest_or-item}
use Rattle.history.proofs.Start.{start-rep}
use Rattle.history.proofs.Encoding.{start-assets}
use Rattle.history.proofs.Agree.{Good, bytes}

-- ---- refusal 3, told as what is right and as what is wrong

one-not : (b : ℕ) → leb 1 b ≡ not (eqb b 0)
one-not b = go (eqb b 0) refl
  where
    go : (t : Bool) → eqb b 0 ≡ t → leb 1 b ≡ not t
    go true e = lt-leb 1 b (omega (arith, eqb-true b 0 e))
    go false e = let n : b ≢ 0 = eqb-false b 0 e in le-leb 1 b (omega arith)

top-not : (m B : ℕ) → m ≤ max_items → leb (B + m) (2 ^ 63) ≡ not (ltb (2 ^ 63 - m) B)
top-not m B h = go (ltb (2 ^ 63 - m) B) refl
  where
    go : (t : Bool) → ltb (2 ^ 63 - m) B ≡ t → leb (B + m) (2 ^ 63) ≡ not t
    go true e = lt-leb (B + m) (2 ^ 63) (omega (arith, ltb-true (2 ^ 63 - m) B e))
    go false e = le-leb (B + m) (2 ^ 63) (omega (arith, ltb-false (2 ^ 63 - m) B e))

or_step : (a w ok : Bool) → w ≡ not ok → (a || w) ≡ not (not a && ok)
or_step true w ok e = refl
or_step false w ok e = e

outside-step : (a b w ok : Bool) → w ≡ not ok → (a || b || w) ≡ not (not a && (not b && ok))
outside-step true b w ok e = refl
outside-step false true w ok e = refl
outside-step false false w ok e = e

both-not : (d e : Bool) → (not d || not e) ≡ not (d && e)
both-not true e = refl
both-not false e = refl

size-wrong : (m N A B words size : ℕ) → m ≤ max_items → size_wrong m N A B words size ≡ not (start_ok m N A B words size)
unfolding size_wrong start_ok
size-wrong m N A B words size h =
    let q : 2 + A * 544 ≡ 2 + 544 * A = omega arith in
    rw (leb-not 1 N, leb-not N max_ring, leb-not 1 A, leb-not A max_assets, one-not B, top-not m B h, q)
    (outside-step (ltb N 1) (ltb max_ring N) _ _
    (outside-step (ltb A 1) (ltb max_assets A) _ _
    (or_step (eqb B 0) _ _
    (or_step (ltb (2 ^ 63 - m) B) _ _ (both-not (eqb words (store_words N m)) (eqb size (2 + 544 * A)))))))

-- ---- every start

-- refused or not, whatever the model, names, numbers and lengths
pub start-answers : (a : Start) → (stores_start a).answer ≡ begin_answer (begins a)
unfolding Calls.start Calls.start_both begin
start-answers a = go (model_ok a.model a.names) refl
  where
    m : ℕ
    m = items a.model

    ok : Bool
    ok = start_ok m a.N a.A a.B (length a.observations) (length a.assets)

    wrong : Bool
    wrong = size_wrong m a.N a.A a.B (length a.observations) (length a.assets)

    yes : Calls.Started
    yes =
        record {
          answer = Ok 0;
          observations = start_store (category a.model) a.N m a.B a.host;
          assets = start_assets a.A;
        }

    no : Refusal → Calls.Started
    no r = record { answer = Err r; observations = a.observations; assets = a.assets }

    out : Bool → Bool → Calls.Started
    out t u = cond t (cond u yes (no Size)) (no Model)

    P : State
    P = record { N = a.N; A = a.A; B = a.B; H = unavailable m a.B 0 a.host; T = [] }

    begin' : Bool → Bool → Begun
    begin' t w = cond (not t) (not_begun Model) (cond w (not_begun Size) (begun P))

    inner : (u : Bool) → (out true u).answer ≡ begin_answer (begin' true (not u))
    inner true = refl
    inner false = refl

    go : (t : Bool) → model_ok a.model a.names ≡ t → (out t ok).answer ≡ begin_answer (begin' t wrong)
    go true e =
        inner ok
        ∙ ap (λ (w : Bool). begin_answer (begin' true w))
        (sym (size-wrong m a.N a.A a.B (length a.observations) (length a.assets) (checked a.model a.names e).sizes.m_max))
    go false e = refl

-- ---- an accepted start

never : (r : Refusal) (q : State) → not_begun r ≡ begun q → ⊥
never r q e = cc

-- a decision that begins passed its test
begun-past : (t : Bool) (x : Begun) (p : State) (r : Refusal) → cond t (not_begun r) x ≡ begun p → (t ≡ false) × (x ≡ begun p)
begun-past true x p r e = absurd (never r p e)
begun-past false x p r e = (refl, e)

begun-one : (p q : State) → begun p ≡ begun q → p ≡ q
begun-one p q e = cc

held_start : (k n item host i : ℕ) (d : Observation) → item ≤ i → i < item + k → (newest_or d i (unavailable k n item host)).item ≡ i
unfolding newest_or unavailable
held_start zero n item host i d lo hi = omega arith
held_start (suc k) n item host i d lo hi = go (eqb item i) refl (λ h. held_start k (suc n) (suc item) host i d h (omega arith))
  where
    o : Observation
    o = record { number = n; item = item; time = host; value = Unavailable }

    go : (t : Bool) → eqb item i ≡ t → (suc item ≤ i → (newest_or d i (unavailable k (suc n) (suc item) host)).item ≡ i)
        → (newest_or (cond t o d) i (unavailable k (suc n) (suc item) host)).item ≡ i
    go true e ih = newest_or-item (unavailable k (suc n) (suc item) host) o i (eqb-true item i e)
    go false e ih = ih (let z : item ≢ i = eqb-false item i e in omega arith)

given-or : (k n item host i : ℕ) (d : Observation) → 0 < n → 0 < d.number
    → 0 < (newest_or d i (unavailable k n item host)).number
unfolding newest_or unavailable
given-or zero n item host i d p g = g
given-or (suc k) n item host i d p g =
    given-or k (suc n) (suc item) host i _ (omega arith)
    (by_cond (λ x. 0 < x.number) (eqb item i) _ d (λ e. p) (λ e. g))

given-start : (k n item host i : ℕ) (d : Observation) → item ≤ i → i < item + k → 0 < n
    → 0 < (newest_or d i (unavailable k n item host)).number
unfolding newest_or unavailable
given-start zero n item host i d lo hi p = absurd (omega arith)
given-start (suc k) n item host i d lo hi p =
    let o : Observation = record { number = n; item = item; time = host; value = Unavailable } in
    by_cond (λ x. 0 < (newest_or x i (unavailable k (suc n) (suc item) host)).number) (eqb item i) o d
    (λ e. given-or k (suc n) (suc item) host i o (omega arith) p)
    (λ e. let z : item ≢ i = eqb-false item i e in given-start k (suc n) (suc item) host i d (omega arith)
    (omega arith) (omega arith))

length-unavailable : (k n item host : ℕ) → length (unavailable k n item host) ≡ k
unfolding unavailable
length-unavailable zero n item host = refl
length-unavailable (suc k) n item host = ap suc (length-unavailable k (suc n) (suc item) host)

-- what an accepted start has made
pub record Begins (a : Start) (p : State) : Type 0 where
  pub good : Good a.model a.names p (stores_start a).observations
  pub assets : (stores_start a).assets ≡ bytes p
  pub base : p.B ≡ a.B

-- what a start's test says of the sizes, the first number and the stores' lengths
pub record StartSizes (m N A B words size : ℕ) : Type 0 where
  pub N-low : 1 ≤ N
  pub N-high : N ≤ max_ring
  pub A-low : 1 ≤ A
  pub A-high : A ≤ max_assets
  pub B-low : 1 ≤ B
  pub B-high : B + m ≤ 2 ^ 63
  pub words-is : words ≡ store_words N m
  pub size_is : size ≡ store_bytes A

module _ (m N A B words size : ℕ) where
  pub start-sizes : start_ok m N A B words size ≡ true → StartSizes m N A B words size
  unfolding start_ok
  start-sizes e =
      let e1 = and_right (leb 1 N) _ e in
      let e2 = and_right (leb N max_ring) _ e1 in
      let e3 = and_right (leb 1 A) _ e2 in
      let e4 = and_right (leb A max_assets) _ e3 in
      let e5 = and_right (leb 1 B) _ e4 in
      let e6 = and_right (leb (B + m) (2 ^ 63)) _ e5 in
      record {
        N-low = leb-true _ _ (and_left _ _ e);
        N-high = leb-true _ _ (and_left _ _ e1);
        A-low = leb-true _ _ (and_left _ _ e2);
        A-high = leb-true _ _ (and_left _ _ e3);
        B-low = leb-true _ _ (and_left _ _ e4);
        B-high = leb-true _ _ (and_left _ _ e5);
        words-is = eqb-true _ _ (and_left _ _ e6);
        size_is = eqb-true _ _ (and_right (eqb words (store_words N m)) _ e6);
      }

pub start-good : (a : Start) (p : State) → begins a ≡ begun p → Begins a p
unfolding Calls.start Calls.start_both begin
start-good a p e =
    let e1 = begun-past (not (model_ok a.model a.names)) _ p Model e in
    let right : model_ok a.model a.names ≡ true = not-false (model_ok a.model a.names) e1.0 in
    let e2 = begun-past (size_wrong m a.N a.A a.B words size) _ p Size e1.1 in
    let low = (checked a.model a.names right).sizes in
    let ok : start_ok m a.N a.A a.B words size ≡ true =
    not-false (start_ok m a.N a.A a.B words size) (sym (size-wrong m a.N a.A a.B words size low.m_max) ∙ e2.0) in
    let S = start-sizes m a.N a.A a.B words size ok in
    subst (Begins a) (begun-one _ p e2.1)
    (record {
      good =
          rw (right, ok)
          (record {
            right = right;
            rep = start-rep (category a.model) a.N m a.B a.host S.N-low S.B-low;
            each = λ i h. held_start m a.B 0 a.host i nothing (omega arith) (omega arith);
            given = λ i h. given-start m a.B 0 a.host i nothing (omega arith) (omega arith) S.B-low;
            size = S.N-high;
            all = omega (arith, length-unavailable m a.B 0 a.host);
            top = omega (arith, length-unavailable m a.B 0 a.host, S.B-high);
            A-low = S.A-low;
            A-high = S.A-high;
            room = omega arith;
            held = tt;
          });
      assets = rw (right, ok) (start-assets a.A);
      base = refl;
    })
  where
    m : ℕ
    m = items a.model

    words : ℕ
    words = length a.observations

    size : ℕ
    size = length a.assets
