-- One law to each way out of observing an item.
use Prim.Native.Nat.{ℕ, ◌+◌, ◌*◌, ◌^◌, ◌≤◌, ◌<◌}
use mathlib.Core.Path.{◌≡◌, refl, sym}
use mathlib.Core.Bool.{Bool, true, false, cond}
use mathlib.Core.List.{List}
use native.Mathlib.Omega.{arith}
use borrow.Author.Tests.{lt-ltb, le-ltb}
use Rattle.spec.specs.Model.{items, category}
use Rattle.spec.specs.Value.{takes, pack, decode}
use Rattle.history.specs.Observations.{ring_size, latest_ok, repeats_at, crowded_at}
use Rattle.history.specs.Calls.{not_observed, observe_item}
use Rattle.spec.specs.declared.Value.{Value}
use Rattle.spec.specs.declared.Refusal.TheVariants.{Item, Kind}
use Rattle.spec.proofs.Words.{told, by-test}
use Rattle.spec.proofs.Packing.{taken-coded, word_lt, word_back, decode-fits}
use Rattle.spec.proofs.Found.{cond-none, then-some}
use Rattle.std.specs.Prelude.{Some, None}
use Rattle.std.specs.Bool.{then_some}
use Rattle.std.proofs.lemmas.Option.{cond_some}
use Rattle.short_way.specs.Found.{found, observed_by}
use Rattle.observing.specs.Taken.{taken}

-- ---- the ways out

module _ (model st : List ℕ) (item time : ℕ) (v : Value) where
  pub item_refused : items model ≤ item → observe_item model st item time v ≡ not_observed Item st
  unfolding observe_item
  item_refused h = rw (le-ltb _ _ h)

  module _ (h : item < items model) (k : ℕ) (ek : k ≡ category model item) {t : Bool} (et : t ≡ takes k v) where
    kind-told : {b : Bool} → t ≡ b → takes (category model item) v ≡ b
    kind-told f = rw (← ek) (told et f)

    pub kind-refused : t ≡ false → observe_item model st item time v ≡ not_observed Kind st
    unfolding observe_item
    kind-refused f = rw (lt-ltb _ _ h, kind-told f)

    -- behind the two, what is found decides
    pub passed : t ≡ true → (w : ℕ) → w ≡ pack item v
        → observe_item model st item time v ≡ observed_by (category model) (items model) st item time w
    unfolding observe_item observed_by found
    passed f w ew =
        rw (ew, lt-ltb item (items model) h, kind-told f)
        (by-test (latest_ok (category model) (ring_size st) (items model) st item)
        (λ a.
        by-test (repeats_at (category model) (ring_size st) (items model) st item (pack item v))
        (λ b. rw (a, b))
        (λ b.
        by-test (crowded_at (category model) (ring_size st) (items model) st item (pack item v))
        (λ d. rw (a, b, d))
        (λ d. rw (a, b, d))))
        (λ a. rw a))

-- ---- a word that an item takes

module _ (k word : ℕ) {t : Bool} (e : t ≡ takes k (decode word)) (f : t ≡ true) where
  pub word_fits : word < 2 ^ 40
  word_fits =
      let v = decode word in
      omega (arith, word_back k word (told e f), word_lt v (taken-coded k v (told e f) (decode-fits word)))

  pub word-packed : (item w : ℕ) → w ≡ item * 2 ^ 40 + word → w ≡ pack item (decode word)
  word-packed item w g = rw (word_back k word (told e f)) g

-- ---- a value by what is made of it

module _ (k item : ℕ) (v : Value) where
  pub taken-is : {b : Bool} {w : ℕ} → b ≡ takes k v → w ≡ pack item v → then_some b w ≡ taken k item v
  unfolding taken
  taken-is e q = rw (e, q) (then-some (takes k v) (pack item v))

  pub not_taken : takes k v ≡ false → None ≡ taken k item v
  unfolding taken
  not_taken f = rw f

  pub taken_is : takes k v ≡ true → {w : ℕ} → w ≡ pack item v → Some w ≡ taken k item v
  unfolding taken
  taken_is f e = rw (f, e)

  pub taken-none : None ≡ taken k item v → takes k v ≡ false
  unfolding taken
  taken-none e = cond-none (takes k v) (pack item v) e

  pub taken-some : {w : ℕ} → Some w ≡ taken k item v → (takes k v ≡ true) × (w ≡ pack item v)
  unfolding taken
  taken-some {w} e = let s = cond_some (takes k v) (pack item v) w (sym e) in (s.0, sym s.1)

-- an item whose category takes the value: behind the checks of both
pub taken-on : (model st : List ℕ) (item time : ℕ) (v : Value) → item < items model → (k : ℕ) → k ≡ category model item
    → {w : ℕ} → Some w ≡ taken k item v
    → observe_item model st item time v ≡ observed_by (category model) (items model) st item time w
taken-on model st item time v h k ek {w} q =
    let e = taken-some k item v q in
    passed model st item time v h k ek refl e.0 w e.1
