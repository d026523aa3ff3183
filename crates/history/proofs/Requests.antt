-- The ways through a request of the reference model for observations: what holds of each holds of its reply. Each is
-- told what was found on it.
use mathlib.Core.Path.{◌≡◌, refl}
use mathlib.Core.Bool.{true, false, cond}
use Prim.Native.Nat.{ℕ, suc, ◌≤◌, ◌<◌}
use mathlib.Core.List.{List, map}
use lib.Dec.{ltb}
use borrow.Author.Tests.{ltb-true, ltb-false}
use Rattle.spec.specs.Model.{items, category}
use Rattle.spec.specs.Text.Request.{sample, current_at}
use Rattle.spec.specs.Path.{select}
use Rattle.spec.specs.Reply.{Replied, refuse, observation_reply}
use Rattle.history.specs.Standing.{entries_rows}
use Rattle.history.specs.Reference.{State, last_of, first_of, within, matching, triple, sample_start}
use Rattle.history.specs.Reference.{sample_end, sample_for, at_for, selected, reply_to}
use Rattle.spec.specs.declared.Refusal.TheVariants.{TooMany, InvalidXpath, Late, Early}
use Rattle.std.specs.Prelude.{Option, Some, None}
use Rattle.spec.proofs.Words.{by_cond}

module _ (P : Replied → Type 0) (reply : List ℕ) where
  -- 11
  pub selected-cases : (s : Option ℕ) (f : ℕ → Replied) → (s ≡ None → P (refuse InvalidXpath reply))
      → ((sel : ℕ) → s ≡ Some sel → P (f sel)) → P (selected s reply f)
  selected-cases None f none some = none refl
  selected-cases (Some sel) f none some = some sel refl

  -- 17, 18
  range-cases : (low high n : ℕ) (r : Replied) → (n < low → P (refuse Late reply))
      → (high < n → P (refuse Early reply)) → (low ≤ n → n ≤ high → P r)
      → P (cond (ltb n low) (refuse Late reply) (cond (ltb high n) (refuse Early reply) r))
  range-cases low high n r late early in-range =
      by_cond P (ltb n low) _ _ (λ u. late (ltb-true _ _ u))
      (λ u. by_cond P (ltb high n) _ _ (λ v. early (ltb-true _ _ v))
      (λ v. in-range (ltb-false _ _ u) (ltb-false _ _ v)))

  module _ (model names : List ℕ) (p : State) (path : Option (List ℕ)) where
    -- a sample: 10, 11, 17, 18, or the rows from f up to e
    pub sample-cases : (from count : ℕ)
        → (ltb p.N count ≡ true → P (refuse TooMany reply))
        → (ltb p.N count ≡ false → select model names path ≡ None → P (refuse InvalidXpath reply))
        → ((sel : ℕ) → ltb p.N count ≡ false → select model names path ≡ Some sel
        → sample_start p from < first_of p → P (refuse Late reply))
        → ((sel : ℕ) → ltb p.N count ≡ false → select model names path ≡ Some sel
        → suc (last_of p) < sample_start p from → P (refuse Early reply))
        → ((sel : ℕ) → ltb p.N count ≡ false → select model names path ≡ Some sel
        → first_of p ≤ sample_start p from → sample_start p from ≤ suc (last_of p)
        → let f = sample_start p from in
        let e = sample_end p f count in
        P (observation_reply (first_of p) (last_of p) e (map triple (matching sel f e p.H)) reply))
        → P (reply_to model names p reply (sample path from count))
    unfolding reply_to sample_for
    sample-cases from count many none late early rows =
        by_cond P (ltb p.N count) _ _ many
        (λ c. selected-cases (select model names path) _ (none c)
        (λ sel s. range-cases (first_of p) (suc (last_of p)) (sample_start p from) _ (late sel c s) (early sel c s)
        (rows sel c s)))

    -- a current with `at`: 11, 17, 18, or each selected item's entries up to it
    pub at-cases : (number : ℕ) → P (refuse InvalidXpath reply) → P (refuse Late reply) → P (refuse Early reply)
        → ((sel : ℕ) → P (observation_reply (first_of p) (last_of p) (suc (last_of p))
        (entries_rows (category model) (items model) sel (within 0 (suc number) p.H)) reply))
        → P (reply_to model names p reply (current_at path number))
    unfolding reply_to at_for
    at-cases number none late early rows =
        selected-cases (select model names path) _ (λ s. none)
        (λ sel s. range-cases (first_of p) (last_of p) number _ (λ h. late) (λ h. early) (λ h g. rows sel))
