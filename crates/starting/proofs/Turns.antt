-- The turns of start's loop: the items in order, each beside its place, where the places begin anew behind the last.
use Prim.Native.Nat.{ℕ, suc, ◌+◌, ◌-◌, ◌%◌, ◌≤◌, ◌<◌}
use mathlib.Core.Path.{◌≡◌, sym, subst, ap, ◌∙◌}
use mathlib.Core.Logic.{inl, inr}
use native.Mathlib.Omega.{arith}
use native.Mathlib.Nat.{mod-eq_of_lt, mod_self, suc-mod}
use native.Mathlib.Numerals.{add-one}
use Rattle.std.proofs.lemmas.Option.{none-some}
use Rattle.std.specs.Prelude.{Option, Some, None, MatchOption}
use Rattle.std.specs.Range.{range_steps}
use Rattle.std.specs.Iterator.Adapters.{cycle_steps, zip_steps}
use Rattle.std.specs.declared.iter.Zip.{Zip}
use Rattle.std.specs.declared.iter.Cycle.{Cycle}
use Rattle.std.specs.declared.ops.Range.{Range}

-- what `next` gives of a range of numbers
abbrev numbers : Range ℕ → Option ℕ → Range ℕ → Type 0
numbers = range_steps (λ a b. b - a) (λ a b. b ≡ a + 1)

-- a clone of a range
abbrev copies : Range ℕ → Range ℕ → Type 0
copies i j = (j.start ≡ i.start) × (j.end ≡ i.end)

-- the items, each beside its place
abbrev Turns : Type 0
Turns = Zip (Range ℕ) (Cycle (Range ℕ))

-- what `next` gives of the turns
abbrev steps : Turns → Option (ℕ × ℕ) → Turns → Type 0
steps = zip_steps numbers (cycle_steps numbers copies)

-- the round in hand stands at the next item's place, or behind its last place
pub record Turning (n m : ℕ) (z : Turns) : Type 0 where
  pub items : z.a.end ≡ m
  pub first : z.b.orig.start ≡ 0
  pub ring : z.b.orig.end ≡ n
  pub round : z.b.iter.end ≡ n
  pub within : z.b.iter.start ≤ n
  pub placed : z.b.iter.start % n ≡ z.a.start % n

-- the place that comes is k's, and the round goes on behind it
next_place : (n k p : ℕ) (s t : Cycle (Range ℕ)) → s.orig.start ≡ 0 → s.orig.end ≡ n → s.iter.end ≡ n
    → s.iter.start ≤ n → s.iter.start % n ≡ k % n → (o : Option ℕ) (u : Range ℕ) → numbers s.iter o u
    → MatchOption o ((j : Range ℕ) × copies s.orig j × numbers j (Some p) t.iter)
    (λ x. (Some p ≡ Some x) × (t.iter ≡ u))
    → (p ≡ k % n) × (p < n) × (t.iter.end ≡ n) × (t.iter.start ≡ p + 1)
next_place n k p s t first end last within placed (Some x) u step next =
    let l : s.iter.start < n = omega (arith, step.1.0) in
    let same : s.iter.start % n ≡ s.iter.start = mod-eq_of_lt l in
    grind arith
next_place n k p s t first end last within placed None u step next =
    let at_end : s.iter.start ≡ n = omega (arith, step.1.0) in
    let zero : s.iter.start % n ≡ 0 = rw at_end (mod_self n) in
    grind arith

module _ {n m : ℕ} {z : Turns} (h : Turning n m z) where
  -- a turn
  pub turn : {i p : ℕ} {r : Option (ℕ × ℕ)} (t : Turns) → r ≡ Some (i, p) → steps z r t → (i ≡ z.a.start)
      × (i < m) × (p ≡ i % n) × (p < n) × (t.a.start ≡ i + 1) × Turning n m t
  turn {i} {p} t is s =
      let step = subst (λ r. steps z r t) is s in
      let c = step.1.1 in
      let at = next_place n z.a.start p z.b t.b h.first h.ring h.round h.within h.placed c.0 c.1 c.2 c.3 in
      let k : i ≡ z.a.start = step.0.1.1 in
      let place : p ≡ i % n = rw k at.0 in
      let next : t.a.start ≡ i + 1 = step.0.1.2 ∙ ap (λ x. x + 1) (sym k) in
      let on : suc p % n ≡ suc i % n = rw place (sym (suc-mod i n)) in (
        k,
        omega (arith, step.0.1.0, h.items),
        place,
        at.1,
        next,
        record {
          items = step.0.0 ∙ h.items;
          first = ap (λ (r : Range ℕ). r.start) step.1.0 ∙ h.first;
          ring = ap (λ (r : Range ℕ). r.end) step.1.0 ∙ h.ring;
          round = at.2;
          within = omega (arith, at.1, at.3);
          placed = rw (at.3, next, add-one p, add-one i) on;
        },
      )

  -- the places do not end
  ended : (o : Option ℕ) (u t : Range ℕ) → 1 ≤ n → numbers z.b.iter o u
      → MatchOption o ((j : Range ℕ) × copies z.b.orig j × numbers j None t) (λ x. (None ≡ Some x) × (t ≡ u)) → ⊥
  ended (Some x) u t pos step next = none-some x next.0
  ended None u t pos step next = omega (arith, pos, h.first, h.ring, next.1.0, next.1.1, next.2.1.0)

  -- so the items end first
  ends : (t : Turns) → 1 ≤ n → steps z None t → m ≤ z.a.start
  ends t pos (inl e) = omega (arith, e.1.1.0, h.items)
  ends t pos (inr e) = absurd (ended e.1.1.0 e.1.1.1 e.0.iter pos e.1.1.2 e.1.1.3)

  pub turns-end : {r : Option (ℕ × ℕ)} (t : Turns) → 1 ≤ n → r ≡ None → steps z r t → m ≤ z.a.start
  turns-end t pos is s = ends t pos (subst (λ r. steps z r t) is s)

-- before the first turn
pub turning-none : (n m k : ℕ) (y : Cycle (Range ℕ)) (z : Turns) → m ≡ k
    → y.orig ≡ record { start = 0; end = n } → copies (record { start = 0; end = n }) y.iter
    → z.a ≡ record { start = 0; end = m } → z.b ≡ y → Turning n k z × (z.a.start ≡ 0)
turning-none n m k y z e o i a b =
    let low : z.b.iter.start ≡ 0 = ap (λ (c : Cycle (Range ℕ)). c.iter.start) b ∙ i.0 in
    let at : z.a.start ≡ 0 = ap (λ (r : Range ℕ). r.start) a in (
      record {
        items = ap (λ (r : Range ℕ). r.end) a ∙ e;
        first = ap (λ (c : Cycle (Range ℕ)). c.orig.start) b ∙ ap (λ (r : Range ℕ). r.start) o;
        ring = ap (λ (c : Cycle (Range ℕ)). c.orig.end) b ∙ ap (λ (r : Range ℕ). r.end) o;
        round = ap (λ (c : Cycle (Range ℕ)). c.iter.end) b ∙ i.1;
        within = omega (arith, low);
        placed = ap (λ x. x % n) (low ∙ sym at);
      },
      at,
    )
