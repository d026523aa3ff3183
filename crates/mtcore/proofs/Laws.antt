-- What start and length of a body's place say of the body.
use Prim.Native.Nat.{ℕ}
use mathlib.Core.Path.{◌≡◌, refl, ap, ◌∙◌}
use mathlib.Core.List.{List}
use lib.ListN.{take, drop}
use Rattle.spec.specs.Assets.{body_place, part}
use Rattle.history.specs.Calls as calls
use Rattle.std.specs.Prelude.{Option, Some, None}
use Rattle.spec.specs.declared.Span.{Span}
use Rattle.agent.specs.Place.{place_start, place_length}

-- the start and length of the place that was found: those of the definition, and they cut out the body
abbrev pub Names : List ℕ → List ℕ → ℕ → ℕ → Type 0
Names bs id start n =
    let place = body_place bs id in
    (start ≡ place_start place) × (n ≡ place_length place) × (take n (drop start bs) ≡ calls.body bs id)

cut_out : (bs : List ℕ) (p : Option Span) → take (place_length p) (drop (place_start p) bs) ≡ part bs p
cut_out bs (Some p) = refl
cut_out bs None = refl

pub place-names : (bs id : List ℕ) (p : Option Span) → p ≡ body_place bs id → Names bs id (place_start p) (place_length p)
unfolding calls.body
place-names bs id p e = (ap place_start e, ap place_length e, cut_out bs p ∙ ap (part bs) e)
