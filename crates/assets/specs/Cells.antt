-- A place inside the store, and what one asset's writing leaves.
use Rattle.std.specs.Prelude.{ℕ, ◌+◌, ◌≤◌, List, length, set, Option, Some, None}
use Rattle.spec.specs.Assets.{capacity, id_bytes, cell_bytes, ids_at, bodies_at, id_cell, body_cell, renew}
use Rattle.spec.specs.declared.Span.{Span}

-- a part that is there lies inside the bytes and isn't empty
abbrev pub PlaceFits : List ℕ → Option Span → Type 0
PlaceFits bs (Some p) = (p.start + p.len ≤ length bs) × (1 ≤ p.len)
PlaceFits bs None = Unit {0}

-- storeCells, of the cell given up and the cells used then
unfoldable pub with_asset : ℕ → ℕ → List ℕ → List ℕ → List ℕ → List ℕ
with_asset out n id body bs =
    set (renew cell_bytes (bodies_at (capacity bs)) out n (body_cell body) (renew id_bytes ids_at out n (id_cell id) bs)) 1 n
