-- A part of the asset store: its start and its length, both 0 where there is none, and where it lies in memory.
use Rattle.std.specs.Prelude.{ℕ, ◌+◌, ◌≡◌, List, Option, Some, None}
use Rattle.std.specs.Borrow.{Bor}
use Rattle.spec.specs.declared.Span.{Span}

abbrev pub place_start : Option Span → ℕ
place_start (Some p) = p.start
place_start None = 0

abbrev pub place_length : Option Span → ℕ
place_length (Some p) = p.len
place_length None = 0

-- r points into the memory of s, `start` bytes behind its first
abbrev pub LiesAt : ℕ → Bor (List ℕ) → Bor (List ℕ) → Type 0
LiesAt start s r = (r.ref_ptr.0 ≡ s.ref_ptr.0) × (r.ref_ptr.1 ≡ start + s.ref_ptr.1)
