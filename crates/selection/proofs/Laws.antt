-- Laws of the set of all items.
use Prim.Native.Nat.{ℕ, ◌-◌, ◌+◌, ◌/◌, ◌^◌, ◌≤◌}
use mathlib.Core.Path.{◌≡◌, sym, ap, ◌∙◌}
use native.Mathlib.Omega.{arith}
use lib.Pow.{ones_split, ones_lt, high}
use Rattle.spec.specs.Words.{set_of}
use Rattle.spec.specs.Model.{max_items}
use Rattle.spec.specs.Path.{any_item}
use Rattle.spec.proofs.Bits.{set_all}

-- ---- all items

-- all ones, less those above m
pub all-shifted : (m : ℕ) → m ≤ max_items → (2 ^ max_items - 1) / 2 ^ (max_items - m) ≡ set_of any_item m
all-shifted m h =
    let e : max_items ≡ m + (max_items - m) = omega arith in
    ap (λ (x : ℕ). (2 ^ x - 1) / 2 ^ (max_items - m)) e
    ∙ ap (λ (x : ℕ). x / 2 ^ (max_items - m)) (ones_split m (max_items - m))
    ∙ high (2 ^ m - 1) (max_items - m) (ones_lt (max_items - m))
    ∙ sym (set_all m)
