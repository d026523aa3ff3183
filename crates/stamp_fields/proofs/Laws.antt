-- Bytes against a form, and the numbers that stand in them.
use Prim.Native.Nat.{ℕ, suc, ◌+◌, ◌-◌, ◌*◌, ◌^◌, ◌≤◌, ◌<◌}
use mathlib.Core.Path.{◌≡◌, refl, sym, ap}
use mathlib.Core.Bool.{Bool, true, false, cond, ◌&&◌, true≢false}
use mathlib.Core.List.{List, [], ◌∷◌}
use native.Mathlib.Nat.{pow-suc, pow-le-pow_right, add-suc, suc-add, add-zero, zero-add}
use native.Mathlib.Omega.{arith}
use lib.Dec.{eqb, lit<}
use lib.ListN.{length, get_or}
use mir.Val.{Fits}
use mir.Syntax.{w8}
use Rattle.std.specs.List.{list_all, zip}
use Rattle.spec.specs.Bytes.{digit, value_from}
use Rattle.lines.specs.Stamps.{formed, stamp_form}
use Rattle.spec.proofs.Words.{and_right, not_so}

-- ---- a form

abbrev pub fit : ℕ → ℕ → Bool
fit f x = cond (eqb f 100) (digit x) (eqb x f)

pub formed_zip : (f s : List ℕ) → length f ≡ length s → formed f s ≡ list_all (λ p. fit p.0 p.1) (zip f s)
unfolding formed
formed_zip [] [] e = refl
formed_zip [] (y ∷ s) e = absurd (omega arith)
formed_zip (x ∷ f) [] e = absurd (omega arith)
formed_zip (x ∷ f) (y ∷ s) e = ap (λ b. fit x y && b) (formed_zip f s (omega arith))

formed-same : (f s : List ℕ) → formed f s ≡ true → length s ≡ length f
unfolding formed
formed-same [] [] h = refl
formed-same [] (x ∷ s) h = absurd (true≢false (sym h))
formed-same (y ∷ f) [] h = absurd (true≢false (sym h))
formed-same (y ∷ f) (x ∷ s) h = ap suc (formed-same f s (and_right (fit y x) (formed f s) h))

-- bytes of another length have another form
pub formed_length : (f s : List ℕ) → (length f ≡ length s → ⊥) → formed f s ≡ false
formed_length f s n = sym (not_so _ (λ h. n (sym (formed-same f s h))))

-- a stamp has 24
pub formed_24 : (s : List ℕ) → formed stamp_form s ≡ true → length s ≡ 24
formed_24 s h = formed-same stamp_form s h

-- ---- numbers

-- bytes behind a number of k digits
bytes-below : (k n : ℕ) (s : List ℕ) → n + 23 ≤ 23 * 10 ^ k → ((i : ℕ) → Fits w8 (get_or s i 0))
    → value_from n s + 23 ≤ 23 * 10 ^ (k + length s)
unfolding value_from
bytes-below k n [] h b = rw add-zero h
bytes-below k n (x ∷ s) h b =
    let t = b 0 in
    rw (add-suc k (length s), ← suc-add k (length s))
    (bytes-below (suc k) (n * 10 + (x - 48)) s (rw pow-suc (omega (arith, h, t))) (λ i. b (suc i)))

pub few-fit : (s : List ℕ) → length s ≤ 4 → ((i : ℕ) → Fits w8 (get_or s i 0)) → value_from 0 s < 2 ^ 64
few-fit s h b =
    let p = pow-le-pow_right {n = 10} (lit< tt) {i = length s} {j = 4} h in
    let q : value_from 0 s + 23 ≤ 23 * 10 ^ length s = rw zero-add at (bytes-below 0 0 s (omega arith) b) in
    omega (arith, p, q)
