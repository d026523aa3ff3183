-- Lines by what the scans answer.
use Prim.Native.Nat.{ℕ, ◌≤◌}
use mathlib.Core.Path.{◌≡◌, refl, sym}
use mathlib.Core.Bool.{Bool, true, false, cond, ◌||◌, true≢false}
use mathlib.Core.List.{List, [], ◌∷◌}
use native.Mathlib.Omega.{arith}
use lib.Dec.{eqb}
use lib.ListN.{length}
use borrow.Author.Tests.{eq-eqb, ne_eqb}
use Rattle.std.specs.List.{list_any}
use Rattle.std.specs.Prelude.{Ok, Err, None}
use Rattle.spec.specs.Bytes.{split, join_first}
use Rattle.lines.specs.Stamps.{real_date, time_of, formed, stamp_form, date_in, stamp_text}
use Rattle.lines.specs.Lines.{line_in, by_bar, form_of, stamp_part}
use Rattle.lines.specs.declared.LineError.TheVariants.{Malformed, BadStamp}
use Rattle.line.specs.Times.{time_read}
use Rattle.spec.proofs.Bytes.{parts-pos}

-- ---- stamps

pub no_bytes : (s : List ℕ) → length s ≡ 0 → time_read s ≡ Ok 0
no_bytes [] h = refl
no_bytes (x ∷ s) h = absurd (omega arith)

pub some-bytes : (s : List ℕ) → (length s ≡ 0 → ⊥) → time_read s
    ≡ cond (formed stamp_form s) (cond (real_date (date_in s)) (Ok (time_of (date_in s))) (Err BadStamp)) (Err Malformed)
some-bytes [] h = absurd (h refl)
some-bytes (x ∷ s) h = refl

pub ruleset stamps = (no_bytes, some-bytes)

-- ---- the parts of a line

pub one_part : (a : List ℕ) → by_bar (a ∷ []) ≡ Err Malformed
unfolding by_bar
one_part a = refl

pub two_parts : (a b : List ℕ) → by_bar (a ∷ b ∷ []) ≡ Err Malformed
unfolding by_bar
two_parts a b = refl

-- a text without a bar is one part
no_bar : (c : List ℕ) → list_any (λ x. eqb x 124) c ≡ false → split 124 c ≡ c ∷ []
unfolding split join_first
no_bar [] h = refl
no_bar (x ∷ c) h = go (eqb x 124) (no_bar c) h
  where
    go : (t : Bool) → (list_any (λ x. eqb x 124) c ≡ false → split 124 c ≡ c ∷ [])
        → t || list_any (λ x. eqb x 124) c ≡ false
        → cond t ([] ∷ split 124 c) (join_first x (split 124 c)) ≡ (x ∷ c) ∷ []
    go true ih h = absurd (true≢false h)
    go false ih h = rw (ih h)

pub three_parts : (a b c : List ℕ) → list_any (λ x. eqb x 124) c ≡ false
    → by_bar (a ∷ b ∷ split 124 c) ≡ line_in a b (form_of c)
unfolding by_bar
three_parts a b c h = rw (no_bar c h)

pub no_form : (a b c : List ℕ) → list_any (λ x. eqb x 124) c ≡ false → form_of c ≡ None
    → by_bar (a ∷ b ∷ split 124 c) ≡ Err Malformed
unfolding line_in
no_form a b c h e = rw (three_parts a b c h, e)

-- and one with a bar at least two
joined : (x : ℕ) (ps : List (List ℕ)) → 2 ≤ length ps → 2 ≤ length (join_first x ps)
unfolding join_first
joined x [] m = absurd (omega arith)
joined x (p ∷ ps) m = m

several : (c : List ℕ) → list_any (λ x. eqb x 124) c ≡ true → 2 ≤ length (split 124 c)
unfolding split
several [] h = absurd (true≢false (sym h))
several (x ∷ c) h = go (eqb x 124) (several c) h
  where
    go : (t : Bool) → (list_any (λ x. eqb x 124) c ≡ true → 2 ≤ length (split 124 c))
        → t || list_any (λ x. eqb x 124) c ≡ true
        → 2 ≤ length (cond t ([] ∷ split 124 c) (join_first x (split 124 c)))
    go true ih h = omega (arith, parts-pos 124 c)
    go false ih h = joined x (split 124 c) (ih h)

pub more_parts : (a b c : List ℕ) → list_any (λ x. eqb x 124) c ≡ true
    → by_bar (a ∷ b ∷ split 124 c) ≡ Err Malformed
unfolding by_bar
more_parts a b c h = go (split 124 c) (several c h)
  where
    go : (ps : List (List ℕ)) → 2 ≤ length ps → by_bar (a ∷ b ∷ ps) ≡ Err Malformed
    go [] m = absurd (omega arith)
    go (p ∷ []) m = absurd (omega arith)
    go (p ∷ q ∷ ps) m = refl

pub ruleset bars = (one_part, two_parts, three_parts, no_form, more_parts)

-- ---- the writer's stamp

pub no-time : (t : ℕ) → t ≡ 0 → stamp_part t ≡ []
unfolding stamp_part
no-time t e = rw (eq-eqb t 0 e)

pub some-time : (t : ℕ) → (t ≡ 0 → ⊥) → stamp_part t ≡ stamp_text t
unfolding stamp_part
some-time t n = rw (ne_eqb t 0 n)
