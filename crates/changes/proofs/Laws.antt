-- What the code comes to: each way through a change, and that its places are places of the marks.
use Prim.Native.Nat.{ℕ, suc, ◌<◌}
use mathlib.Core.Path.{◌≡◌, refl, sym, ◌∙◌}
use mathlib.Core.Bool.{true, false, ◌&&◌, not, and-false}
use mathlib.Core.List.{List}
use native.Mathlib.Omega.{arith}
use lib.Arith.{lt_of_le-ne}
use lib.Dec.{eqb}
use lib.ListN.{length, get_or}
use borrow.Author.Tests.{eq-eqb, ne_eqb, eqb-true, eqb-false}
use Rattle.spec.specs.Entries.{active, normal, code_field}
use Rattle.spec.proofs.Words.{by_cond}
use Rattle.marks.specs.Marks.{key_in, key_of, place_of, found_at}
use Rattle.std.specs.Prelude.{Option, Some, None, MatchOption}
use Rattle.marks.proofs.Laws.{found-some, found-none}
use Rattle.marks.proofs.Keys.{place-max}
use Rattle.changes.specs.Changes.{raised_for, cleared_for, change_for, ChangeFits}
use Rattle.changes.specs.declared.Change.{Change}
use Rattle.changes.specs.declared.Change.TheVariants.{Put, Alone, Out, Stay, Full}

-- ---- places

module _ (ms : List ℕ) (l : length ms ≡ 8) where
  place-lt : (key : ℕ) → eqb (place_of key ms) 8 ≡ false → place_of key ms < 8
  place-lt key e = lt_of_le-ne (omega (arith, place-max key ms)) (eqb-false (place_of key ms) 8 e)

  -- a Warning or Fault has a place, or none is left
  pub raised-cases : (P : Change → Type 0) (key : ℕ) → (place_of key ms ≡ 8 → P Full)
      → (place_of key ms < 8 → P (Put (place_of key ms))) → P (raised_for key ms)
  unfolding raised_for
  raised-cases P key full put =
      by_cond P (eqb (place_of key ms) 8) _ _ (λ e. full (eqb-true _ 8 e)) (λ e. put (place-lt key e))

  cleared-fits : (key : ℕ) → ChangeFits (cleared_for key ms)
  unfolding cleared_for
  cleared-fits key =
      by_cond ChangeFits (eqb (place_of key ms) 8) _ _ (λ e. tt)
      (λ e.
      by_cond ChangeFits (eqb (get_or ms (place_of key ms) 0) 0) _ _ (λ f. tt)
      (λ f. by_cond ChangeFits (eqb (get_or ms 1 0) 0) _ _ (λ g. tt) (λ g. place-lt key e)))

  -- the places of a change are places of the marks
  pub change-fits : (own word : ℕ) → ChangeFits (change_for own ms word)
  unfolding change_for
  change-fits own word =
      by_cond ChangeFits (eqb (key_in (get_or ms 0 0)) 0) _ _ (λ e. tt)
      (λ e.
      by_cond ChangeFits (active own word) _ _ (λ f. raised-cases ChangeFits (key_of own word) (λ q. tt) (λ q. q))
      (λ f.
      by_cond ChangeFits (normal word && not (eqb (code_field word) 0)) _ _
      (λ g. cleared-fits (suc (code_field word)))
      (λ g. tt)))

-- ---- ways

module _ (key : ℕ) (ms : List ℕ) {j : ℕ} (at : j ≡ place_of key ms) where
  pub raised-full : j ≡ 8 → Full ≡ raised_for key ms
  unfolding raised_for
  raised-full e = rw (eq-eqb (place_of key ms) 8 (sym at ∙ e))

  pub raised-put : (j ≡ 8 → ⊥) → Put j ≡ raised_for key ms
  unfolding raised_for
  raised-put f = rw (← at, ne_eqb j 8 f)

  pub cleared-none : j ≡ 8 → Stay ≡ cleared_for key ms
  unfolding cleared_for
  cleared-none e = rw (eq-eqb (place_of key ms) 8 (sym at ∙ e))

  pub cleared-unused : (j ≡ 8 → ⊥) → get_or ms j 0 ≡ 0 → Stay ≡ cleared_for key ms
  unfolding cleared_for
  cleared-unused f e = rw (← at, ne_eqb j 8 f, e)

  pub cleared-last : (j ≡ 8 → ⊥) → (get_or ms j 0 ≡ 0 → ⊥) → get_or ms 1 0 ≡ 0 → Alone ≡ cleared_for key ms
  unfolding cleared_for
  cleared-last f g e = rw (← at, ne_eqb j 8 f, ne_eqb (get_or ms j 0) 0 g, e)

  pub cleared-out : (j ≡ 8 → ⊥) → (get_or ms j 0 ≡ 0 → ⊥) → (get_or ms 1 0 ≡ 0 → ⊥) → Out j ≡ cleared_for key ms
  unfolding cleared_for
  cleared-out f g h = rw (← at, ne_eqb j 8 f, ne_eqb (get_or ms j 0) 0 g, ne_eqb (get_or ms 1 0) 0 h)

-- by what is looked for, Full where it isn't found
pub raised-by : (key : ℕ) (ms : List ℕ) (o : Option ℕ) → length ms ≡ 8 → o ≡ found_at key ms → {r : Change}
    → {P : ℕ → Type 0} → MatchOption o (r ≡ Full) P → ((x : ℕ) → P x → r ≡ Put x) → r ≡ raised_for key ms
raised-by key ms None l e h f = h ∙ raised-full key ms refl (sym (found-none key ms e) ∙ l)
raised-by key ms (Some j) l e h f =
    let p = found-some key ms e in
    f j h ∙ raised-put key ms (p.0) (λ q. omega (arith, p.1))

module _ (own : ℕ) (ms : List ℕ) (word : ℕ) where
  pub change-first : key_in (get_or ms 0 0) ≡ 0 → Alone ≡ change_for own ms word
  unfolding change_for
  change-first e = rw e

  module _ (some : key_in (get_or ms 0 0) ≡ 0 → ⊥) where
    pub change-raised : active own word ≡ true → raised_for (key_of own word) ms ≡ change_for own ms word
    unfolding change_for
    change-raised a = rw (ne_eqb (key_in (get_or ms 0 0)) 0 some, a)

    pub change-codeless : active own word ≡ false → code_field word ≡ 0 → Alone ≡ change_for own ms word
    unfolding change_for
    change-codeless a e = rw (ne_eqb (key_in (get_or ms 0 0)) 0 some, a, e, and-false (normal word))

    pub change-other : active own word ≡ false → normal word ≡ false → Alone ≡ change_for own ms word
    unfolding change_for
    change-other a e = rw (ne_eqb (key_in (get_or ms 0 0)) 0 some, a, e)

    pub change-cleared : active own word ≡ false → normal word ≡ true → (code_field word ≡ 0 → ⊥)
        → cleared_for (suc (code_field word)) ms ≡ change_for own ms word
    unfolding change_for
    change-cleared a e f = rw (ne_eqb (key_in (get_or ms 0 0)) 0 some, a, e, ne_eqb (code_field word) 0 f)
