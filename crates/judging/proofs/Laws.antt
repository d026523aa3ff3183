-- What observe finds of an item's eight rows, a law to each branch, and what the marks tell of it.
use Prim.Native.Nat.{ℕ, suc, ◌≤◌, ◌<◌}
use mathlib.Core.Path.{◌≡◌, sym, ap, ◌∙◌}
use mathlib.Core.Bool.{Bool, true, false, cond, ◌&&◌, not, and-false}
use mathlib.Core.List.{List, [], ◌∷◌}
use native.Mathlib.Omega.{arith}
use lib.Dec.{leb, eqb}
use lib.ListN.{length, get_or}
use borrow.Author.Tests.{eqb-true, eqb-false, le-leb, ne_eqb}
use Rattle.spec.specs.Value.{pack}
use Rattle.spec.specs.declared.Value.TheVariants.{Unavailable}
use Rattle.spec.specs.Entries.{active, normal, code_field, used_rows, form_ok, repeats_in, crowded}
use Rattle.spec.proofs.Words.{by-test}
use Rattle.marks.specs.Marks.{key_in, key_of, place_of}
use Rattle.marks.proofs.Keys.{place-max}
use Rattle.marks.proofs.Repeats.{raised-crowded, raised-new, raised-there, idle-fits, idle-first}
use Rattle.marks.proofs.Repeats.{normal-none, normal-free, normal-there, all-active, all-idle}
use Rattle.judging.specs.Findings.{repeated_if, raised_judged, cleared_judged, judged}
use Rattle.judging.specs.declared.Judged.{Judged}
use Rattle.judging.specs.declared.Judged.TheVariants.{Repeated, New}
use Rattle.std.specs.Prelude.{Ok, Err, Option, Some, None, MatchOption}
use mathlib.Core.Logic.{◌⊎◌, inl, inr}
use Rattle.spec.specs.declared.Refusal.TheVariants.{Store, Crowded}
use Rattle.entries.specs.declared.Filled.{Filled}
use Rattle.entries.proofs.Kept.{Kept, kept-some}
use Rattle.entries.proofs.Filling.{by-marked, by-eight, by-formed}
use Rattle.entries.proofs.Marks.{used-at}
use Rattle.entries.specs.Forms.{FilledBy}

-- ---- a branch each

module _ (ms : List ℕ) (key : ℕ) {j : ℕ} (e : j ≡ place_of key ms) where
  pub cleared-none : j ≡ 8 → Repeated ≡ cleared_judged ms key
  unfolding cleared_judged
  cleared-none h = rw (← e, h)

  pub cleared_by : (j ≡ 8 → ⊥) → {mark : ℕ} → get_or ms j 0 ≡ mark → {found : Judged} → found ≡ repeated_if (eqb mark 0)
      → found ≡ cleared_judged ms key
  unfolding cleared_judged
  cleared_by h z q = q ∙ rw (← e, ne_eqb j 8 h, z)

  module _ (rs : List (List ℕ)) (word : ℕ) where
    pub raised-none : j ≡ 8 → Err Crowded ≡ raised_judged rs ms key word
    unfolding raised_judged
    raised-none h = rw (← e, h)

    module _ (h : j ≡ 8 → ⊥) where
      pub raised-free : get_or ms j 0 ≡ 0 → Ok New ≡ raised_judged rs ms key word
      unfolding raised_judged
      raised-free z = rw (← e, ne_eqb j 8 h, z)

      module _ (z : get_or ms j 0 ≡ 0 → ⊥) {number time there : ℕ} (r : get_or rs j [] ≡ number ∷ time ∷ there ∷ []) where
        pub raised_by : {found : Judged} → found ≡ repeated_if (eqb there word) → Ok found ≡ raised_judged rs ms key word
        unfolding raised_judged
        raised_by q = ap (λ (x : Judged). Ok x) q ∙ rw (← e, ne_eqb j 8 h, ne_eqb (get_or ms j 0) 0 z, r)

-- ---- the branches are what is found

-- what fill gives
abbrev pub Fills : ℕ → List (List ℕ) → Option Filled → Type 0
Fills own rs o = MatchOption o (form_ok own 0 rs ≡ false) (λ f. FilledBy own rs f.marks f.used)

-- and what a filter has left of it
pub some-filled : {own : ℕ} {rs : List (List ℕ)} (o q : Option Filled) {P : Filled → Bool → Type 0} → Fills own rs o
    → Kept o q P → ((f : Filled) (b : Bool) → P f b → b ≡ not (eqb f.used 0)) → {f : Filled} → q ≡ Some f
    → FilledBy own rs f.marks f.used × (f.used ≡ 0 → ⊥)
some-filled o q {P} e k t n = let s = kept-some (λ (f : Filled). f.used) o q P k t n in (rw s.0 at e, s.1)

module _ (own : ℕ) (rs : List (List ℕ)) where
  form-one : form_ok own 1 rs ≡ leb 1 (length (used_rows rs)) && form_ok own 0 rs
  unfolding form_ok
  form-one = rw (le-leb 0 (length (used_rows rs)) (omega arith))

  judged-broken : (word : ℕ) → form_ok own 0 rs ≡ false → Err Store ≡ judged own rs word
  unfolding judged
  judged-broken word f = rw (form-one, f, and-false)

  judged-none : (word : ℕ) → length (used_rows rs) ≡ 0 → Err Store ≡ judged own rs word
  unfolding judged
  judged-none word z = rw (form-one, z)

  -- not filled, or no row used
  pub judged-unused : (word : ℕ) {o : Option Filled} → Fills own rs o
      → (o ≡ None) ⊎ ((f : Filled) × (o ≡ Some f) × (f.used ≡ 0)) → Err Store ≡ judged own rs word
  judged-unused word e (inl n) = judged-broken word (rw n at e)
  judged-unused word e (inr n) =
      let by : FilledBy own rs n.0.marks n.0.used = rw n.1 at e in
      judged-none word (sym by.many ∙ n.2)

-- the rows are filled, and one at least is used
module _ {own : ℕ} {rs : List (List ℕ)} {marks : List ℕ} {n : ℕ} (by : FilledBy own rs marks n) (used : n ≡ 0 → ⊥)
    (word : ℕ) where
  abbrev es : List (List ℕ)
  es = used_rows rs

  abbrev ms : List ℕ
  ms = marks

  some : 1 ≤ length es
  some = omega (arith, by.many, used)

  -- Same, Crowded or neither, by the used rows
  judged-by : {same full : Bool} → repeats_in own es word ≡ same → crowded own es word ≡ full
      → judged own rs word ≡ cond same (Ok Repeated) (cond full (Err Crowded) (Ok New))
  unfolding judged
  judged-by a b = rw (form-one own rs, by.form, le-leb 1 (length es) some, a, b)

  -- Same or neither, by a test
  judged-test : (same : Bool) → repeats_in own es word ≡ same → crowded own es word ≡ false
      → judged own rs word ≡ Ok (repeated_if same)
  judged-test true a b = judged-by a b
  judged-test false a b = judged-by a b

  pub judged-raised : active own word ≡ true → {key : ℕ} → key ≡ key_of own word
      → raised_judged rs ms key word ≡ judged own rs word
  unfolding raised_judged
  judged-raised a k =
      let j : ℕ = place_of (key_of own word) ms in
      rw k
      (by-test (eqb j 8)
      (λ e.
      let p = raised-crowded own es ms word (by-formed by) (by-marked by) (by-eight by) a (eqb-true j 8 e) in
      rw e (sym (judged-by p.0 p.1)))
      (λ e.
      let h : j < 8 = omega (arith, place-max (key_of own word) ms, by-eight by, eqb-false j 8 e) in
      by-test (eqb (get_or ms j 0) 0)
      (λ z.
      let p = raised-new own es ms word (by-formed by) (by-marked by) a h (eqb-true (get_or ms j 0) 0 z) in
      rw (e, z) (sym (judged-by p.0 p.1)))
      (λ z.
      let p = raised-there own es ms word (by-formed by) (by-marked by) a (eqb-false (get_or ms j 0) 0 z) in
      rw (e, z) (sym (judged-test _ (rw (used-at rs j p.0) at p.1) p.2)))))

  module _ (idle : active own word ≡ false) where
    fits : crowded own es word ≡ false
    fits = idle-fits own es word idle

    -- the first row is read
    module _ {number time there : ℕ} (r : get_or rs 0 [] ≡ number ∷ time ∷ there ∷ []) where
      pub judged-first : normal word ≡ false → {found : Judged} → found ≡ repeated_if (eqb there word)
          → Ok found ≡ judged own rs word
      judged-first n e =
          let p = idle-first own es ms word (by-formed by) (by-marked by) some idle n in
          ap (λ (x : Judged). Ok x) e ∙ sym (judged-test _ (rw (used-at rs 0 some, r) at p) fits)

      pub judged-idle : normal word ≡ true → code_field word ≡ 0 → key_in (get_or marks 0 0) ≡ 0
          → {found : Judged} → found ≡ repeated_if (not (eqb there (pack own Unavailable)))
          → Ok found ≡ judged own rs word
      judged-idle n c k e =
          let p = all-idle own es ms word (by-formed by) (by-marked by) some n c k in
          ap (λ (x : Judged). Ok x) e ∙ sym (judged-test _ (rw (used-at rs 0 some, r) at p) fits)

    pub judged-cleared : normal word ≡ true → (code_field word ≡ 0 → ⊥) → {key : ℕ} → key ≡ suc (code_field word)
        → Ok (cleared_judged ms key) ≡ judged own rs word
    unfolding cleared_judged
    judged-cleared n c k =
        let j : ℕ = place_of (suc (code_field word)) ms in
        rw k
        (by-test (eqb j 8)
        (λ e.
        let p = normal-none own es ms word (by-formed by) (by-marked by) (by-eight by) n c (eqb-true j 8 e) in
        rw e (sym (judged-by p fits)))
        (λ e.
        by-test (eqb (get_or ms j 0) 0)
        (λ z.
        let p = normal-free own es ms word (by-formed by) (by-marked by) n c (eqb-true (get_or ms j 0) 0 z) in
        rw (e, z) (sym (judged-by p fits)))
        (λ z.
        let p = normal-there own es ms word (by-formed by) (by-marked by) n c (eqb-false (get_or ms j 0) 0 z) in
        rw (e, z) (sym (judged-by p fits)))))

    pub judged-all : normal word ≡ true → code_field word ≡ 0 → (key_in (get_or marks 0 0) ≡ 0 → ⊥)
        → Ok New ≡ judged own rs word
    judged-all n c k =
        sym (judged-by (all-active own es ms word (by-formed by) (by-marked by) n c k) fits)
