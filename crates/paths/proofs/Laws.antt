-- Laws of a path's form, as the code cuts it: by what it begins with, up to a slash, and by what it ends with.
use Prim.Native.Nat.{ℕ, ◌+◌, ◌-◌, ◌<◌, ◌≤◌}
use mathlib.Core.Path.{◌≡◌, refl, sym, ap, ◌∙◌}
use mathlib.Core.Bool.{Bool, true, false, cond, ◌&&◌, and-false}
use mathlib.Core.List.{List}
use native.Mathlib.Omega.{arith}
use borrow.Author.Tests.{le-leb, lt-leb, leb-true}
use lib.Dec.{leb, eqb}
use lib.ListN.{length, take, drop}
use lib.Seq.{drop-drop}
use Rattle.std.specs.Cmp.Lexicographic.{pointwise}
use Rattle.std.specs.Option.{MatchOption}
use Rattle.std.proofs.Common.{Bor}
use Rattle.std.specs.Prelude.{Option, Some, None, is_some, option_map}
use Rattle.spec.specs.Bytes.{bytes, same, before}
use Rattle.spec.specs.Path.{Form, subtree, typed, other_form, opening, closing, typed_form, form_behind, form_of}
use Rattle.spec.specs.Path.{root_bytes, opening_bytes, closing_bytes, around_bytes}
use Rattle.std.proofs.lemmas.List.{length-take}
use Rattle.std.proofs.lemmas.Option.{cond_some}
use Rattle.spec.proofs.Words.{and_left}
use Rattle.scan.proofs.Laws.{same-is}
use Rattle.paths.specs.Forms.{item_type}

-- ---- what follows T
module _ (q : List ℕ) where
  pub unopened : pointwise eqb (take opening_bytes q) opening ≡ false → None ≡ item_type q
  unopened t =
      let z : same (take opening_bytes q) opening ≡ false = sym (same-is _ _) ∙ t in
      rw (z, and-false (leb around_bytes (length q)))

  -- behind the opening, there is a type where the closing is there
  module _ (h : around_bytes ≤ length q) where
    some-by : (b : Bool) (y : List ℕ) → b ≡ is_some (cond b (Some y) None)
    some-by true y = refl
    some-by false y = refl

    pub opened : same (take opening_bytes q) opening ≡ true → (b : Bool)
        → b ≡ same (drop (length q - closing_bytes) q) closing → b ≡ is_some (item_type q)
    opened t b eb = rw (le-leb around_bytes (length q) h, t, ← eb) (some-by b _)

  module _ (x : List ℕ) (t : pointwise eqb (take opening_bytes q) opening ≡ true)
      (e : x ≡ drop opening_bytes q) (l : length x + opening_bytes ≡ length q) where
    opens : same (take opening_bytes q) opening ≡ true
    opens = sym (same-is _ _) ∙ t

    -- what closes it, where both are there
    last : around_bytes ≤ length q → drop (length x - closing_bytes) x ≡ drop (length q - closing_bytes) q
    last h =
        ap (drop (length x - closing_bytes)) e ∙ drop-drop (length x - closing_bytes) opening_bytes q
        ∙ ap (λ (i : ℕ). drop i q) (omega arith)

    unclosed : (b : Bool) → leb around_bytes (length q) ≡ b
        → pointwise eqb (drop (length x - closing_bytes) x) closing ≡ false → None ≡ item_type q
    unclosed true f n =
        let z : same (drop (length q - closing_bytes) q) closing ≡ false =
        ap (λ (r : List ℕ). same r closing) (sym (last (leb-true _ _ f))) ∙ sym (same-is _ _) ∙ n in
        rw (f, opens, z)
    unclosed false f n = rw f

    pub closed : (r : Option (Bor (List ℕ)))
        → MatchOption r (pointwise eqb (drop (length x - closing_bytes) x) closing ≡ false)
        (λ y. (pointwise eqb (drop (length x - closing_bytes) x) closing ≡ true)
        × (y.now ≡ take (length x - closing_bytes) x) × (length y.now + closing_bytes ≡ length x))
        → option_map (λ y. y.now) r ≡ item_type q
    closed None n = unclosed _ refl n
    closed (Some y) g =
        let h : around_bytes ≤ length q = omega (arith, g.2) in
        let z : same (drop (length q - closing_bytes) q) closing ≡ true =
        ap (λ (r : List ℕ). same r closing) (sym (last h)) ∙ sym (same-is _ _) ∙ g.0 in
        let m : length x - closing_bytes ≡ length q - around_bytes = omega arith in
        rw (le-leb around_bytes (length q) h, opens, z, ← e, ← m, g.1)

-- it is shorter than what follows T
pub type-fits : (q y : List ℕ) → Some y ≡ item_type q → length y + around_bytes ≤ length q
type-fits q y e =
    let x = cond_some _ (take (length q - around_bytes) (drop opening_bytes q)) y (sym e) in
    let h : around_bytes ≤ length q = leb-true _ _ (and_left (leb around_bytes (length q)) _ x.0) in
    omega (arith, ap length x.1, length-take (length q - around_bytes) (drop opening_bytes q))

-- the form, by the item type
abbrev pub behind-type : List ℕ → Option (List ℕ) → Form
behind-type t (Some y) = typed t y
behind-type t None = other_form

typed-by : (t q : List ℕ) → typed_form t q ≡ behind-type t (item_type q)
unfolding typed_form
typed-by t q =
    go
    (leb around_bytes (length q)
    && (same (take opening_bytes q) opening && same (drop (length q - closing_bytes) q) closing))
  where
    y : List ℕ
    y = take (length q - around_bytes) (drop opening_bytes q)

    go : (b : Bool) → cond b (typed t y) other_form ≡ behind-type t (cond b (Some y) None)
    go true = refl
    go false = refl

-- ---- the form of a path
module _ (path : List ℕ) where
  pub unrooted : pointwise eqb (take root_bytes path) (bytes "//") ≡ false → other_form ≡ form_of path
  unfolding form_of
  unrooted t = let z : same (take root_bytes path) (bytes "//") ≡ false = sym (same-is _ _) ∙ t in rw z

  module _ (x : List ℕ) (t : pointwise eqb (take root_bytes path) (bytes "//") ≡ true) (e : x ≡ drop root_bytes path)
    where
      behind : form_of path
          ≡ cond (leb (length x) (before 47 47 x)) (subtree x) (typed_form (take (before 47 47 x) x) (drop (before 47 47 x) x))
      unfolding form_of form_behind
      behind =
          let z : same (take root_bytes path) (bytes "//") ≡ true = sym (same-is _ _) ∙ t in
          rw (z, e)

      pub subtree-form : before 47 47 x ≡ length x → subtree x ≡ form_of path
      subtree-form l = rw (behind, le-leb (length x) (before 47 47 x) (omega arith))

      pub typed-form : {n : ℕ} → (before 47 47 x ≡ n) × (n < length x) → (y q : List ℕ) → y ≡ take n x → q ≡ drop n x
          → (r : Option (List ℕ)) → r ≡ item_type q → behind-type y r ≡ form_of path
      typed-form {n} f y q ey eq r g =
          let b : form_of path ≡ typed_form y q = rw (behind, f.0, lt-leb (length x) n f.1, ← ey, ← eq) in
          rw (b, typed-by y q, g)
