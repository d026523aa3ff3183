-- Tags that nest, of any text: document 02, Req 07. Each start tag is closed by an end tag of its own name, the last
-- opened first.
use Rattle.std.specs.Prelude.{ℕ, Bool, cond, ◌&&◌, ◌||◌, List, [], ◌∷◌, map, leb, eqb, length, get_or, take, drop}
use Rattle.spec.specs.Bytes.{same, before, split}

-- the bytes before the first b
abbrev pub up_to : ℕ → List ℕ → List ℕ
up_to b s = take (before b b s) s

-- what stands between each '<' and the next '>'
unfoldable pub tags : List ℕ → List (List ℕ)
tags text = map (λ p. up_to 62 p) (drop 1 (split 60 text))

abbrev pub first_byte : List ℕ → ℕ
first_byte t = get_or t 0 0

unfoldable pub last_byte : List ℕ → ℕ
last_byte [] = 0
last_byte (x ∷ []) = x
last_byte (x ∷ y ∷ ys) = last_byte (y ∷ ys)

-- a declaration <?..> or an element without content <../>
unfoldable pub stands_alone : List ℕ → Bool
stands_alone t = eqb (first_byte t) 63 || eqb (last_byte t) 47

-- the tags close what is open, and all that they begun
unfoldable pub nested : List (List ℕ) → List (List ℕ) → Bool
nested begun [] = eqb (length begun) 0
nested begun (t ∷ ts) =
    let alone = nested begun ts in
    let starts = nested (up_to 32 t ∷ begun) ts in
    let ends = leb 1 (length begun) && (same (drop 1 t) (get_or begun 0 []) && nested (drop 1 begun) ts) in
    cond (stands_alone t) alone (cond (eqb (first_byte t) 47) ends starts)
