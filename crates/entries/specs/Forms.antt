-- What the functions over an item's eight entries give, by the rows that stand in its table.
use Rattle.std.specs.Prelude.{ℕ, suc, ◌+◌, ◌*◌, ◌≤◌, ◌≡◌, Bool, true, cond, ◌&&◌, ◌||◌, not, List, [], ◌∷◌, eqb}
use Rattle.std.specs.Prelude.{length, take, get_or, Option, Some, None}
use Rattle.spec.specs.Entries.{packed, used_rows, form_ok}
use Rattle.marks.specs.Marks.{mark_of, key_in, key_of}
use Rattle.std.specs.List.{list_any}

-- eight rows from row k on of a table of w rows that begins at word t, in a store of so many words
pub record EightRows (w t k words : ℕ) : Type 0 where
  pub inside : k + 8 ≤ w
  pub room : t + 3 * w ≤ words

-- one of the marks has the key
unfoldable pub has_key : ℕ → List ℕ → Bool
has_key key ms = list_any (λ x. eqb (key_in x) key) ms

-- an entry with this key may follow n others: the first may be anything, others are active with a code of their own
unfoldable pub may_follow : ℕ → ℕ → List ℕ → Bool
may_follow n key ms =
    eqb n 0 || (not (eqb key 0) && (not (eqb (key_in (get_or ms 0 0)) 0) && not (has_key key (take n ms))))

-- the marks of rows: each used one's place, from `place` on, and its key
unfoldable pub marks_of : ℕ → ℕ → List (List ℕ) → List ℕ
marks_of own place [] = []
marks_of own place (r ∷ rs) =
    let ms = marks_of own (suc place) rs in
    cond (eqb (get_or r 0 0) 0) 0 (mark_of place (key_of own (packed r))) ∷ ms

-- eight rows in their written form, their marks, and how many are used
pub record FilledBy (own : ℕ) (rs : List (List ℕ)) (marks : List ℕ) (n : ℕ) : Type 0 where
  pub size : length rs ≡ 8
  pub form : form_ok own 0 rs ≡ true
  pub many : n ≡ length (used_rows rs)
  pub is : marks ≡ marks_of own 1 rs

-- how many rows are used, where they have their written form
unfoldable pub filled : ℕ → List (List ℕ) → Option ℕ
filled own rs = cond (form_ok own 0 rs) (Some (length (used_rows rs))) None
