-- Rows of a component and group, kept and marked one after the other.
use Prim.Native.Nat.{ℕ, suc, ◌≤◌, ◌<◌}
use mathlib.Core.Path.{◌≡◌, refl, sym, ap, ◌∙◌}
use mathlib.Core.Bool.{Bool, true, false, ◌||◌}
use mathlib.Core.List.{List, [], ◌∷◌, ◌++◌, map, map-append, append_assoc, append-nil}
use native.Mathlib.Omega.{arith}
use borrow.Author.Tests.{eq-eqb, ne_eqb, eqb-true, eqb-false, ltb-true, ltb-false}
use lib.Dec.{ltb, eqb}
use lib.ListN.{length, get_or, set, take, replicate, length-set, get_or-replicate}
use lib.ListN.{length-replicate, get_or-eq_default}
use lib.Seq.{take_all, get_or-set_same, get_or-set_other}
use Rattle.std.specs.Prelude.{Option, Some, None, is_some, option_map, MatchOption}
use Rattle.std.specs.Option.{unwrap_or}
use Rattle.std.proofs.Common.{Bor}
use Rattle.spec.specs.Value.{item_of}
use Rattle.spec.specs.Model.{Checked, name_text, name_bytes, max_components, items}
use Rattle.spec.specs.Model.{item_word, item_name, component_of, category_of}
use Rattle.spec.specs.Reply.{rows_of}
use Rattle.spec.proofs.Words.{and_left, and_right, by-test}
use Rattle.streams.specs.Streams.{Row, row_of, row_in, group_of, packed_ok, words_ok, reply_ok, each, having}
use Rattle.streams.specs.Streams.{row_component, row_group, groups, tag, end_tag, row_line, between, group_name}
use Rattle.streams.specs.Streams.{item_type, row_lines, group_lines, ended}
use Rattle.streams.specs.Groups.{group_number}
use Rattle.streams.specs.declared.Group.{Group}
use Rattle.streams.specs.declared.Group.TheVariants.{Samples, Events, Condition}
use Rattle.streams.proofs.Rows.{row_at, rows-length, rows-suc, all-at}
use Rattle.streams.proofs.Pieces.{ended-append, having-append}
use Rattle.streams.proofs.Short.{name-length}
use Rattle.writer.specs.Puts.{Put, stop}
use Rattle.writer.specs.declared.Output.{Output}
use Rattle.writer.proofs.Laws.{put-none, put-append}
use Rattle.row_groups.specs.Groups.{reply_rows, kept, kept_text, filled, Marked, any_kept, any_marked}

-- ---- the groups' numbers

pub number-small : (g : Group) → group_number g < groups
number-small Samples = omega arith
number-small Events = omega arith
number-small Condition = omega arith

-- ---- what the call's checks give

module _ (model reply : List ℕ) (h : reply_ok model reply ≡ true) where
  -- a row's item is one of the model's
  pub item-there : (i : ℕ) → i < get_or reply 0 0 → item_of (get_or (row_at reply i) 2 0) < items model
  unfolding reply_ok packed_ok
  item-there i l =
      let p = all-at (λ r. packed_ok model (get_or r 2 0)) reply i (and_right (words_ok reply) _ h) l in
      ltb-true (item_of (get_or (row_at reply i) 2 0)) (items model) (and_left _ _ p)

-- row i's item, and its word, as a row's packed word gives them
module _ (model reply : List ℕ) (i : ℕ) {w j : ℕ} (ew : w ≡ get_or (row_at reply i) 2 0) (ej : j ≡ item_of w) where
  pub own-item : reply_ok model reply ≡ true → i < get_or reply 0 0 → j < items model
  own-item h l = rw (ej, ew) (item-there model reply h i l)

  pub own-word : {word : ℕ} → word ≡ item_word model j → word ≡ item_word model (item_of (get_or (row_at reply i) 2 0))
  own-word e = rw (ej, ew) at e

pub name-few : (names : List ℕ) (k : ℕ) {t : List ℕ} → t ≡ name_text names k → length t ≤ name_bytes
name-few names k e = rw e (name-length names k)

-- a row's line, as the parts of the row give it
pub row-put : (model names : List ℕ) (g : ℕ) (r t : List ℕ) (j n time w : ℕ) {o o₁ : Output}
    → t ≡ name_text names (item_name (item_word model j)) → j ≡ item_of w
    → n ≡ get_or r 0 0 → time ≡ get_or r 1 0 → w ≡ get_or r 2 0
    → Put o (row_line g t (row_of n time w) ++ 10 ∷ []) o₁
    → Put o (row_line g (item_type model names (row_in r).item) (row_in r) ++ 10 ∷ []) o₁
row-put model names g r t j n time w et ej en em ew b = rw (et, ej, en, em, ew) at b

-- ---- rows kept

module _ (model : List ℕ) (c g : ℕ) where
  pub kept_append : (a b : List Row) → kept model c g (a ++ b) ≡ kept model c g a ++ kept model c g b
  kept_append a b =
      rw (having-append (row_component model) c a b)
      (having-append (row_group model) g (having (row_component model) c a) (having (row_component model) c b))

  module _ (x : Row) where
    pub kept-not-component : (row_component model x ≡ c → ⊥) → kept model c g (x ∷ []) ≡ []
    unfolding having
    kept-not-component n = rw (ne_eqb (row_component model x) c n)

    pub kept-not-group : row_component model x ≡ c → (row_group model x ≡ g → ⊥) → kept model c g (x ∷ []) ≡ []
    unfolding having
    kept-not-group e n = rw (eq-eqb (row_component model x) c e, ne_eqb (row_group model x) g n)

    pub kept-own : row_component model x ≡ c → row_group model x ≡ g → kept model c g (x ∷ []) ≡ x ∷ []
    unfolding having
    kept-own e f = rw (eq-eqb (row_component model x) c e, eq-eqb (row_group model x) g f)

-- ---- their text, one row after the other

lines-append : (model names : List ℕ) (g : ℕ) (a b : List Row)
    → row_lines model names g (a ++ b) ≡ row_lines model names g a ++ row_lines model names g b
unfolding row_lines
lines-append model names g a b = map-append (λ (r : Row). row_line g (item_type model names r.item) r) a b

module _ (model names : List ℕ) (c g : ℕ) where
  text-append : (a b : List Row)
      → kept_text model names c g (a ++ b) ≡ kept_text model names c g a ++ kept_text model names c g b
  text-append a b =
      rw (kept_append model c g a b, lines-append model names g (kept model c g a) (kept model c g b))
      (ended-append (row_lines model names g (kept model c g a)) (row_lines model names g (kept model c g b)))

  text-none : (rows : List Row) → kept model c g rows ≡ [] → kept_text model names c g rows ≡ []
  unfolding row_lines ended
  text-none rows e = rw e

  text-one : (rows : List Row) (x : Row) → kept model c g rows ≡ x ∷ []
      → kept_text model names c g rows ≡ row_line g (item_type model names x.item) x ++ 10 ∷ []
  unfolding row_lines ended
  text-one rows x e = rw e

  -- a row's own line, or nothing
  module _ (r : List ℕ) {o : Output} where
    pub line-none : (row_component model (row_in r) ≡ c → row_group model (row_in r) ≡ g → ⊥)
        → length o.bytes.now ≤ stop → Put o (kept_text model names c g (row_in r ∷ [])) o
    line-none n h = rw (text-none (row_in r ∷ []) none) (put-none o h)
      where
        none : kept model c g (row_in r ∷ []) ≡ []
        none =
            by-test (eqb (row_component model (row_in r)) c)
            (λ t.
            let e = eqb-true (row_component model (row_in r)) c t in
            kept-not-group model c g (row_in r) e (n e))
            (λ t. kept-not-component model c g (row_in r) (eqb-false (row_component model (row_in r)) c t))

    pub line-put : row_component model (row_in r) ≡ c → row_group model (row_in r) ≡ g → {o₁ : Output}
        → Put o (row_line g (item_type model names (row_in r).item) (row_in r) ++ 10 ∷ []) o₁
        → Put o (kept_text model names c g (row_in r ∷ [])) o₁
    line-put f h b = rw (text-one (row_in r ∷ []) (row_in r) (kept-own model c g (row_in r) f h)) b

  -- none, by the word of the row's item
  module _ (r : List ℕ) {word : ℕ} (e : word ≡ item_word model (item_of (get_or r 2 0))) {o : Output} where
    pub line-not-component : (component_of word ≡ c → ⊥) → length o.bytes.now ≤ stop
        → Put o (kept_text model names c g (row_in r ∷ [])) o
    line-not-component n h = line-none r (λ k l. n (rw e k)) h

    pub line-not-group : component_of word ≡ c → (group_of (category_of word) ≡ g → ⊥) → length o.bytes.now ≤ stop
        → Put o (kept_text model names c g (row_in r ∷ [])) o
    line-not-group f n h = line-none r (λ k l. n (rw e l)) h

  -- a turn of the pass
  module _ (reply : List ℕ) {o : Output} where
    pub pass-none : length o.bytes.now ≤ stop
        → Put o (kept_text model names c g (map row_in (take 0 (rows_of reply)))) o
    unfolding row_lines ended having
    pass-none h = put-none o h

    pub pass-more : {l l₁ : Output} (i : ℕ) → i < get_or reply 0 0
        → Put o (kept_text model names c g (map row_in (take i (rows_of reply)))) l
        → Put l (kept_text model names c g (row_in (row_at reply i) ∷ [])) l₁
        → Put o (kept_text model names c g (map row_in (take (suc i) (rows_of reply)))) l₁
    pass-more i h a b =
        rw (
          rows-suc reply i h,
          map-append row_in (take i (rows_of reply)) (row_at reply i ∷ []),
          text-append (map row_in (take i (rows_of reply))) (row_in (row_at reply i) ∷ []),
        )
        (put-append a b)

    pub pass_all : {l : Output} (i : ℕ) → get_or reply 0 0 ≤ i
        → Put o (kept_text model names c g (map row_in (take i (rows_of reply)))) l
        → Put o (kept_text model names c g (reply_rows reply)) l
    pass_all i h a = rw (take_all i (rows_of reply) (omega (arith, rows-length reply))) at a

-- ---- marks

filled_more : {A : Type 0} (a : List A) (x : A) → filled (a ++ x ∷ []) ≡ true
filled_more [] x = refl
filled_more (y ∷ a) x = refl

pub marked-none : (model : List ℕ) → Marked model [] (replicate max_components (replicate groups false))
unfolding having
marked-none model =
    record {
      len = length-replicate {A = List Bool} max_components (replicate groups false);
      each = λ c h.
          rw (get_or-replicate max_components c (replicate groups false) [] h) (length-replicate groups false);
      at = λ c g h k.
          rw (get_or-replicate max_components c (replicate groups false) [] h)
          (get_or-replicate groups g false false k);
    }

module _ (model : List ℕ) (rows : List Row) {present : List (List Bool)} (m : Marked model rows present) (x : Row) where
  -- the marks with the row's own
  abbrev more : List (List Bool)
  more =
      set present (row_component model x)
      (set (get_or present (row_component model x) []) (row_group model x) true)

  module _ (c : ℕ) (h : c < max_components) where
    more-other : (row_component model x ≡ c → ⊥) → get_or more c [] ≡ get_or present c []
    more-other n = get_or-set_other present (row_component model x) c _ [] (λ q. n (sym q))

    more-same : row_component model x ≡ c → get_or more c [] ≡ set (get_or present c []) (row_group model x) true
    more-same p = rw p (get_or-set_same present c _ [] (omega (arith, m.len)))

    each_more : length (get_or more c []) ≡ groups
    each_more =
        by-test (eqb (row_component model x) c)
        (λ t. rw (more-same (eqb-true (row_component model x) c t))
        (length-set (get_or present c []) (row_group model x) true ∙ m.each c h))
        (λ t. rw (more-other (eqb-false (row_component model x) c t)) (m.each c h))

    at_more : (g : ℕ) → g < groups → get_or (get_or more c []) g false ≡ filled (kept model c g (rows ++ x ∷ []))
    at_more g k =
        rw (kept_append model c g rows (x ∷ []))
        (by-test (eqb (row_component model x) c)
        (λ t. own (eqb-true (row_component model x) c t))
        (λ t.
        let n = eqb-false (row_component model x) c t in
        rw (kept-not-component model c g x n, append-nil (kept model c g rows), more-other n) (m.at c g h k)))
      where
        own : row_component model x ≡ c
            → get_or (get_or more c []) g false ≡ filled (kept model c g rows ++ kept model c g (x ∷ []))
        own p =
            rw (more-same p)
            (by-test (eqb (row_group model x) g)
            (λ t.
            let q = eqb-true (row_group model x) g t in
            rw (kept-own model c g x p q, filled_more (kept model c g rows) x, q)
            (get_or-set_same (get_or present c []) g true false (omega (arith, m.each c h))))
            (λ t.
            let n = eqb-false (row_group model x) g t in
            rw (
              kept-not-group model c g x p n,
              append-nil (kept model c g rows),
              get_or-set_other (get_or present c []) (row_group model x) g true false (λ q. n (sym q)),
            )
            (m.at c g h k)))

  pub marked_more : Marked model (rows ++ x ∷ []) more
  marked_more =
      record {
        len = length-set present (row_component model x) _ ∙ m.len;
        each = each_more;
        at = λ c g h k. at_more c h g k;
      }

-- a turn of the marking
pub marking-more : (model reply : List ℕ) (i : ℕ) → i < get_or reply 0 0 → {present : List (List Bool)}
    → Marked model (map row_in (take i (rows_of reply))) present → (w c g : ℕ)
    → w ≡ item_word model (item_of (get_or (row_at reply i) 2 0)) → c ≡ component_of w → g ≡ group_of (category_of w)
    → Marked model (map row_in (take (suc i) (rows_of reply))) (set present c (set (get_or present c []) g true))
marking-more model reply i h m w c g ew ec eg =
    let x = row_in (row_at reply i) in
    let fc : c ≡ row_component model x = rw ew at ec in
    let fg : g ≡ row_group model x = rw ew at eg in
    rw (rows-suc reply i h, map-append row_in (take i (rows_of reply)) (row_at reply i ∷ []), fc, fg)
    (marked_more model (map row_in (take i (rows_of reply))) m x)

pub marking-all : (model reply : List ℕ) (i : ℕ) → get_or reply 0 0 ≤ i → {present : List (List Bool)}
    → Marked model (map row_in (take i (rows_of reply))) present → Marked model (reply_rows reply) present
marking-all model reply i h m = rw (take_all i (rows_of reply) (omega (arith, rows-length reply))) at m

-- ---- lines between a start and an end

module _ (start end : List ℕ) (ls : List (List ℕ)) {o : Output} where
  pub between_none : filled ls ≡ false → length o.bytes.now ≤ stop → Put o (ended (between start end ls)) o
  unfolding ended
  between_none e h = go ls e
    where
      go : (ls : List (List ℕ)) → filled ls ≡ false → Put o (ended (between start end ls)) o
      go [] e = put-none o h
      go (l ∷ ls) e = absurd cc

  pub between_put : {o₁ o₂ o₃ : Output} → filled ls ≡ true
      → Put o (start ++ 10 ∷ []) o₁ → Put o₁ (ended ls) o₂ → Put o₂ (end ++ 10 ∷ []) o₃
      → Put o (ended (between start end ls)) o₃
  unfolding ended
  between_put {o₁} {o₂} {o₃} e a b d = go ls e b
    where
      go : (ls : List (List ℕ)) → filled ls ≡ true → Put o₁ (ended ls) o₂
          → Put o (ended (between start end ls)) o₃
      go [] e b = absurd cc
      go (l ∷ ls) e b =
          rw (
            ended-append (l ∷ ls) (end ∷ []),
            ← append_assoc start (10 ∷ []) (ended (l ∷ ls) ++ ended (end ∷ [])),
          )
          (put-append a (put-append b d))

-- a component that the model lacks has no row
none-kept : (model : List ℕ) (c : ℕ) (rows : List (List ℕ))
    → ((i : ℕ) → i < length rows → component_of (item_word model (item_of (get_or (get_or rows i []) 2 0))) ≡ c → ⊥)
    → having (row_component model) c (map row_in rows) ≡ []
unfolding having
none-kept model c [] f = refl
none-kept model c (r ∷ rows) f =
    rw (ne_eqb _ c (f 0 (omega arith)), none-kept model c rows (λ i l. f (suc i) (omega (arith, l))))

module _ (model names reply : List ℕ) (M : Checked model names) (h : reply_ok model reply ≡ true) (c : ℕ)
    (n : max_components ≤ c) where
  pub lacking : (g : ℕ) → false ≡ filled (kept model c g (reply_rows reply))
  unfolding having
  lacking g =
      rw (none-kept model c (rows_of reply) (λ i l e.
      let there = item-there model reply h i (omega (arith, l, rows-length reply)) in
      omega (arith, M.component _ there, M.sizes.c_max, e)))

-- so that there are marks and lists of one that has rows
pub kept-within : (model names reply : List ℕ) → Checked model names → reply_ok model reply ≡ true
    → (c g : ℕ) {t : Bool} → t ≡ filled (kept model c g (reply_rows reply)) → t ≡ true → c < max_components
kept-within model names reply M h c g e f =
    by-test (ltb c max_components)
    (λ t. ltb-true c max_components t)
    (λ t. let none = lacking model names reply M h c (ltb-false c max_components t) g in absurd cc)

-- what is told of the marks that were looked for
module _ (model names reply : List ℕ) (M : Checked model names) (h : reply_ok model reply ≡ true)
    {present : List (List Bool)} (m : Marked model (reply_rows reply) present) (c g : ℕ) (l : g < groups) (t : Bool)
    (P : Bor (List Bool) → Type 0) where
  pub marks-tell : (r : Option (Bor (List Bool))) → is_some r ≡ ltb c (length present)
      → ((d : List Bool) → unwrap_or (option_map (λ (x : Bor (List Bool)). x.now) r) d ≡ get_or present c d)
      → MatchOption r (t ≡ false) P → ((x : Bor (List Bool)) → P x → t ≡ get_or x.now g false)
      → t ≡ filled (kept model c g (reply_rows reply))
  marks-tell None s u q f =
      q ∙ lacking model names reply M h c (omega (arith, ltb-false c (length present) (sym s), m.len)) g
  marks-tell (Some x) s u q f =
      f x q ∙ (ap (λ (y : List Bool). get_or y g false) (u [])
      ∙ m.at c g (omega (arith, ltb-true c (length present) (sym s), m.len)) l)

-- a component has a mark where it has rows; behind the marks it has neither
module _ (model names reply : List ℕ) (M : Checked model names) (h : reply_ok model reply ≡ true)
    {present : List (List Bool)} (m : Marked model (reply_rows reply) present) (c : ℕ) where
  pub marks-any : any_marked present c ≡ any_kept model c (reply_rows reply)
  marks-any =
      by-test (ltb c max_components)
      (λ t.
      let low = ltb-true c max_components t in
      rw (m.at c 0 low (omega arith), m.at c 1 low (omega arith), m.at c 2 low (omega arith)) refl)
      (λ t.
      let none = lacking model names reply M h c (ltb-false c max_components t) in
      rw (
        get_or-eq_default present [] {n = c} (omega (arith, ltb-false c max_components t, m.len)),
        ← none 0,
        ← none 1,
        ← none 2,
      ) refl)

-- ---- groups

tag-line : (t : List ℕ) → tag t ++ 10 ∷ [] ≡ 60 ∷ (t ++ 62 ∷ 10 ∷ [])
tag-line t = simp append_assoc

lines-filled : (model names : List ℕ) (g : ℕ) (rows : List Row) → filled (row_lines model names g rows) ≡ filled rows
unfolding row_lines
lines-filled model names g [] = refl
lines-filled model names g (r ∷ rows) = refl

between-filled : (start end : List ℕ) (ls : List (List ℕ)) → filled (between start end ls) ≡ filled ls
between-filled start end [] = refl
between-filled start end (l ∷ ls) = refl

filled-append : {A : Type 0} (a b : List A) → filled (a ++ b) ≡ filled a || filled b
filled-append [] b = refl
filled-append (x ∷ a) b = refl

module _ (model names : List ℕ) (g : ℕ) (rows : List Row) where
  group-filled : filled (group_lines model names g rows) ≡ filled rows
  unfolding group_lines
  group-filled =
      between-filled (tag (group_name g)) (end_tag (group_name g)) (row_lines model names g rows)
      ∙ lines-filled model names g rows

  module _ {o : Output} where
    pub group-none : filled rows ≡ false → length o.bytes.now ≤ stop → Put o (ended (group_lines model names g rows)) o
    unfolding group_lines
    group-none e h = between_none _ _ (row_lines model names g rows) (lines-filled model names g rows ∙ e) h

    pub group-put : {o₁ o₂ o₃ : Output} → filled rows ≡ true
        → Put o (60 ∷ (group_name g ++ 62 ∷ 10 ∷ [])) o₁ → Put o₁ (ended (row_lines model names g rows)) o₂
        → Put o₂ (60 ∷ 47 ∷ (group_name g ++ 62 ∷ 10 ∷ [])) o₃ → Put o (ended (group_lines model names g rows)) o₃
    unfolding group_lines
    group-put e a b d =
        between_put _ _ (row_lines model names g rows) (lines-filled model names g rows ∙ e)
        (rw (tag-line (group_name g)) a) b (rw (tag-line (47 ∷ group_name g)) d)

-- the three of them
module _ (f : ℕ → List (List ℕ)) where
  three : each f groups 0 ≡ f 0 ++ (f 1 ++ f 2)
  unfolding each
  three = rw (append-nil (f 2))

  pub three-put : {o o₁ o₂ o₃ : Output}
      → Put o (ended (f 0)) o₁ → Put o₁ (ended (f 1)) o₂ → Put o₂ (ended (f 2)) o₃
      → Put o (ended (each f groups 0)) o₃
  three-put a b d =
      rw (three, ended-append (f 0) (f 1 ++ f 2), ended-append (f 1) (f 2)) (put-append a (put-append b d))

-- a component has lines where it has rows
pub component-filled : (model names : List ℕ) (rows : List Row) (c : ℕ)
    → filled (each (λ g. group_lines model names g (kept model c g rows)) groups 0) ≡ any_kept model c rows
component-filled model names rows c =
    let f : ℕ → List (List ℕ) = λ g. group_lines model names g (kept model c g rows) in
    rw (
      three f,
      filled-append (f 0) (f 1 ++ f 2),
      filled-append (f 1) (f 2),
      group-filled model names 0 (kept model c 0 rows),
      group-filled model names 1 (kept model c 1 rows),
      group-filled model names 2 (kept model c 2 rows),
    )
