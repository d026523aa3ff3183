-- How long a document can be: of a checked model and a reply of its rows at most `streams_bytes` of the model's
-- components and the reply's rows, whatever the times and the header's numbers are.
use Prim.Native.Nat.{ℕ, zero, suc, ◌+◌, ◌*◌, ◌/◌, ◌%◌, ◌^◌, ◌≤◌, ◌<◌}
use mathlib.Core.Path.{◌≡◌, refl, sym, ap, ◌∙◌}
use mathlib.Core.Bool.{true, true≢false, and-eq-true_iff}
use mathlib.Core.List.{List, [], ◌∷◌, ◌++◌, map, Permᴰ}
use native.Mathlib.Omega.{arith}
use lib.Dec.{ltb, eqb}
use lib.IntN.{ℤ, pos, negsuc}
use lib.ListN.{length, get_or, length-append, length-take}
use Rattle.std.proofs.lemmas.List.{length-map}
use Rattle.std.specs.List.{AllByRecursion as Holds}
use borrow.Author.Tests.{ltb-true, ne_eqb}
use Rattle.spec.specs.Bytes.{bytes, digit, digits, decimal, split, join_first}
use Rattle.spec.specs.Value.{item_of, takes, Fits, FitsSample}
use Rattle.spec.specs.Model.{components, name_text, name_bytes, component_word, component_name}
use Rattle.spec.specs.Model.{item_word, item_name, max_items, items, category, Checked}
use Rattle.spec.specs.Reply.{rows_of}
use Rattle.spec.specs.declared.Level.TheVariants.{Normal, Warning, Fault}
use Rattle.spec.specs.declared.Value.{Value}
use Rattle.spec.specs.declared.Value.TheVariants.{Unavailable, Sample, Event, Condition}
use Rattle.spec.proofs.Words.{by_cond, and_right}
use Rattle.spec.proofs.Elements.{each-imp}
use Rattle.spec.proofs.Digits.{decimal-spells}
use Rattle.spec.proofs.Packing.{decode-fits}
use Rattle.lines.specs.Stamps.{date_of}
use Rattle.lines.specs.Lines.{part_text, point_text, unsigned_text, sample_text, value_text}
use Rattle.lines.proofs.Digits.{fixed-length}
use Rattle.lines.proofs.Stamps.{text-length}
use Rattle.streams.specs.Streams.{packed_ok, all_rows, reply_ok}
use Rattle.streams.specs.Streams.{Row, row_in, each, having, groups, row_group, row_component, by_group, sorted}
use Rattle.streams.specs.Streams.{capital, capitals, lettered, element_name, tag, end_tag}
use Rattle.streams.specs.Streams.{row_attributes, text_line, state_name, native_code, condition_line, row_line}
use Rattle.streams.specs.Streams.{between, group_name, item_type, component_type, row_lines, group_lines}
use Rattle.streams.specs.Streams.{component_tag, component_lines, device_tag, components_lines, streams_lines}
use Rattle.streams.specs.Streams.{header_tag, document_lines, ended, document, streams_bytes}
use Rattle.streams.proofs.Rows.{rows-length}
use Rattle.streams.proofs.Pieces.{ended-append}
use Rattle.streams.proofs.Sorted.{holds-having, sorted-once}
use Rattle.streams.proofs.Document.{word-taken, packed-rows, row-item, placed-rows}

-- ---- texts

digits-length : (k n : ℕ) → length (digits k n) ≤ suc k
unfolding digits
digits-length zero n = omega arith
digits-length (suc k) n =
    by_cond (λ (s : List ℕ). length s ≤ suc (suc k)) (ltb n 10) _ _
    (λ e. omega arith)
    (λ e. simp length-append (omega (arith, digits-length k (n / 10))))

-- 20 digits at most, and as many as a smaller number has
decimal-length : (n : ℕ) → length (decimal n) ≤ 20
decimal-length n = digits-length 19 n

few : (j n : ℕ) → j ≤ 19 → n < 10 ^ suc j → length (decimal n) ≤ suc j
few j n h l = (decimal-spells j n h l).few

pub name-length : (names : List ℕ) (k : ℕ) → length (name_text names k) ≤ name_bytes
name-length names k = simp length-take (omega arith)

pub capital-length : (s : List ℕ) → length (capital s) ≡ length s
capital-length [] = refl
capital-length (x ∷ s) = ap suc (length-map s _)

first-length : (x : ℕ) (ss : List (List ℕ)) → length (capitals (join_first x ss)) ≡ suc (length (capitals ss))
unfolding capitals join_first
first-length x [] = refl
first-length x (s ∷ ss) = simp (length-append, length-map, capital-length) (omega arith)

capitals-length : (s : List ℕ) → length (capitals (split 95 s)) ≤ length s
unfolding capitals split
capitals-length [] = omega arith
capitals-length (x ∷ s) =
    let ih = capitals-length s in
    by_cond (λ (ss : List (List ℕ)). length (capitals ss) ≤ suc (length s)) (eqb x 95) _ _
    (λ e. omega arith)
    (λ e. omega (arith, first-length x (split 95 s)))

lettered-length : (s : List ℕ) → length (lettered s) ≤ suc (length s)
lettered-length [] = omega arith
lettered-length (x ∷ s) =
    by_cond (λ (l : List ℕ). length l ≤ suc (suc (length s))) (digit x) _ _ (λ e. omega arith) (λ e. omega arith)

pub element-length : (type : List ℕ) → length (element_name type) ≤ suc (length type)
unfolding element_name
element-length type = omega (arith, lettered-length (capitals (split 95 type)), capitals-length type)

part_length : (p : ℕ) → length (part_text p) ≤ 3
unfolding part_text
part_length p =
    let Short : List ℕ → Type 0 = λ s. length s ≤ 3 in
    by_cond Short (eqb (p % 100) 0) _ _
    (λ e. omega (arith, fixed-length 1 (p / 100)))
    (λ e. by_cond Short (eqb (p % 10) 0) _ _
    (λ e. omega (arith, fixed-length 2 (p / 10)))
    (λ e. omega (arith, fixed-length 3 p)))

point-length : (p : ℕ) → length (point_text p) ≤ 4
unfolding point_text
point-length p =
    by_cond (λ (s : List ℕ). length s ≤ 4) (eqb p 0) _ _ (λ e. omega arith) (λ e. omega (arith, part_length p))

unsigned-length : (n : ℕ) → n ≤ 2 ^ 31 → length (unsigned_text n) ≤ 11
unsigned-length n h =
    simp length-append (omega (arith, few 6 (n / 1000) (omega arith) (omega arith), point-length (n % 1000)))

sample-length : (x : ℤ) → FitsSample x → length (sample_text x) ≤ 12
sample-length (pos n) h = omega (arith, unsigned-length n (omega arith))
sample-length (negsuc n) h = omega (arith, unsigned-length (suc n) (omega arith))

-- a value of Samples or Events
value-length : (g : ℕ) (v : Value) → g < 2 → takes g v ≡ true → Fits v → length (value_text v) ≤ 12
unfolding value_text
value-length g Unavailable l h f = omega arith
value-length g (Sample x) l h f = sample-length x f
value-length g (Event c) l h f = omega (arith, few 9 c (omega arith) (omega arith))
value-length g (Condition k c) l h f = absurd (true≢false (sym h ∙ rw (ne_eqb g 2 (λ e. omega arith))))

-- ---- lines

-- what of a row its line's length rests on
record Sized (g : ℕ) (r : Row) : Type 0 where
  pub item_ok_lem : r.item < max_items
  pub taken : takes g r.value ≡ true
  pub fits : Fits r.value

abbrev SizedRow : List ℕ → Row → Type 0
SizedRow model r = Sized (row_group model r) r

module _ (model names : List ℕ) (c : Checked model names) where
  sized-row : (r : List ℕ) → packed_ok model (get_or r 2 0) ≡ true → SizedRow model (row_in r)
  unfolding packed_ok
  sized-row r p =
      let word = get_or r 2 0 in
      let l = row-item model names c word p in
      record {
        item_ok_lem = omega (arith, c.sizes.m_max);
        taken = word-taken (category model (item_of word)) (word % 2 ^ 40)
            (and_right (ltb (item_of word) (items model)) _ p);
        fits = decode-fits (word % 2 ^ 40);
      }

  sized-rows : (rs : List (List ℕ)) → all_rows (λ r. packed_ok model (get_or r 2 0)) rs ≡ true
      → Holds (SizedRow model) (map row_in rs)
  unfolding all_rows
  sized-rows [] p = tt
  sized-rows (r ∷ rs) p =
      let p' = (and-eq-true_iff (packed_ok model (get_or r 2 0)) _).0 p in
      (sized-row r p'.0, sized-rows rs p'.1)

tag-length : (t : List ℕ) → length (tag t) ≡ length t + 2
tag-length t = simp length-append (omega arith)

attributes-length : (r : Row) → r.item < 64 → length (row_attributes r) ≤ 86
unfolding row_attributes
attributes-length r h =
    simp length-append
    (omega (
      arith,
      few 1 r.item (omega arith) (omega arith),
      decimal-length r.number,
      text-length (date_of r.time),
    ))

text-line-length : (g : ℕ) (element : List ℕ) (r : Row) → g < 2 → length element ≤ 25 → Sized g r
    → length (text_line element r) ≤ 153
unfolding text_line
text-line-length g element r l e h =
    simp length-append
    (omega (arith, attributes-length r h.item_ok_lem, value-length g r.value l h.taken h.fits))

-- the element and the code of a condition
state-length : (v : Value) → takes 2 v ≡ true → length (state_name v) + length (native_code v) ≤ 32
state-length Unavailable h = omega arith
state-length (Sample x) h = omega arith
state-length (Event c) h = omega arith
state-length (Condition Normal c) h =
    simp length-append (omega (arith, few 7 c (omega arith) (omega (arith, ltb-true c (2 ^ 24) h))))
state-length (Condition Warning c) h =
    simp length-append (omega (arith, few 7 c (omega arith) (omega (arith, ltb-true c (2 ^ 24) h))))
state-length (Condition Fault c) h =
    simp length-append (omega (arith, few 7 c (omega arith) (omega (arith, ltb-true c (2 ^ 24) h))))

condition-length : (type : List ℕ) (r : Row) → length type ≤ name_bytes → Sized 2 r
    → length (condition_line type r) ≤ 153
unfolding condition_line
condition-length type r e h =
    simp length-append
    (omega (arith, attributes-length r h.item_ok_lem, state-length r.value h.taken))

row-length : (g : ℕ) (type : List ℕ) (r : Row) → g < groups → length type ≤ name_bytes → Sized g r
    → length (row_line g type r) ≤ 153
row-length zero type r l e h =
    text-line-length 0 (element_name type) r (omega arith) (omega (arith, element-length type)) h
row-length (suc zero) type r l e h =
    text-line-length 1 (element_name type) r (omega arith) (omega (arith, element-length type)) h
row-length (suc (suc zero)) type r l e h = condition-length type r e h
row-length (suc (suc (suc g))) type r l e h = absurd (omega arith)

-- ---- lists of lines

abbrev size : List (List ℕ) → ℕ
size ls = length (ended ls)

size-append : (a b : List (List ℕ)) → size (a ++ b) ≡ size a + size b
size-append a b = rw (ended-append a b, length-append (ended a) (ended b))

size-cons : (l : List ℕ) (ls : List (List ℕ)) → size (l ∷ ls) ≡ length l + 1 + size ls
unfolding ended
size-cons l ls = simp length-append (omega arith)

between-size : (start end : List ℕ) (ls : List (List ℕ))
    → size (between start end ls) ≤ length start + length end + 2 + size ls
unfolding ended
between-size start end [] = omega arith
between-size start end (l ∷ ls) =
    rw (size-cons start ((l ∷ ls) ++ end ∷ []), size-append (l ∷ ls) (end ∷ []), size-cons end []) (omega arith)

-- what f gives of n numbers from i on, together
total : (ℕ → ℕ) → ℕ → ℕ → ℕ
total f zero i = 0
total f (suc n) i = f i + total f n (suc i)

total-same : (c n i : ℕ) → total (λ k. c) n i ≡ c * n
unfolding total
total-same c zero i = omega arith
total-same c (suc n) i = rw (total-same c n (suc i)) (omega arith)

-- lines of rows, 154 bytes a row and so many besides
each-size : (f : ℕ → ℕ) (G : ℕ → List (List ℕ)) (R : ℕ → List Row) (n i : ℕ)
    → ((k : ℕ) → i ≤ k → k < i + n → size (G k) ≤ f k + 154 * length (R k))
    → size (each G n i) ≤ total f n i + 154 * length (each R n i)
unfolding each total ended
each-size f G R zero i h = omega arith
each-size f G R (suc n) i h =
    rw (size-append (G i) (each G n (suc i)), length-append (R i) (each R n (suc i)))
    (omega (
      arith,
      h i (omega arith) (omega arith),
      each-size f G R n (suc i) (λ k a b. h k (omega arith) (omega arith)),
    ))

-- mathlib's length-eq says it of its own `length`, which is another function
perm-length : {a b : List Row} → Permᴰ a b → length a ≡ length b
perm-length Permᴰ.nil = refl
perm-length (Permᴰ.cons e p) = ap suc (perm-length p)
perm-length (Permᴰ.swap e f) = refl
perm-length (Permᴰ.trans p q) = perm-length p ∙ perm-length q

-- ---- groups, components, document

module _ (model names : List ℕ) where
  type-length : (j : ℕ) → length (item_type model names j) ≤ name_bytes
  type-length j = name-length names (item_name (item_word model j))

  component-name : (i : ℕ) → length (component_type model names i) ≤ name_bytes
  component-name i = name-length names (component_name (component_word model i))

  rows-size : (g : ℕ) → g < groups → (rows : List Row) → Holds (Sized g) rows
      → size (row_lines model names g rows) ≤ 154 * length rows
  unfolding row_lines ended
  rows-size g l [] h = omega arith
  rows-size g l (r ∷ rows) h =
      let type = item_type model names r.item in
      rw (size-cons (row_line g type r) (row_lines model names g rows))
      (omega (arith, row-length g type r l (type-length r.item) h.0, rows-size g l rows h.1))

  -- a group's start and end
  group_bytes : ℕ → ℕ
  group_bytes g = length (group_name g) + length (group_name g) + 7

  group-size : (g : ℕ) → g < groups → (rows : List Row) → Holds (Sized g) rows
      → size (group_lines model names g rows) ≤ group_bytes g + 154 * length rows
  unfolding group_lines group_bytes
  group-size g l rows h =
      let name = group_name g in
      omega (
        arith,
        between-size (tag name) (end_tag name) (row_lines model names g rows),
        tag-length name,
        tag-length (47 ∷ name),
        rows-size g l rows h,
      )

  component-tag : (i : ℕ) → i < 64 → length (component_tag model names i) ≤ 102
  unfolding component_tag
  component-tag i h =
      simp length-append
      (omega (arith, component-name i, few 1 i (omega arith) (omega arith)))

  component-size : (i : ℕ) (rows : List Row) → i < 64 → Holds (SizedRow model) rows
      → size (component_lines model names i rows) ≤ 189 + 154 * length (by_group model rows)
  unfolding component_lines total group_bytes
  component-size i rows l h =
      let own : ℕ → List Row = λ g. having (row_group model) g rows in
      let t = tag (component_tag model names i) in
      let lines = each (λ g. group_lines model names g (own g)) groups 0 in
      omega (
        arith,
        between-size t (bytes "</ComponentStream>") lines,
        tag-length (component_tag model names i),
        component-tag i l,
        each-size group_bytes (λ g. group_lines model names g (own g)) own groups 0
            (λ g a b. group-size g (omega arith) (own g)
            (each-imp (λ r p. rw p.1 at p.0) (own g) (holds-having (SizedRow model) (row_group model) g rows h))),
      )

  components-size : (rows : List Row) → components model ≤ 64 → Holds (SizedRow model) rows
      → size (components_lines model names rows) ≤ 189 * components model + 154 * length (sorted model rows)
  unfolding components_lines sorted
  components-size rows l h =
      let own : ℕ → List Row = λ c. having (row_component model) c rows in
      rw (total-same 189 (components model) 0)
      at (each-size (λ c. 189) (λ c. component_lines model names c (own c)) (λ c. by_group model (own c))
      (components model) 0
      (λ c a b. component-size c (own c) (omega arith)
      (each-imp (λ r p. p.0) (own c) (holds-having (SizedRow model) (row_component model) c rows h))))

  streams-size : (rows : List Row) → components model ≤ 64 → Holds (SizedRow model) rows
      → size (streams_lines model names rows)
      ≤ 116 + 189 * components model + 154 * length (sorted model rows)
  unfolding streams_lines ended device_tag
  streams-size [] l h = omega arith
  streams-size (r ∷ rows) l h =
      simp (size-cons, size-append, length-append)
      (omega (arith, component-name 0, components-size (r ∷ rows) l h))

  document-size : (reply : List ℕ) (N instance creation : ℕ) → components model ≤ 64
      → Holds (SizedRow model) (map row_in (rows_of reply))
      → size (document_lines model names reply N instance creation)
      ≤ streams_bytes (components model) (length (sorted model (map row_in (rows_of reply))))
  unfolding document_lines ended header_tag
  document-size reply N instance creation l h =
      simp (size-cons, size-append, length-append)
      (omega (
        arith,
        text-length (date_of creation),
        decimal-length instance,
        decimal-length N,
        decimal-length (get_or reply 3 0),
        decimal-length (get_or reply 1 0),
        decimal-length (get_or reply 2 0),
        streams-size (map row_in (rows_of reply)) l h,
      ))

pub document-short : (model names reply : List ℕ) (N instance creation : ℕ) → Checked model names
    → reply_ok model reply ≡ true
    → length (document model names reply N instance creation) ≤ streams_bytes (components model) (get_or reply 0 0)
unfolding document
document-short model names reply N instance creation c h =
    let rows = map row_in (rows_of reply) in
    let packed = packed-rows model reply h in
    let e : length (sorted model rows) ≡ get_or reply 0 0 =
    perm-length (sorted-once model rows (placed-rows model names c (rows_of reply) packed))
    ∙ length-map (rows_of reply) row_in
    ∙ rows-length reply in
    rw e
    at (document-size model names reply N instance creation c.sizes.c_max
    (sized-rows model names c (rows_of reply) packed))
