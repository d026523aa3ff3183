-- Every line is a tag, or two with a text between. What stands inside and between tags has no '<', '>' or line feed,
-- so the document is cut into the lines that it was made of.
use Prim.Native.Nat.{ℕ, zero, suc}
use mathlib.Core.Path.{◌≡◌, refl, ap, ◌∙◌}
use mathlib.Core.Bool.{Bool, true, false, ◌||◌}
use mathlib.Core.List.{List, [], ◌∷◌, ◌++◌, map}
use lib.Dec.{eqb}
use Rattle.spec.specs.Bytes.{bytes, name_byte, all, split, decimal}
use Rattle.spec.specs.Model.{components, item_word, component_word, item_name, component_name, name_text}
use Rattle.spec.specs.Reply.{rows_of}
use Rattle.spec.specs.declared.Value.{Value}
use Rattle.spec.specs.declared.Value.TheVariants.{Unavailable, Sample, Event, Condition}
use Rattle.spec.specs.declared.Level.TheVariants.{Normal, Warning, Fault}
use Rattle.spec.proofs.Bytes.{Lacks, AllOf, Apart, all_append, all-imp, all_of-imp, split-more}
use Rattle.spec.proofs.Elements.{each-all, each-map, each-append}
use Rattle.lines.specs.Stamps.{stamp_text}
use Rattle.lines.specs.Lines.{value_text}
use Rattle.streams.specs.Streams.{Row, row_in, each, having, groups, row_group, row_component, element_name}
use Rattle.streams.specs.Streams.{attribute, tag, end_tag, empty_tag, row_attributes, text_line, state_name}
use Rattle.streams.specs.Streams.{native_code, condition_line, row_line, between, group_name, item_type, row_lines}
use Rattle.streams.specs.Streams.{group_lines, component_tag, component_lines, device_tag, components_lines}
use Rattle.streams.specs.Streams.{streams_lines, header_tag, document_lines, ended, document}
use Rattle.streams.proofs.Fill.{fill_byte, Fill, other_byte, class-lacks, decimal-fill, name-class, name-fill}
use Rattle.streams.proofs.Fill.{element-fill, stamp-fill, value-fill}

-- ---- the lines of a text

pub split-ended : (ls : List (List ℕ)) → Apart 10 ls → split 10 (ended ls) ≡ ls ++ [] ∷ []
unfolding ended split
split-ended [] h = refl
split-ended (l ∷ ls) h = split-more 10 l (ended ls) h.0 ∙ ap (◌∷◌ l) (split-ended ls h.1)

-- ---- what stands inside tags, and between them

-- what is filled in, and ' ', '"', '/', '=', '?'
unfoldable pub inner_byte : ℕ → Bool
inner_byte x = fill_byte x || (eqb x 32 || (eqb x 34 || (eqb x 47 || (eqb x 61 || eqb x 63))))

-- that, '<' and '>'
unfoldable pub line_byte : ℕ → Bool
line_byte x = inner_byte x || (eqb x 60 || eqb x 62)

abbrev pub Inner : List ℕ → Type 0
Inner s = all inner_byte s ≡ true

abbrev pub Line : List ℕ → Type 0
Line s = all line_byte s ≡ true

pub inner-open : (s : List ℕ) → Inner s → Lacks 60 s
unfolding inner_byte fill_byte name_byte
inner-open = class-lacks inner_byte 60 refl

pub inner-close : (s : List ℕ) → Inner s → Lacks 62 s
unfolding inner_byte fill_byte name_byte
inner-close = class-lacks inner_byte 62 refl

fill-inner : (s : List ℕ) → Fill s → Inner s
unfolding inner_byte
fill-inner s h = all-imp {p = fill_byte} (λ x k. rw k) s h

pub inner-line : (s : List ℕ) → Inner s → Line s
unfolding line_byte
inner-line s h = all-imp {p = inner_byte} (λ x k. rw k) s h

decimal-inner : (n : ℕ) → Inner (decimal n)
decimal-inner n = fill-inner (decimal n) (decimal-fill n)

stamp-inner : (t : ℕ) → Inner (stamp_text t)
stamp-inner t = fill-inner (stamp_text t) (stamp-fill t)

name-inner : (names : List ℕ) (k : ℕ) → Inner (name_text names k)
name-inner names k = fill-inner (name_text names k) (name-fill names k)

pub element-inner : (type : List ℕ) → all name_byte type ≡ true → Inner (element_name type)
element-inner type h = fill-inner (element_name type) (element-fill type h)

pub value-inner : (v : Value) → Inner (value_text v)
value-inner v = fill-inner (value_text v) (value-fill v)

pub state-fill : (v : Value) → Fill (state_name v)
unfolding all fill_byte name_byte
state-fill Unavailable = refl
state-fill (Sample x) = refl
state-fill (Event c) = refl
state-fill (Condition Normal c) = refl
state-fill (Condition Warning c) = refl
state-fill (Condition Fault c) = refl

code-inner : (v : Value) → Inner (native_code v)
unfolding all inner_byte fill_byte name_byte
code-inner Unavailable = refl
code-inner (Sample x) = refl
code-inner (Event c) = refl
code-inner (Condition l c) = simp (all_append, decimal-inner c)

pub attributes-inner : (r : Row) → Inner (row_attributes r)
unfolding row_attributes all inner_byte fill_byte name_byte
attributes-inner r = simp (all_append, decimal-inner r.item, decimal-inner r.number, stamp-inner r.time)

-- what stands in a condition's tag
abbrev pub condition_tag : List ℕ → Row → List ℕ
condition_tag type r =
    state_name r.value ++ (row_attributes r ++ (attribute (bytes "type") type ++ native_code r.value))

pub condition-inner : (type : List ℕ) (r : Row) → Fill type → Inner (condition_tag type r)
unfolding all inner_byte fill_byte name_byte
condition-inner type r h =
    simp (
      all_append,
      fill-inner type h,
      fill-inner (state_name r.value) (state-fill r.value),
      attributes-inner r,
      code-inner r.value,
    )

pub header-inner : (reply : List ℕ) (N instance creation : ℕ) → Inner (header_tag reply N instance creation)
unfolding header_tag all inner_byte fill_byte name_byte
header-inner reply N instance creation = simp (all_append, stamp-inner creation, decimal-inner)

module _ (model names : List ℕ) where
  pub component-inner : (i : ℕ) → Inner (component_tag model names i)
  unfolding component_tag all inner_byte fill_byte name_byte
  component-inner i = simp (all_append, name-inner names (component_name (component_word model i)), decimal-inner i)

  pub device-inner : Inner (device_tag model names)
  unfolding device_tag all inner_byte fill_byte name_byte
  device-inner = simp (all_append, name-inner names (component_name (component_word model 0)))

-- ---- lines

tag-line : (t : List ℕ) → Inner t → Line (tag t)
unfolding all line_byte inner_byte fill_byte name_byte
tag-line t h = simp (all_append, inner-line t h)

empty-line : (t : List ℕ) → Inner t → Line (empty_tag t)
unfolding all line_byte inner_byte fill_byte name_byte
empty-line t h = simp (all_append, inner-line t h)

text-line : (element : List ℕ) (r : Row) → Inner element → Line (text_line element r)
unfolding text_line all line_byte inner_byte fill_byte name_byte
text-line element r h =
    simp (
      all_append,
      inner-line element h,
      inner-line (row_attributes r) (attributes-inner r),
      inner-line (value_text r.value) (value-inner r.value),
    )

row-line : (g : ℕ) (type : List ℕ) (r : Row) → all name_byte type ≡ true → Fill type → Line (row_line g type r)
unfolding condition_line
row-line zero type r n h = text-line (element_name type) r (element-inner type n)
row-line (suc zero) type r n h = text-line (element_name type) r (element-inner type n)
row-line (suc (suc g)) type r n h = empty-line (condition_tag type r) (condition-inner type r h)

-- ---- lists of lines

module _ (p : ℕ → Bool) where
  all_of-map : {A : Type 0} (f : A → List ℕ) (rs : List A) → ((r : A) → all p (f r) ≡ true) → AllOf p (map f rs)
  all_of-map f rs h = each-map _ f rs (each-all h rs)

  all_of-each : (G : ℕ → List (List ℕ)) (n i : ℕ) → ((k : ℕ) → AllOf p (G k)) → AllOf p (each G n i)
  unfolding each
  all_of-each G zero i h = tt
  all_of-each G (suc n) i h = each-append _ (G i) (each G n (suc i)) (h i) (all_of-each G n (suc i) h)

  all_of-between : (start end : List ℕ) (ls : List (List ℕ)) → all p start ≡ true → all p end ≡ true → AllOf p ls
      → AllOf p (between start end ls)
  all_of-between start end [] s e h = tt
  all_of-between start end (l ∷ ls) s e h = (s, each-append _ (l ∷ ls) (end ∷ []) h (e, tt))

module _ (model names : List ℕ) where
  -- an item's type is a name
  pub type-class : (j : ℕ) → all name_byte (item_type model names j) ≡ true
  type-class j = name-class names (item_name (item_word model j))

  pub type-fill : (j : ℕ) → Fill (item_type model names j)
  type-fill j = name-fill names (item_name (item_word model j))

  rows-lines : (g : ℕ) (rows : List Row) → AllOf line_byte (row_lines model names g rows)
  unfolding row_lines
  rows-lines g rows =
      all_of-map _ (λ r. row_line g (item_type model names r.item) r) rows
      (λ r. row-line g (item_type model names r.item) r (type-class r.item) (type-fill r.item))

  group_lines_lem : (g : ℕ) (rows : List Row) → AllOf line_byte (group_lines model names g rows)
  unfolding group_lines all line_byte inner_byte fill_byte name_byte
  group_lines_lem g rows =
      all_of-between _ (tag (group_name g)) (end_tag (group_name g)) (row_lines model names g rows)
      (both g).0 (both g).1 (rows-lines g rows)
    where
      both : (g : ℕ) → Line (tag (group_name g)) × Line (end_tag (group_name g))
      both zero = (refl, refl)
      both (suc zero) = (refl, refl)
      both (suc (suc g)) = (refl, refl)

  component-lines : (i : ℕ) (rows : List Row) → AllOf line_byte (component_lines model names i rows)
  unfolding component_lines all line_byte inner_byte fill_byte name_byte
  component-lines i rows =
      all_of-between _ (tag (component_tag model names i)) (bytes "</ComponentStream>")
      (each (λ g. group_lines model names g (having (row_group model) g rows)) groups 0)
      (tag-line (component_tag model names i) (component-inner model names i)) refl
      (all_of-each _ (λ g. group_lines model names g (having (row_group model) g rows)) groups 0
      (λ g. group_lines_lem g (having (row_group model) g rows)))

  components-lines : (rows : List Row) → AllOf line_byte (components_lines model names rows)
  unfolding components_lines
  components-lines rows =
      all_of-each _ (λ c. component_lines model names c (having (row_component model) c rows)) (components model) 0
      (λ c. component-lines c (having (row_component model) c rows))

  streams-lines : (rows : List Row) → AllOf line_byte (streams_lines model names rows)
  unfolding streams_lines all line_byte inner_byte fill_byte name_byte
  streams-lines [] = (refl, tt)
  streams-lines (r ∷ rows) = (
    refl,
    (
      tag-line (device_tag model names) (device-inner model names),
      each-append _ (components_lines model names (r ∷ rows)) (bytes "</DeviceStream>" ∷ bytes "</Streams>" ∷ [])
          (components-lines (r ∷ rows)) (refl, (refl, tt)),
    ),
  )

  document-lines : (reply : List ℕ) (N instance creation : ℕ)
      → AllOf line_byte (document_lines model names reply N instance creation)
  unfolding document_lines all line_byte inner_byte fill_byte name_byte
  document-lines reply N instance creation = (
    refl,
    (
      refl,
      (
        empty-line (header_tag reply N instance creation) (header-inner reply N instance creation),
        each-append _ (streams_lines model names (map row_in (rows_of reply))) (bytes "</MTConnectStreams>" ∷ [])
            (streams-lines (map row_in (rows_of reply))) (refl, tt),
      ),
    ),
  )

  pub document-apart : (b : ℕ) → line_byte b ≡ false → (reply : List ℕ) (N instance creation : ℕ)
      → Apart b (document_lines model names reply N instance creation)
  document-apart b n reply N instance creation =
      all_of-imp {p = line_byte} (λ x k. rw (other_byte line_byte b x n k))
      (document_lines model names reply N instance creation)
      (document-lines reply N instance creation)

  -- the document's own lines
  pub document-cut : (reply : List ℕ) (N instance creation : ℕ)
      → split 10 (document model names reply N instance creation)
      ≡ document_lines model names reply N instance creation ++ [] ∷ []
  unfolding document line_byte inner_byte fill_byte name_byte
  document-cut reply N instance creation =
      split-ended (document_lines model names reply N instance creation)
      (document-apart 10 refl reply N instance creation)
