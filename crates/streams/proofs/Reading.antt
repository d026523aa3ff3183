-- What the reader makes of the writer's lines: a row's line gives the row, the header's line the header.
use Prim.Native.Nat.{ℕ, zero, suc, ◌^◌, ◌≤◌, ◌<◌}
use mathlib.Core.Path.{◌≡◌, refl, sym, ap, ◌∙◌}
use mathlib.Core.Bool.{true, true≢false}
use mathlib.Core.List.{List, [], ◌∷◌, ◌++◌, append_assoc}
use native.Mathlib.Omega.{arith}
use lib.ListN.{get_or}
use borrow.Author.Tests.{ltb-true}
use Rattle.spec.specs.Bytes.{bytes, name_byte, all, same, split, join_first, value_from, decimal}
use Rattle.spec.specs.Model.{max_items}
use Rattle.spec.specs.Value.{takes, Fits}
use Rattle.spec.specs.declared.Level.TheVariants.{Normal, Warning, Fault}
use Rattle.spec.specs.declared.Value.{Value}
use Rattle.spec.specs.declared.Value.TheVariants.{Unavailable, Sample, Event, Condition}
use Rattle.spec.proofs.Packing.{taken-coded}
use Rattle.spec.proofs.Bytes.{Lacks, all_append, split-last, split-more}
use Rattle.spec.proofs.Digits.{decimal-spells}
use Rattle.lines.specs.Stamps.{max_time, stamp_text, date_of}
use Rattle.lines.specs.Lines.{form_of, value_read, value_text}
use Rattle.lines.proofs.Stamps.{time-back, date-real, text-back}
use Rattle.lines.proofs.Lines.{text-form, line-back}
use Rattle.streams.specs.Streams.{Row, element_name, attribute, end_tag, empty_tag, row_attributes, text_line}
use Rattle.streams.specs.Streams.{state_name, native_code, condition_line, row_line, groups, header_tag}
use Rattle.streams.specs.ReadStreams.{part, quoted, opening, time_from, is_row, content, state_named, value_in}
use Rattle.streams.specs.ReadStreams.{row_from, Header, header_from}
use Rattle.streams.proofs.Fill.{fill_byte, Fill, lacks, decimal-fill, element-fill, stamp-fill, value-fill}
use Rattle.streams.proofs.Lines.{state-fill}

-- ---- texts back

-- what a u64 holds reads back from its digits
pub number-back : (n : ℕ) → n < 2 ^ 64 → value_from 0 (decimal n) ≡ n
number-back n h = (decimal-spells 19 n (omega arith) (omega arith)).value

pub stamp-back : (t : ℕ) → t ≤ max_time → time_from (stamp_text t) ≡ t
stamp-back t h = rw (text-back (date_of t) (date-real t h)) (time-back t)

-- a category's own value reads back from its text
value-back : (category : ℕ) (v : Value) → takes category v ≡ true → Fits v
    → value_read category (form_of (value_text v)) ≡ v
value-back category v h f =
    rw (text-form v (taken-coded category v h f)) (line-back category 0 0 v (omega arith) (omega arith) h f).value

-- a row that stands in group g. A group's number is a category that takes the group's values
pub record Good (g : ℕ) (r : Row) : Type 0 where
  pub item_ok_lem : r.item < max_items
  pub number_ok_lem : r.number < 2 ^ 64
  pub time-ok : r.time ≤ max_time
  pub taken : takes g r.value ≡ true
  pub fits : Fits r.value

-- ---- a row's line cut at its '"'

no-quote : (s : List ℕ) → Fill s → Lacks 34 s
unfolding fill_byte name_byte
no-quote = lacks 34 refl

no-blank : (s : List ℕ) → Fill s → Lacks 32 s
unfolding fill_byte name_byte
no-blank = lacks 32 refl

no-tag : (s : List ℕ) → Fill s → Lacks 60 s
unfolding fill_byte name_byte
no-tag = lacks 60 refl

-- an attribute behind p, and what follows is cut into ps
attribute-cut : (p name t s : List ℕ) {ps : List (List ℕ)} → Lacks 34 p → Lacks 34 name → Fill t
    → split 34 s ≡ ps
    → split 34 (p ++ (attribute name t ++ s)) ≡ (p ++ 32 ∷ (name ++ 61 ∷ [])) ∷ t ∷ ps
unfolding all
attribute-cut p name t s hp hn ht h =
    let front : Lacks 34 (p ++ 32 ∷ (name ++ 61 ∷ [])) = simp (all_append, hp, hn) in
    let e : p ++ (attribute name t ++ s) ≡ (p ++ 32 ∷ (name ++ 61 ∷ [])) ++ 34 ∷ (t ++ 34 ∷ s) = simp append_assoc in
    rw e
    (split-more 34 (p ++ 32 ∷ (name ++ 61 ∷ [])) (t ++ 34 ∷ s) front
    ∙ ap (◌∷◌ (p ++ 32 ∷ (name ++ 61 ∷ []))) (split-more 34 t s (no-quote t ht) ∙ ap (◌∷◌ t) h))

-- behind another attribute
next-cut : (name t s : List ℕ) {ps : List (List ℕ)} → Lacks 34 name → Fill t → split 34 s ≡ ps
    → split 34 (attribute name t ++ s) ≡ (32 ∷ (name ++ 61 ∷ [])) ∷ t ∷ ps
unfolding all
next-cut name t s hn ht h = attribute-cut [] name t s refl hn ht h

-- the parts of a row's line up to its stamp, and those behind
abbrev row_parts : List ℕ → Row → List (List ℕ) → List (List ℕ)
row_parts element r rest =
    ((60 ∷ element) ++ bytes " dataItemId=")
    ∷ (105 ∷ decimal r.item)
    ∷ bytes " sequence="
    ∷ decimal r.number
    ∷ bytes " timestamp="
    ∷ stamp_text r.time
    ∷ rest

item-fill : (n : ℕ) → Fill (105 ∷ decimal n)
unfolding all fill_byte name_byte
item-fill n = decimal-fill n

row_cut : (element : List ℕ) (r : Row) (s : List ℕ) → Fill element
    → split 34 ((60 ∷ element) ++ (row_attributes r ++ s)) ≡ row_parts element r (split 34 s)
unfolding row_attributes all
row_cut element r s h =
    let A = attribute (bytes "dataItemId") (105 ∷ decimal r.item) in
    let B = attribute (bytes "sequence") (decimal r.number) in
    let C = attribute (bytes "timestamp") (stamp_text r.time) in
    let e : (A ++ (B ++ C)) ++ s ≡ A ++ (B ++ (C ++ s)) =
    append_assoc A (B ++ C) s ∙ ap (◌++◌ A) (append_assoc B C s) in
    ap (λ (x : List ℕ). split 34 ((60 ∷ element) ++ x)) e
    ∙ attribute-cut (60 ∷ element) (bytes "dataItemId") (105 ∷ decimal r.item) (B ++ (C ++ s))
    (no-quote element h) refl (item-fill r.item)
    (next-cut (bytes "sequence") (decimal r.number) (C ++ s) refl (decimal-fill r.number)
    (next-cut (bytes "timestamp") (stamp_text r.time) s refl (stamp-fill r.time) refl))

opening-row : (element : List ℕ) (r : Row) (rest : List (List ℕ)) → Fill element
    → opening (row_parts element r rest) ≡ (60 ∷ element) ∷ bytes "dataItemId=" ∷ []
unfolding opening split join_first all
opening-row element r rest h = split-more 32 (60 ∷ element) (bytes "dataItemId=") (no-blank element h)

is-row : (element : List ℕ) (r : Row) (rest : List (List ℕ)) → Fill element
    → is_row (row_parts element r rest) ≡ true
unfolding is_row same
is-row element r rest h = rw (opening-row element r rest h)

-- what the reader is to make of a line in group g
pub record Reads (g : ℕ) (line : List ℕ) (r : Row) : Type 0 where
  pub row : is_row (quoted line) ≡ true
  pub from : row_from g (quoted line) ≡ r

row_reads : (g : ℕ) (element line : List ℕ) (r : Row) (rest : List (List ℕ)) → Fill element → Good g r
    → quoted line ≡ row_parts element r rest → value_in g (row_parts element r rest) ≡ r.value → Reads g line r
unfolding row_from
row_reads g element line r rest h k e v =
    record {
      row = rw e (is-row element r rest h);
      from =
          rw (
            e,
            number-back r.item (omega arith),
            number-back r.number k.number_ok_lem,
            stamp-back r.time k.time-ok,
            v,
          );
    }

-- ---- Samples and Events

content-of : (t element : List ℕ) → Fill t → content (62 ∷ (t ++ end_tag element)) ≡ t
unfolding content
content-of t element h = rw (split-more 60 t (47 ∷ (element ++ 62 ∷ [])) (no-tag t h))

text-cut : (element : List ℕ) (r : Row) → Fill element
    → quoted (text_line element r) ≡ row_parts element r ((62 ∷ (value_text r.value ++ end_tag element)) ∷ [])
unfolding text_line all
text-cut element r h =
    let v = value_text r.value in
    let z : Lacks 34 (62 ∷ (v ++ end_tag element)) =
    simp (all_append, no-quote v (value-fill r.value), no-quote element h) in
    let e : text_line element r ≡ (60 ∷ element) ++ (row_attributes r ++ (62 ∷ (v ++ end_tag element))) =
    simp append_assoc in
    ap (split 34) e
    ∙ row_cut element r (62 ∷ (v ++ end_tag element)) h
    ∙ ap (row_parts element r) (split-last 34 _ z)

-- ---- Condition

code_parts : Value → List (List ℕ)
code_parts Unavailable = bytes "/>" ∷ []
code_parts (Sample x) = bytes "/>" ∷ []
code_parts (Event c) = bytes "/>" ∷ []
code_parts (Condition l c) = bytes " nativeCode=" ∷ decimal c ∷ bytes "/>" ∷ []

code-cut : (v : Value) → split 34 (native_code v ++ bytes "/>") ≡ code_parts v
unfolding code_parts split join_first all
code-cut Unavailable = refl
code-cut (Sample x) = refl
code-cut (Event c) = refl
code-cut (Condition l c) = next-cut (bytes "nativeCode") (decimal c) (bytes "/>") refl (decimal-fill c) refl

condition-cut : (type : List ℕ) (r : Row) → Fill type
    → quoted (condition_line type r)
    ≡ row_parts (state_name r.value) r (bytes " type=" ∷ type ∷ code_parts r.value)
unfolding condition_line all
condition-cut type r h =
    let n = state_name r.value in
    let s = attribute (bytes "type") type ++ (native_code r.value ++ bytes "/>") in
    let e : condition_line type r ≡ (60 ∷ n) ++ (row_attributes r ++ s) = simp append_assoc in
    ap (split 34) e
    ∙ row_cut n r s (state-fill r.value)
    ∙ ap (row_parts n r)
    (next-cut (bytes "type") type (native_code r.value ++ bytes "/>") refl h (code-cut r.value))

condition-in : (v : Value) (ps : List (List ℕ)) → takes 2 v ≡ true → part (opening ps) 0 ≡ 60 ∷ state_name v
    → part ps 9 ≡ part (code_parts v) 1 → value_in 2 ps ≡ v
unfolding value_in state_named same code_parts
condition-in Unavailable ps h e d = rw e
condition-in (Sample x) ps h e d = absurd (true≢false (sym h))
condition-in (Event c) ps h e d = absurd (true≢false (sym h))
condition-in (Condition Normal c) ps h e d = rw (e, d, number-back c (omega (arith, ltb-true c (2 ^ 24) h)))
condition-in (Condition Warning c) ps h e d = rw (e, d, number-back c (omega (arith, ltb-true c (2 ^ 24) h)))
condition-in (Condition Fault c) ps h e d = rw (e, d, number-back c (omega (arith, ltb-true c (2 ^ 24) h)))

-- ---- a row of any group

module _ (type : List ℕ) (named : all name_byte type ≡ true) (filled : Fill type) (r : Row) where
  text-reads : (g : ℕ) → Good g r
      → ((ps : List (List ℕ)) → value_in g ps ≡ value_read g (form_of (content (part ps 6))))
      → Reads g (text_line (element_name type) r) r
  text-reads g h v =
      let e = element_name type in
      let f = element-fill type named in
      let rest : List (List ℕ) = (62 ∷ (value_text r.value ++ end_tag e)) ∷ [] in
      row_reads g e (text_line e r) r rest f h (text-cut e r f)
      (v (row_parts e r rest)
      ∙ rw (content-of (value_text r.value) e (value-fill r.value))
      (value-back g r.value h.taken h.fits))

  pub line_reads : (g : ℕ) → g < groups → Good g r → Reads g (row_line g type r) r
  unfolding value_in
  line_reads zero l h = text-reads 0 h (λ ps. refl)
  line_reads (suc zero) l h = text-reads 1 h (λ ps. refl)
  line_reads (suc (suc zero)) l h =
      let n = state_name r.value in
      let s = state-fill r.value in
      let rest : List (List ℕ) = bytes " type=" ∷ type ∷ code_parts r.value in
      row_reads 2 n (condition_line type r) r rest s h (condition-cut type r filled)
      (condition-in r.value (row_parts n r rest) h.taken
      (ap (λ (x : List (List ℕ)). part x 0) (opening-row n r rest s)) refl)
  line_reads (suc (suc (suc g))) l h = absurd (omega arith)

-- ---- the header

module _ (reply : List ℕ) (N instance creation : ℕ) where
  header-cut : quoted (empty_tag (header_tag reply N instance creation))
      ≡ bytes "<Header creationTime=" ∷ stamp_text creation
      ∷ bytes " sender=" ∷ bytes "box"
      ∷ bytes " instanceId=" ∷ decimal instance
      ∷ bytes " bufferSize=" ∷ decimal N
      ∷ bytes " version=" ∷ bytes "1.2"
      ∷ bytes " nextSequence=" ∷ decimal (get_or reply 3 0)
      ∷ bytes " firstSequence=" ∷ decimal (get_or reply 1 0)
      ∷ bytes " lastSequence=" ∷ decimal (get_or reply 2 0)
      ∷ bytes "/>" ∷ []
  unfolding header_tag split join_first all fill_byte name_byte
  header-cut =
      let end = bytes "/>" in
      let last = attribute (bytes "lastSequence") (decimal (get_or reply 2 0)) ++ end in
      let first = attribute (bytes "firstSequence") (decimal (get_or reply 1 0)) ++ last in
      let next = attribute (bytes "nextSequence") (decimal (get_or reply 3 0)) ++ first in
      let version = attribute (bytes "version") (bytes "1.2") ++ next in
      let buffer = attribute (bytes "bufferSize") (decimal N) ++ version in
      let started = attribute (bytes "instanceId") (decimal instance) ++ buffer in
      let sender = attribute (bytes "sender") (bytes "box") ++ started in
      let e : empty_tag (header_tag reply N instance creation)
      ≡ bytes "<Header" ++ (attribute (bytes "creationTime") (stamp_text creation) ++ sender) = simp append_assoc in
      ap (split 34) e
      ∙ attribute-cut (bytes "<Header") (bytes "creationTime") (stamp_text creation) sender refl refl
      (stamp-fill creation)
      (next-cut (bytes "sender") (bytes "box") started refl refl
      (next-cut (bytes "instanceId") (decimal instance) buffer refl (decimal-fill instance)
      (next-cut (bytes "bufferSize") (decimal N) version refl (decimal-fill N)
      (next-cut (bytes "version") (bytes "1.2") next refl refl
      (next-cut (bytes "nextSequence") (decimal (get_or reply 3 0)) first refl (decimal-fill (get_or reply 3 0))
      (next-cut (bytes "firstSequence") (decimal (get_or reply 1 0)) last refl (decimal-fill (get_or reply 1 0))
      (next-cut (bytes "lastSequence") (decimal (get_or reply 2 0)) end refl (decimal-fill (get_or reply 2 0))
      refl)))))))

  -- what a header's line is to give
  abbrev pub header_of : Header
  header_of =
      record {
        creation = creation;
        instance = instance;
        buffer_size = N;
        next = get_or reply 3 0;
        first = get_or reply 1 0;
        last = get_or reply 2 0;
      }

  pub header-reads : ((i : ℕ) → get_or reply i 0 < 2 ^ 64) → N < 2 ^ 64 → instance < 2 ^ 64 → creation ≤ max_time
      → header_from (quoted (empty_tag (header_tag reply N instance creation))) ≡ header_of
  unfolding header_from
  header-reads w n i c =
      rw (
        header-cut,
        stamp-back creation c,
        number-back instance i,
        number-back N n,
        number-back (get_or reply 3 0) (w 3),
        number-back (get_or reply 1 0) (w 1),
        number-back (get_or reply 2 0) (w 2),
      )
