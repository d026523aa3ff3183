-- A document's tags nest, whatever the model, the names and the reply's words, and no text filled in is markup.
use Prim.Native.Nat.{ℕ, zero, suc, ◌≤◌}
use mathlib.Core.Path.{◌≡◌, refl, sym, ap, ◌∙◌}
use mathlib.Core.Bool.{Bool, true, false, cond, not, or-true, and-eq-true_iff}
use mathlib.Core.List.{List, [], ◌∷◌, ◌++◌, map, append_assoc, append-nil}
use native.Mathlib.Omega.{arith}
use lib.Dec.{eqb}
use lib.ListN.{length, drop}
use lib.Seq.{take_at}
use borrow.Author.Tests.{eq-eqb, not-true, le-leb}
use Rattle.spec.specs.Bytes.{bytes, name_byte, digit, all, before, split, join_first, decimal}
use Rattle.spec.specs.Model.{components, component_name, component_word}
use Rattle.spec.specs.Reply.{rows_of}
use Rattle.spec.proofs.Words.{by_cond}
use Rattle.spec.proofs.Bytes.{Lacks, Apart, all_append, same_refl, before-append}
use Rattle.lines.specs.Stamps.{stamp_text}
use Rattle.lines.specs.Lines.{value_text}
use Rattle.spec.specs.declared.Value.{Value}
use Rattle.streams.specs.Streams.{Row, row_in, each, having, groups, row_group, row_component, capitals, lettered}
use Rattle.streams.specs.Streams.{element_name, attribute, tag, end_tag, empty_tag, row_attributes, text_line}
use Rattle.streams.specs.Streams.{condition_line, row_line, between, group_name, item_type, component_type, row_lines}
use Rattle.streams.specs.Streams.{group_lines, component_tag, component_lines, device_tag, components_lines}
use Rattle.streams.specs.Streams.{streams_lines, header_tag, document_lines, ended, document}
use Rattle.streams.specs.Nesting.{up_to, tags, first_byte, last_byte, stands_alone, nested}
use Rattle.streams.proofs.Pieces.{ended-append}
use Rattle.streams.proofs.Fill.{fill_byte, Fill, other_byte, lacks, element-fill, value-fill, stamp-fill}
use Rattle.streams.proofs.Fill.{decimal-fill, name-fill}
use Rattle.streams.proofs.Lines.{Inner, inner_byte, line_byte, inner-open, inner-close, element-inner}
use Rattle.streams.proofs.Lines.{value-inner, attributes-inner, condition_tag, condition-inner, header-inner}
use Rattle.streams.proofs.Lines.{component-inner, device-inner, type-class, type-fill, document-apart}

-- ---- the tags of a text put together

-- bytes in front of the first part
join_front : List ℕ → List (List ℕ) → List (List ℕ)
join_front [] ps = ps
join_front (x ∷ p) ps = join_first x (join_front p ps)

split-front : (b : ℕ) (p s : List ℕ) → Lacks b p → split b (p ++ s) ≡ join_front p (split b s)
unfolding split join_front all
split-front b [] s h = refl
split-front b (x ∷ p) s h =
    let t = (and-eq-true_iff (not (eqb x b)) (all (λ x. not (eqb x b)) p)).0 h in
    rw (not-true (eqb x b) t.0, split-front b p s t.1)

-- a list of at least one part, by its first
data Parts : List (List ℕ) → Type 0 where
  parts : (p : List ℕ) (ps : List (List ℕ)) → Parts (p ∷ ps)

some-parts : (b : ℕ) (s : List ℕ) → Parts (split b s)
unfolding split join_first
some-parts b [] = parts [] []
some-parts b (x ∷ s) = go (eqb x b) (split b s) (some-parts b s)
  where
    go : (t : Bool) (r : List (List ℕ)) → Parts r → Parts (cond t ([] ∷ r) (join_first x r))
    go true r h = parts [] r
    go false r (parts p ps) = parts (x ∷ p) ps

joined-front : (p q : List ℕ) (ps : List (List ℕ)) → join_front p (q ∷ ps) ≡ (p ++ q) ∷ ps
unfolding join_front join_first
joined-front [] q ps = refl
joined-front (x ∷ p) q ps = rw (joined-front p q ps)

-- text outside tags
text-tags : (u s : List ℕ) → Lacks 60 u → tags (u ++ s) ≡ tags s
unfolding tags
text-tags u s h = rw (split-front 60 u s h) (go (split 60 s) (some-parts 60 s))
  where
    go : (r : List (List ℕ)) → Parts r
        → map (λ p. up_to 62 p) (drop 1 (join_front u r)) ≡ map (λ p. up_to 62 p) (drop 1 r)
    go r (parts p ps) = rw (joined-front u p ps)

stop : (b : ℕ) (s : List ℕ) → before b b (b ∷ s) ≡ 0
unfolding before
stop b s = rw (eq-eqb b b refl)

up-to : (b : ℕ) (t s : List ℕ) → Lacks b t → up_to b (t ++ b ∷ s) ≡ t
up-to b t s h = rw (before-append b b t (b ∷ s) h h (stop b s), take_at t (b ∷ s) (length t) refl)

one_tag : (t s : List ℕ) → Inner t → tags (60 ∷ (t ++ 62 ∷ s)) ≡ t ∷ tags s
unfolding tags split all
one_tag t s h =
    let l : Lacks 60 (t ++ 62 ∷ []) = simp (all_append, inner-open t h) in
    let e : t ++ 62 ∷ s ≡ (t ++ 62 ∷ []) ++ s = simp append_assoc in
    rw (e, split-front 60 (t ++ 62 ∷ []) s l) (go (split 60 s) (some-parts 60 s))
  where
    go : (r : List (List ℕ)) → Parts r
        → map (λ p. up_to 62 p) (join_front (t ++ 62 ∷ []) r) ≡ t ∷ map (λ p. up_to 62 p) (drop 1 r)
    go r (parts p ps) =
        let e : (t ++ 62 ∷ []) ++ p ≡ t ++ 62 ∷ p = simp append_assoc in
        rw (joined-front (t ++ 62 ∷ []) p ps, e, up-to 62 t p (inner-close t h))

-- a line that is one tag
tag-line : (t s : List ℕ) → Inner t → tags (tag t ++ 10 ∷ s) ≡ t ∷ tags s
unfolding all
tag-line t s h =
    let e : tag t ++ 10 ∷ s ≡ 60 ∷ (t ++ 62 ∷ 10 ∷ s) = simp append_assoc in
    ap tags e ∙ one_tag t (10 ∷ s) h ∙ ap (◌∷◌ t) (text-tags (10 ∷ []) s refl)

-- ---- lines that leave open what was open

abbrev Neutral : List (List ℕ) → Type 0
Neutral ls = (begun : List (List ℕ)) (s : List ℕ) → nested begun (tags (ended ls ++ s)) ≡ nested begun (tags s)

-- a tag that opens an element of this name
record Opens (t name : List ℕ) : Type 0 where
  inner : Inner t
  starts : stands_alone t ≡ false
  no_end : eqb (first_byte t) 47 ≡ false
  named : up_to 32 t ≡ name

opens : (begun : List (List ℕ)) (t name : List ℕ) (ts : List (List ℕ)) → Opens t name
    → nested begun (t ∷ ts) ≡ nested (name ∷ begun) ts
unfolding nested
opens begun t name ts h = rw (h.starts, h.no_end, h.named)

closes : (begun : List (List ℕ)) (name : List ℕ) (ts : List (List ℕ)) → stands_alone (47 ∷ name) ≡ false
    → nested (name ∷ begun) ((47 ∷ name) ∷ ts) ≡ nested begun ts
unfolding nested
closes begun name ts h = rw (h, same_refl name, le-leb 1 (length (name ∷ begun)) (omega arith))

alone : (begun : List (List ℕ)) (t : List ℕ) (ts : List (List ℕ)) → stands_alone t ≡ true
    → nested begun (t ∷ ts) ≡ nested begun ts
unfolding nested
alone begun t ts h = rw h

neutral-none : Neutral []
unfolding ended
neutral-none begun s = refl

neutral-append : (a b : List (List ℕ)) → Neutral a → Neutral b → Neutral (a ++ b)
neutral-append a b f g begun s =
    rw (ended-append a b, append_assoc (ended a) (ended b) s) (f begun (ended b ++ s) ∙ g begun s)

neutral-each : (G : ℕ → List (List ℕ)) (n i : ℕ) → ((k : ℕ) → Neutral (G k)) → Neutral (each G n i)
unfolding each
neutral-each G zero i f = neutral-none
neutral-each G (suc n) i f = neutral-append (G i) (each G n (suc i)) (f i) (neutral-each G n (suc i) f)

neutral-map : {A : Type 0} (f : A → List ℕ) (rs : List A) → ((r : A) → Neutral (f r ∷ [])) → Neutral (map f rs)
neutral-map f [] h = neutral-none
neutral-map f (r ∷ rs) h = neutral-append (f r ∷ []) (map f rs) (h r) (neutral-map f rs h)

-- the tags of lines with one tag in front
tag-first : (t : List ℕ) (ls : List (List ℕ)) (s : List ℕ) → Inner t
    → tags (ended (tag t ∷ ls) ++ s) ≡ t ∷ tags (ended ls ++ s)
unfolding ended
tag-first t ls s h = ap tags (append_assoc (tag t) (10 ∷ ended ls) s) ∙ tag-line t (ended ls ++ s) h

neutral-alone : (t : List ℕ) → Inner t → stands_alone t ≡ true → Neutral (tag t ∷ [])
unfolding ended
neutral-alone t h a begun s = rw (tag-first t [] s h) (alone begun t (tags s) a)

-- an end tag
end-inner : (name : List ℕ) → Inner name → Inner (47 ∷ name)
unfolding all inner_byte fill_byte name_byte
end-inner name h = h

-- lines between an element's start and its end
neutral-in : (t name : List ℕ) (ls : List (List ℕ)) → Opens t name → Inner name → stands_alone (47 ∷ name) ≡ false
    → Neutral ls → Neutral (tag t ∷ (ls ++ end_tag name ∷ []))
unfolding ended
neutral-in t name ls o i e f begun s =
    rw (
      tag-first t (ls ++ end_tag name ∷ []) s o.inner,
      opens begun t name (tags (ended (ls ++ end_tag name ∷ []) ++ s)) o,
      ended-append ls (end_tag name ∷ []),
      append_assoc (ended ls) (ended (end_tag name ∷ [])) s,
    )
    (f (name ∷ begun) (ended (end_tag name ∷ []) ++ s)
    ∙ ap (nested (name ∷ begun)) (tag-first (47 ∷ name) [] s (end-inner name i))
    ∙ closes begun name (tags s) e)

neutral-between : (t name : List ℕ) (ls : List (List ℕ)) → Opens t name → Inner name
    → stands_alone (47 ∷ name) ≡ false → Neutral ls → Neutral (between (tag t) (end_tag name) ls)
neutral-between t name [] o i e f = f
neutral-between t name (l ∷ ls) o i e f = neutral-in t name (l ∷ ls) o i e f

-- ---- first and last bytes of tags

-- a name, a blank, more
first-in : (b : ℕ) → fill_byte b ≡ false → eqb 32 b ≡ false → (e s : List ℕ) → Fill e
    → eqb (first_byte (e ++ 32 ∷ s)) b ≡ false
unfolding all
first-in b n z [] s h = z
first-in b n z (x ∷ e) s h = other_byte fill_byte b x n ((and-eq-true_iff (fill_byte x) _).0 h).0

last-append : (p : List ℕ) (y : ℕ) (ys : List ℕ) → last_byte (p ++ y ∷ ys) ≡ last_byte (y ∷ ys)
unfolding last_byte
last-append [] y ys = refl
last-append (x ∷ []) y ys = refl
last-append (x ∷ z ∷ p) y ys = last-append (z ∷ p) y ys

last-fill : (x : ℕ) (e : List ℕ) → Fill (x ∷ e) → eqb (last_byte (x ∷ e)) 47 ≡ false
unfolding last_byte all fill_byte name_byte
last-fill x [] h = other_byte fill_byte 47 x refl ((and-eq-true_iff (fill_byte x) true).0 h).0
last-fill x (y ∷ e) h = last-fill y e ((and-eq-true_iff (fill_byte x) (all fill_byte (y ∷ e))).0 h).1

-- a name's end tag does not stand alone
end-tag : (e : List ℕ) → 1 ≤ length e → Fill e → stands_alone (47 ∷ e) ≡ false
unfolding stands_alone last_byte
end-tag [] l h = absurd (omega arith)
end-tag (x ∷ e) l h = last-fill x e h

attribute-last : (p name t : List ℕ) → last_byte (p ++ attribute name t) ≡ 34
unfolding last_byte
attribute-last p name t =
    let e : p ++ attribute name t ≡ (p ++ 32 ∷ (name ++ 61 ∷ 34 ∷ t)) ++ 34 ∷ [] = simp append_assoc in
    ap last_byte e ∙ last-append (p ++ 32 ∷ (name ++ 61 ∷ 34 ∷ t)) 34 []

-- ---- rows

row-inner : (element : List ℕ) (r : Row) → Inner element → Inner (element ++ row_attributes r)
row-inner element r i = rw (all_append, i) (attributes-inner r)

row_opens : (element : List ℕ) (r : Row) → Fill element → Inner element → Opens (element ++ row_attributes r) element
unfolding stands_alone row_attributes fill_byte name_byte
row_opens element r f i =
    let A = attribute (bytes "dataItemId") (105 ∷ decimal r.item) in
    let B = attribute (bytes "sequence") (decimal r.number) in
    let C = attribute (bytes "timestamp") (stamp_text r.time) in
    let q : last_byte (element ++ (A ++ (B ++ C))) ≡ 34 =
    ap last_byte (ap (◌++◌ element) (sym (append_assoc A B C)) ∙ sym (append_assoc element (A ++ B) C))
    ∙ attribute-last (element ++ (A ++ B)) (bytes "timestamp") (stamp_text r.time) in
    record {
      inner = row-inner element r i;
      starts = rw (q, first-in 63 refl refl element _ f);
      no_end = first-in 47 refl refl element _ f;
      named = up-to 32 element _ (lacks 32 refl element f);
    }

text-tags-in : (element : List ℕ) (r : Row) (s : List ℕ) → Inner element
    → tags (ended (text_line element r ∷ []) ++ s) ≡ (element ++ row_attributes r) ∷ (47 ∷ element) ∷ tags s
unfolding text_line ended
text-tags-in element r s i =
    let v = value_text r.value in
    let t = element ++ row_attributes r in
    let e : (text_line element r ++ 10 ∷ []) ++ s ≡ 60 ∷ (t ++ 62 ∷ (v ++ (end_tag element ++ 10 ∷ s))) =
    simp append_assoc in
    ap tags e
    ∙ one_tag t (v ++ (end_tag element ++ 10 ∷ s)) (row-inner element r i)
    ∙ ap (◌∷◌ t)
    (text-tags v (end_tag element ++ 10 ∷ s) (inner-open v (value-inner r.value))
    ∙ tag-line (47 ∷ element) s (end-inner element i))

text-neutral : (element : List ℕ) (r : Row) → Fill element → Inner element → 1 ≤ length element
    → Neutral (text_line element r ∷ [])
text-neutral element r f i l begun s =
    rw (
      text-tags-in element r s i,
      opens begun (element ++ row_attributes r) element ((47 ∷ element) ∷ tags s) (row_opens element r f i),
    ) (closes begun element (tags s) (end-tag element l f))

-- an element without content
neutral-empty : (t : List ℕ) → Inner t → Neutral (empty_tag t ∷ [])
unfolding stands_alone last_byte all inner_byte fill_byte name_byte
neutral-empty t h =
    neutral-alone (t ++ 47 ∷ []) (rw (all_append, h))
    (rw (last-append t 47 []) (or-true (eqb (first_byte (t ++ 47 ∷ [])) 63)))

condition-neutral : (type : List ℕ) (r : Row) → Fill type → Neutral (condition_line type r ∷ [])
unfolding condition_line
condition-neutral type r f = neutral-empty (condition_tag type r) (condition-inner type r f)

element-some : (type : List ℕ) → 1 ≤ length (element_name type)
unfolding element_name
element-some type = go (capitals (split 95 type))
  where
    go : (s : List ℕ) → 1 ≤ length (lettered s)
    go [] = omega arith
    go (x ∷ s) = by_cond (λ (l : List ℕ). 1 ≤ length l) (digit x) _ _ (λ e. omega arith) (λ e. omega arith)

row-neutral : (g : ℕ) (type : List ℕ) (r : Row) → all name_byte type ≡ true → Fill type
    → Neutral (row_line g type r ∷ [])
row-neutral zero type r n f =
    text-neutral (element_name type) r (element-fill type n) (element-inner type n) (element-some type)
row-neutral (suc zero) type r n f =
    text-neutral (element_name type) r (element-fill type n) (element-inner type n) (element-some type)
row-neutral (suc (suc g)) type r n f = condition-neutral type r f

-- ---- groups, components, document

-- a fixed name
record Named (name : List ℕ) : Type 0 where
  begins : Opens name name
  ends : stands_alone (47 ∷ name) ≡ false

group-named : (g : ℕ) → Named (group_name g)
unfolding stands_alone last_byte all before inner_byte fill_byte name_byte
group-named zero = record { begins = record { inner = refl; starts = refl; no_end = refl; named = refl }; ends = refl }
group-named (suc zero) =
    record { begins = record { inner = refl; starts = refl; no_end = refl; named = refl }; ends = refl }
group-named (suc (suc g)) =
    record { begins = record { inner = refl; starts = refl; no_end = refl; named = refl }; ends = refl }

module _ (model names : List ℕ) where
  rows-neutral : (g : ℕ) (rows : List Row) → Neutral (row_lines model names g rows)
  unfolding row_lines
  rows-neutral g rows =
      neutral-map (λ r. row_line g (item_type model names r.item) r) rows
      (λ r. row-neutral g (item_type model names r.item) r (type-class model names r.item)
      (type-fill model names r.item))

  group-neutral : (g : ℕ) (rows : List Row) → Neutral (group_lines model names g rows)
  unfolding group_lines
  group-neutral g rows =
      let o = group-named g in
      neutral-between (group_name g) (group_name g) (row_lines model names g rows) o.begins o.begins.inner
      o.ends (rows-neutral g rows)

  component-opens : (i : ℕ) → Opens (component_tag model names i) (bytes "ComponentStream")
  unfolding stands_alone component_tag before
  component-opens i =
      let T = component_type model names i in
      let A = attribute (bytes "component") T in
      let B = attribute (bytes "name") T in
      let C = attribute (bytes "componentId") (99 ∷ decimal i) in
      let q : last_byte (bytes "ComponentStream" ++ (A ++ (B ++ C))) ≡ 34 =
      ap last_byte (ap (◌++◌ (bytes "ComponentStream")) (sym (append_assoc A B C)))
      ∙ attribute-last (bytes "ComponentStream" ++ (A ++ B)) (bytes "componentId") (99 ∷ decimal i) in
      record { inner = component-inner model names i; starts = rw q; no_end = refl; named = refl }

  device-opens : Opens (device_tag model names) (bytes "DeviceStream")
  unfolding stands_alone device_tag before
  device-opens =
      let T = component_type model names 0 in
      let A = attribute (bytes "name") T in
      let q : last_byte (bytes "DeviceStream" ++ (A ++ attribute (bytes "uuid") T)) ≡ 34 =
      attribute-last (bytes "DeviceStream" ++ A) (bytes "uuid") T in
      record { inner = device-inner model names; starts = rw q; no_end = refl; named = refl }

  component-neutral : (i : ℕ) (rows : List Row) → Neutral (component_lines model names i rows)
  unfolding component_lines stands_alone last_byte all inner_byte fill_byte name_byte
  component-neutral i rows =
      neutral-between (component_tag model names i) (bytes "ComponentStream")
      (each (λ g. group_lines model names g (having (row_group model) g rows)) groups 0)
      (component-opens i) refl refl
      (neutral-each (λ g. group_lines model names g (having (row_group model) g rows)) groups 0
      (λ g. group-neutral g (having (row_group model) g rows)))

  components-neutral : (rows : List Row) → Neutral (components_lines model names rows)
  unfolding components_lines
  components-neutral rows =
      neutral-each (λ c. component_lines model names c (having (row_component model) c rows)) (components model) 0
      (λ c. component-neutral c (having (row_component model) c rows))

  streams-neutral : (rows : List Row) → Neutral (streams_lines model names rows)
  unfolding streams_lines stands_alone last_byte all before inner_byte fill_byte name_byte
  streams-neutral [] = neutral-alone (bytes "Streams/") refl refl
  streams-neutral (r ∷ rows) =
      let G = components_lines model names (r ∷ rows) in
      let D = tag (device_tag model names) in
      let d : Neutral (D ∷ (G ++ bytes "</DeviceStream>" ∷ [])) =
      neutral-in (device_tag model names) (bytes "DeviceStream") G device-opens refl refl
      (components-neutral (r ∷ rows)) in
      let e : (D ∷ (G ++ bytes "</DeviceStream>" ∷ [])) ++ bytes "</Streams>" ∷ []
      ≡ D ∷ (G ++ (bytes "</DeviceStream>" ∷ bytes "</Streams>" ∷ [])) =
      ap (◌∷◌ D) (append_assoc G (bytes "</DeviceStream>" ∷ []) (bytes "</Streams>" ∷ [])) in
      rw e
      at (neutral-in (bytes "Streams") (bytes "Streams") (D ∷ (G ++ bytes "</DeviceStream>" ∷ []))
      (record { inner = refl; starts = refl; no_end = refl; named = refl }) refl refl d)

  document-neutral : (reply : List ℕ) (N instance creation : ℕ)
      → Neutral (document_lines model names reply N instance creation)
  unfolding document_lines stands_alone last_byte all before inner_byte fill_byte name_byte
  document-neutral reply N instance creation =
      let S = streams_lines model names (map row_in (rows_of reply)) in
      let H = empty_tag (header_tag reply N instance creation) in
      let x = neutral-alone (bytes "?xml version=\"1.0\" encoding=\"UTF-8\"?") refl refl in
      let h = neutral-empty (header_tag reply N instance creation) (header-inner reply N instance creation) in
      let r =
      neutral-in (bytes "MTConnectStreams xmlns=\"urn:mtconnect.org:MTConnectStreams:1.2\"")
      (bytes "MTConnectStreams") (H ∷ S)
      (record { inner = refl; starts = refl; no_end = refl; named = refl }) refl refl
      (neutral-append (H ∷ []) S h (streams-neutral (map row_in (rows_of reply)))) in
      neutral-append (bytes "<?xml version=\"1.0\" encoding=\"UTF-8\"?>" ∷ []) _ x r

  pub well-nested : (reply : List ℕ) (N instance creation : ℕ)
      → nested [] (tags (document model names reply N instance creation)) ≡ true
  unfolding document nested tags split
  well-nested reply N instance creation =
      let text = ended (document_lines model names reply N instance creation) in
      ap (λ (s : List ℕ). nested [] (tags s)) (sym (append-nil text))
      ∙ document-neutral reply N instance creation [] []

-- ---- nothing to escape

ended-lacks : (b : ℕ) → eqb 10 b ≡ false → (ls : List (List ℕ)) → Apart b ls → Lacks b (ended ls)
unfolding ended all
ended-lacks b n [] h = refl
ended-lacks b n (l ∷ ls) h = rw (all_append, h.0, n) (ended-lacks b n ls h.1)

-- no entity, whatever the model, the names and the words
pub no-entity : (model names reply : List ℕ) (N instance creation : ℕ)
    → Lacks 38 (document model names reply N instance creation)
unfolding document line_byte inner_byte fill_byte name_byte
no-entity model names reply N instance creation =
    ended-lacks 38 refl (document_lines model names reply N instance creation)
    (document-apart model names 38 refl reply N instance creation)

-- no '<', '>', '&' or '"'
pub record Unmarked (s : List ℕ) : Type 0 where
  pub no_start : Lacks 60 s
  pub no_end : Lacks 62 s
  pub no-and : Lacks 38 s
  pub no-quote : Lacks 34 s

fill-unmarked : (s : List ℕ) → Fill s → Unmarked s
unfolding fill_byte name_byte
fill-unmarked s h =
    record {
      no_start = lacks 60 refl s h;
      no_end = lacks 62 refl s h;
      no-and = lacks 38 refl s h;
      no-quote = lacks 34 refl s h;
    }

-- every text that a document is filled with
pub record Filled (model names : List ℕ) : Type 0 where
  pub component : (i : ℕ) → Unmarked (component_type model names i)
  pub type : (j : ℕ) → Unmarked (item_type model names j)
  pub element : (j : ℕ) → Unmarked (element_name (item_type model names j))
  pub number : (n : ℕ) → Unmarked (decimal n)
  pub stamp : (t : ℕ) → Unmarked (stamp_text t)
  pub value : (v : Value) → Unmarked (value_text v)

pub unmarked : (model names : List ℕ) → Filled model names
unmarked model names =
    record {
      component =
          λ i. fill-unmarked (component_type model names i) (name-fill names (component_name
          (component_word model i)));
      type = λ j. fill-unmarked (item_type model names j) (type-fill model names j);
      element =
          λ j. fill-unmarked (element_name (item_type model names j)) (element-fill (item_type model names j)
          (type-class model names j));
      number = λ n. fill-unmarked (decimal n) (decimal-fill n);
      stamp = λ t. fill-unmarked (stamp_text t) (stamp-fill t);
      value = λ v. fill-unmarked (value_text v) (value-fill v);
    }
