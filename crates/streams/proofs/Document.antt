-- A document reads back: of an accepted call its reader finds the header's numbers and the reply's rows, each once.
use Prim.Native.Nat.{ℕ, zero, suc, ◌+◌, ◌/◌, ◌%◌, ◌^◌, ◌≤◌, ◌<◌}
use mathlib.Core.Path.{◌≡◌, refl, sym, ap, ◌∙◌}
use mathlib.Core.Bool.{Bool, true, false, ◌&&◌, ◌||◌, not, and-eq-true_iff, true≢false}
use mathlib.Core.List.{List, [], ◌∷◌, ◌++◌, map, append_assoc, append-nil, Permᴰ}
use native.Mathlib.Omega.{arith}
use lib.Dec.{leb, ltb, eqb}
use lib.ListN.{length, get_or, take, drop}
use lib.Seq.{take-append_seam, get_or-drop}
use borrow.Author.Tests.{leb-true, ltb-true, eqb-true, eq-eqb, ne_eqb, lt-ltb}
use Rattle.spec.specs.Bytes.{bytes, same, split, join_first}
use Rattle.spec.specs.Value.{item_of, takes, decode, decode_kind}
use Rattle.spec.specs.Model.{components, items, category, model_ok, Checked}
use Rattle.spec.specs.Answers.{Answer}
use Rattle.spec.specs.Reply.{Replied, refuse, written, read_rows, rows_of}
use Rattle.std.specs.Prelude.{Ok}
use Rattle.std.specs.List.{AllByRecursion as Holds}
use Rattle.spec.specs.declared.Refusal.{Refusal}
use Rattle.spec.proofs.Words.{and_left, and_right, by_cond}
use Rattle.spec.proofs.Elements.{each-imp}
use Rattle.spec.proofs.Model.{checked}
use Rattle.spec.proofs.Packing.{decode-fits}
use Rattle.lines.specs.Stamps.{max_time}
use Rattle.streams.specs.Streams.{Row, row_in, word_ok, packed_ok, all_rows, words_ok, reply_ok, times_ok, each}
use Rattle.streams.specs.Streams.{having, group_of, groups, row_component, row_group, by_group, sorted, tag, end_tag}
use Rattle.streams.specs.Streams.{empty_tag, row_line, between, group_name, item_type, row_lines, group_lines}
use Rattle.streams.specs.Streams.{component_tag, component_lines, device_tag, components_lines, streams_lines}
use Rattle.streams.specs.Streams.{header_tag, document_lines, document, streams}
use Rattle.streams.specs.ReadStreams.{quoted, opening, is_row, opened, read_lines, read_streams, read_header}
use Rattle.streams.proofs.Sorted.{holds-having, group-lt, sorted-once}
use Rattle.streams.proofs.Lines.{type-class, type-fill, document-cut}
use Rattle.streams.proofs.Reading.{Good, Reads, line_reads, header_of, header-reads}

-- ---- lines of other kinds

-- the lines give the rows, wherever they stand outside a group
abbrev Gives : List (List ℕ) → List Row → Type 0
Gives lines rows = (ls : List (List ℕ)) → read_lines 3 (lines ++ ls) ≡ rows ++ read_lines 3 ls

-- a line that is no row and opens no group
record Plain (line : List ℕ) : Type 0 where
  no_row : is_row (quoted line) ≡ false
  no-group : opened line ≡ 3

skip : (g : ℕ) (line : List ℕ) (ls : List (List ℕ)) → Plain line → read_lines g (line ∷ ls) ≡ read_lines 3 ls
unfolding read_lines
skip g line ls h = rw (h.no_row, h.no-group)

gives-append : (a b : List (List ℕ)) (x y : List Row) → Gives a x → Gives b y → Gives (a ++ b) (x ++ y)
gives-append a b x y f h ls = rw (append_assoc a b ls, f (b ++ ls), h ls) (sym (append_assoc x y (read_lines 3 ls)))

gives-each : (G : ℕ → List (List ℕ)) (R : ℕ → List Row) (n i : ℕ)
    → ((k : ℕ) → i ≤ k → k < i + n → Gives (G k) (R k)) → Gives (each G n i) (each R n i)
unfolding each
gives-each G R zero i f = λ ls. refl
gives-each G R (suc n) i f =
    gives-append (G i) (each G n (suc i)) (R i) (each R n (suc i)) (f i (omega arith) (omega arith))
    (gives-each G R n (suc i) (λ k h l. f k (omega arith) (omega arith)))

gives-between : (start end : List ℕ) (lines : List (List ℕ)) (rows : List Row) → Plain start → Plain end
    → Gives lines rows → Gives (between start end lines) rows
gives-between start end [] rows s e f = f
gives-between start end (l ∷ lines) rows s e f = λ ls.
    skip 3 start _ s
    ∙ ap (read_lines 3) (append_assoc (l ∷ lines) (end ∷ []) ls)
    ∙ f (end ∷ ls)
    ∙ ap (◌++◌ rows) (skip 3 end ls e)

-- the fixed lines
record Fixed : Type 0 where
  xml : Plain (bytes "<?xml version=\"1.0\" encoding=\"UTF-8\"?>")
  root : Plain (bytes "<MTConnectStreams xmlns=\"urn:mtconnect.org:MTConnectStreams:1.2\">")
  no-streams : Plain (bytes "<Streams/>")
  streams : Plain (bytes "<Streams>")
  component-end : Plain (bytes "</ComponentStream>")
  device-end : Plain (bytes "</DeviceStream>")
  streams-end : Plain (bytes "</Streams>")
  root-end : Plain (bytes "</MTConnectStreams>")
  empty : Plain []

plain : Fixed
unfolding is_row opening opened same split join_first
plain =
    record {
      xml = record { no_row = refl; no-group = refl };
      root = record { no_row = refl; no-group = refl };
      no-streams = record { no_row = refl; no-group = refl };
      streams = record { no_row = refl; no-group = refl };
      component-end = record { no_row = refl; no-group = refl };
      device-end = record { no_row = refl; no-group = refl };
      streams-end = record { no_row = refl; no-group = refl };
      root-end = record { no_row = refl; no-group = refl };
      empty = record { no_row = refl; no-group = refl };
    }

-- ---- groups and components

-- good in its own group
abbrev pub GoodRow : List ℕ → Row → Type 0
GoodRow model r = Good (row_group model r) r

module _ (model names : List ℕ) where
  row_at : (g : ℕ) → g < groups → (r : Row) → Good g r → Reads g (row_line g (item_type model names r.item) r) r
  row_at g l r h =
      line_reads (item_type model names r.item) (type-class model names r.item)
      (type-fill model names r.item) r g l h

  rows-read : (g : ℕ) → g < groups → (rows : List Row) → Holds (Good g) rows → (ls : List (List ℕ))
      → read_lines g (row_lines model names g rows ++ ls) ≡ rows ++ read_lines g ls
  unfolding read_lines row_lines
  rows-read g l [] h ls = refl
  rows-read g l (r ∷ rows) h ls =
      let a = row_at g l r h.0 in
      rw (a.row, a.from) (ap (◌∷◌ r) (rows-read g l rows h.1 ls))

  -- a group's start opens it
  start-opens : (g : ℕ) → g < groups → (ls : List (List ℕ)) → read_lines 3 (tag (group_name g) ∷ ls) ≡ read_lines g ls
  unfolding read_lines is_row opening opened same split join_first
  start-opens zero l ls = refl
  start-opens (suc zero) l ls = refl
  start-opens (suc (suc zero)) l ls = refl
  start-opens (suc (suc (suc g))) l ls = absurd (omega arith)

  end-plain : (g : ℕ) → Plain (end_tag (group_name g))
  unfolding is_row opening opened same split join_first
  end-plain zero = record { no_row = refl; no-group = refl }
  end-plain (suc zero) = record { no_row = refl; no-group = refl }
  end-plain (suc (suc g)) = record { no_row = refl; no-group = refl }

  group-gives : (g : ℕ) → g < groups → (rows : List Row) → Holds (Good g) rows
      → Gives (group_lines model names g rows) rows
  unfolding group_lines row_lines
  group-gives g l [] h = λ ls. refl
  group-gives g l (r ∷ rows) h = λ ls.
      start-opens g l _
      ∙ ap (read_lines g) (append_assoc (row_lines model names g (r ∷ rows)) (end_tag (group_name g) ∷ []) ls)
      ∙ rows-read g l (r ∷ rows) h (end_tag (group_name g) ∷ ls)
      ∙ ap (◌++◌ (r ∷ rows)) (skip g (end_tag (group_name g)) ls (end-plain g))

  start_plain : (i : ℕ) → Plain (tag (component_tag model names i))
  unfolding component_tag is_row opening opened same split join_first
  start_plain i = record { no_row = refl; no-group = refl }

  device-plain : Plain (tag (device_tag model names))
  unfolding device_tag is_row opening opened same split join_first
  device-plain = record { no_row = refl; no-group = refl }

  header-plain : (reply : List ℕ) (N instance creation : ℕ) → Plain (empty_tag (header_tag reply N instance creation))
  unfolding header_tag is_row opening opened same split join_first
  header-plain reply N instance creation = record { no_row = refl; no-group = refl }

  component-gives : (i : ℕ) (rows : List Row) → Holds (GoodRow model) rows
      → Gives (component_lines model names i rows) (by_group model rows)
  unfolding component_lines
  component-gives i rows h =
      let own : ℕ → List Row = λ g. having (row_group model) g rows in
      gives-between (tag (component_tag model names i)) (bytes "</ComponentStream>")
      (each (λ g. group_lines model names g (own g)) groups 0) (by_group model rows)
      (start_plain i)
      plain.component-end
      (gives-each (λ g. group_lines model names g (own g)) own groups 0
      (λ g k l. group-gives g (omega arith) (own g)
      (each-imp (λ r p. rw p.1 at p.0) (own g) (holds-having (GoodRow model) (row_group model) g rows h))))

  components-give : (rows : List Row) → Holds (GoodRow model) rows
      → Gives (components_lines model names rows) (sorted model rows)
  unfolding components_lines sorted
  components-give rows h =
      let own : ℕ → List Row = λ c. having (row_component model) c rows in
      gives-each (λ c. component_lines model names c (own c)) (λ c. by_group model (own c)) (components model) 0
      (λ c k l. component-gives c (own c)
      (each-imp (λ r p. p.0) (own c) (holds-having (GoodRow model) (row_component model) c rows h)))

  none_each : (n i : ℕ) → each (λ c. by_group model (having (row_component model) c [])) n i ≡ []
  unfolding each having
  none_each zero i = refl
  none_each (suc n) i = none_each n (suc i)

  sorted_none : sorted model [] ≡ []
  unfolding sorted
  sorted_none = none_each (components model) 0

  streams-give : (rows : List Row) → Holds (GoodRow model) rows
      → Gives (streams_lines model names rows) (sorted model rows)
  unfolding streams_lines
  streams-give [] h = λ ls.
      skip 3 (bytes "<Streams/>") ls plain.no-streams ∙ ap (λ (x : List Row). x ++ read_lines 3 ls) (sym sorted_none)
  streams-give (r ∷ rows) h = λ ls.
      let ends = bytes "</DeviceStream>" ∷ bytes "</Streams>" ∷ [] in
      skip 3 (bytes "<Streams>") _ plain.streams
      ∙ skip 3 (tag (device_tag model names)) _ device-plain
      ∙ ap (read_lines 3) (append_assoc (components_lines model names (r ∷ rows)) ends ls)
      ∙ components-give (r ∷ rows) h (ends ++ ls)
      ∙ ap (◌++◌ (sorted model (r ∷ rows)))
      (skip 3 (bytes "</DeviceStream>") _ plain.device-end ∙ skip 3 (bytes "</Streams>") ls plain.streams-end)

  document-gives : (reply : List ℕ) (N instance creation : ℕ) → Holds (GoodRow model) (map row_in (rows_of reply))
      → Gives (document_lines model names reply N instance creation) (sorted model (map row_in (rows_of reply)))
  unfolding document_lines
  document-gives reply N instance creation h = λ ls.
      let rows = map row_in (rows_of reply) in
      skip 3 (bytes "<?xml version=\"1.0\" encoding=\"UTF-8\"?>") _ plain.xml
      ∙ skip 3 (bytes "<MTConnectStreams xmlns=\"urn:mtconnect.org:MTConnectStreams:1.2\">") _ plain.root
      ∙ skip 3 (empty_tag (header_tag reply N instance creation)) _ (header-plain reply N instance creation)
      ∙ ap (read_lines 3) (append_assoc (streams_lines model names rows) (bytes "</MTConnectStreams>" ∷ []) ls)
      ∙ streams-give rows h (bytes "</MTConnectStreams>" ∷ ls)
      ∙ ap (◌++◌ (sorted model rows)) (skip 3 (bytes "</MTConnectStreams>") ls plain.root-end)

-- ---- accepted replies

-- what the words of a slice of u64 are
abbrev pub Held : List ℕ → Type 0
Held words = (i : ℕ) → get_or words i 0 < 2 ^ 64

held-drop : (k : ℕ) (words : List ℕ) → Held words → Held (drop k words)
held-drop k words h i = rw get_or-drop (h (k + i))

or_left : (a b : Bool) → b ≡ false → (a || b) ≡ true → a ≡ true
or_left true b e h = refl
or_left false b e h = absurd (true≢false (sym h ∙ e))

-- a word of kind k with l below is one of the group, whose number is a category of that kind
kind-taken : (g k l : ℕ) → g < groups
    → ((eqb k 0 && eqb l 0) || (eqb k (suc g) && (not (eqb k 3) || leb (l / 2 ^ 24) 2))) ≡ true
    → takes g (decode_kind k l) ≡ true
kind-taken g zero l h e =
    let z = ne_eqb 0 (suc g) (λ q. omega arith) in
    rw (or_left (eqb l 0) (eqb 0 (suc g) && true) (rw z) e, lt-ltb g 3 h)
kind-taken g (suc zero) l h e = eq-eqb g 0 (let z = eqb-true 1 (suc g) (and_left _ true e) in omega arith)
kind-taken g (suc (suc zero)) l h e =
    let z = eqb-true 2 (suc g) (and_left _ true e) in
    rw (eq-eqb g 1 (omega arith))
kind-taken g (suc (suc (suc zero))) l h e =
    let z = eqb-true 3 (suc g) (and_left _ (leb (l / 2 ^ 24) 2) e) in
    rw (and_right (eqb 3 (suc g)) (leb (l / 2 ^ 24) 2) e, eq-eqb g 2 (omega arith))
    (lt-ltb (l % 2 ^ 24) (2 ^ 24) (omega arith))
kind-taken g (suc (suc (suc (suc k)))) l h e =
    let a = ne_eqb (suc (suc (suc (suc k)))) 0 (λ q. omega arith) in
    let b = ne_eqb (suc (suc (suc (suc k)))) (suc g) (λ q. omega arith) in
    absurd (true≢false (sym e ∙ rw (a, b)))

pub word-taken : (category word : ℕ) → word_ok category word ≡ true → takes (group_of category) (decode word) ≡ true
unfolding word_ok decode
word-taken category word h =
    kind-taken (group_of category) (word / 2 ^ 32) (word % 2 ^ 32) (group-lt category) h

-- the rows of words
pub packed-rows : (model reply : List ℕ) → reply_ok model reply ≡ true
    → all_rows (λ r. packed_ok model (get_or r 2 0)) (rows_of reply) ≡ true
unfolding reply_ok
packed-rows model reply h = and_right (words_ok reply) _ h

module _ (model names : List ℕ) (c : Checked model names) where
  pub row-item : (word : ℕ) → packed_ok model word ≡ true → item_of word < items model
  unfolding packed_ok
  row-item word p = ltb-true (item_of word) (items model) (and_left (ltb (item_of word) (items model)) _ p)

  good-row : (number time word : ℕ) → number < 2 ^ 64 → packed_ok model word ≡ true → leb time max_time ≡ true
      → GoodRow model (row_in (number ∷ time ∷ word ∷ []))
  unfolding packed_ok
  good-row number time word n p t =
      let v = and_right (ltb (item_of word) (items model)) _ p in
      let l = row-item word p in
      record {
        item_ok_lem = omega (arith, c.sizes.m_max);
        number_ok_lem = n;
        time-ok = leb-true time max_time t;
        taken = word-taken (category model (item_of word)) (word % 2 ^ 40) v;
        fits = decode-fits (word % 2 ^ 40);
      }

  good-rows : (k : ℕ) (ns ps : List ℕ) → Held ns
      → all_rows (λ r. packed_ok model (get_or r 2 0)) (read_rows k ns ps) ≡ true
      → all_rows (λ r. leb (get_or r 1 0) max_time) (read_rows k ns ps) ≡ true
      → Holds (GoodRow model) (map row_in (read_rows k ns ps))
  unfolding read_rows all_rows
  good-rows zero ns ps n p t = tt
  good-rows (suc k) ns ps n p t =
      let p' = (and-eq-true_iff (packed_ok model (get_or ps 1 0)) _).0 p in
      let t' = (and-eq-true_iff (leb (get_or ps 0 0) max_time) _).0 t in (
        good-row (get_or ns 0 0) (get_or ps 0 0) (get_or ps 1 0) (n 0) p'.0 t'.0,
        good-rows k (drop 1 ns) (drop 2 ps) (held-drop 1 ns n) p'.1 t'.1,
      )

  pub placed-rows : (rs : List (List ℕ)) → all_rows (λ r. packed_ok model (get_or r 2 0)) rs ≡ true
      → Holds (λ r. row_component model r < components model) (map row_in rs)
  unfolding all_rows
  placed-rows [] p = tt
  placed-rows (r ∷ rs) p =
      let p' = (and-eq-true_iff (packed_ok model (get_or r 2 0)) _).0 p in
      (c.component (item_of (get_or r 2 0)) (row-item (get_or r 2 0) p'.0), placed-rows rs p'.1)

-- ---- the theorems

-- an accepted call: the model, the reply and the times pass, and the numbers are those of u64
pub record Accepted (model names reply : List ℕ) (N instance creation : ℕ) : Type 0 where
  pub model-ok : model_ok model names ≡ true
  pub reply-ok : reply_ok model reply ≡ true
  pub times-ok : times_ok creation reply ≡ true
  pub words : Held reply
  pub N-ok : N < 2 ^ 64
  pub instance-ok : instance < 2 ^ 64

-- what its document gives a reader
pub record ReadsBack (model reply : List ℕ) (N instance creation : ℕ) (text : List ℕ) : Type 0 where
  -- the rows by component, group and place
  pub rows : read_streams text ≡ sorted model (map row_in (rows_of reply))
  -- which are the reply's, each as often as it is there
  pub once : Permᴰ (sorted model (map row_in (rows_of reply))) (map row_in (rows_of reply))
  -- and the header's numbers
  pub header : read_header text ≡ header_of reply N instance creation

module _ (model names reply : List ℕ) (N instance creation : ℕ)
    (h : Accepted model names reply N instance creation) where
  pub rows-good : Holds (GoodRow model) (map row_in (rows_of reply))
  unfolding times_ok
  rows-good =
      let k = get_or reply 0 0 in
      good-rows model names (checked model names h.model-ok) k (drop 4 reply) (drop k (drop 4 reply))
      (held-drop 4 reply h.words) (packed-rows model reply h.reply-ok)
      (and_right (leb creation max_time) _ h.times-ok)

  pub streams-read : read_streams (document model names reply N instance creation)
      ≡ sorted model (map row_in (rows_of reply))
  unfolding read_streams read_lines
  streams-read =
      let rows = sorted model (map row_in (rows_of reply)) in
      ap (read_lines 3) (document-cut model names reply N instance creation)
      ∙ document-gives model names reply N instance creation rows-good ([] ∷ [])
      ∙ ap (◌++◌ rows) (skip 3 [] [] plain.empty)
      ∙ append-nil rows

  pub rows-once : Permᴰ (sorted model (map row_in (rows_of reply))) (map row_in (rows_of reply))
  rows-once =
      sorted-once model (map row_in (rows_of reply))
      (placed-rows model names (checked model names h.model-ok) (rows_of reply)
      (packed-rows model reply h.reply-ok))

  pub header_read : read_header (document model names reply N instance creation) ≡ header_of reply N instance creation
  unfolding read_header document_lines times_ok
  header_read =
      rw (document-cut model names reply N instance creation)
      (header-reads reply N instance creation h.words h.N-ok h.instance-ok
      (leb-true creation max_time (and_left (leb creation max_time) _ h.times-ok)))

  pub reads-back : ReadsBack model reply N instance creation (document model names reply N instance creation)
  reads-back = record { rows = streams-read; once = rows-once; header = header_read }

-- of the call: an accepted one leaves such a text in the buffer's first bytes
module _ (model names reply : List ℕ) (N instance creation : ℕ) (w : Held reply) (n : N < 2 ^ 64)
    (i : instance < 2 ^ 64) (text : List ℕ) where
  pub call-reads : (k : ℕ) → (streams model names reply N instance creation text).answer ≡ Ok k
      → ReadsBack model reply N instance creation (take k (streams model names reply N instance creation text).reply)
  unfolding streams written
  call-reads =
      by_cond Exact (model_ok model names) _ _
      (λ m. by_cond Exact (reply_ok model reply) _ _
      (λ r. by_cond Exact (times_ok creation reply) _ _
      (λ t. by_cond Exact (leb (length doc) (length text)) _ _
      (λ l k e. reads m r t k e)
      (λ l. none))
      (λ t. none))
      (λ r. none))
      (λ m. none)
    where
      doc : List ℕ
      doc = document model names reply N instance creation

      Exact : Replied → Type 0
      Exact x = (k : ℕ) → x.answer ≡ Ok k → ReadsBack model reply N instance creation (take k x.reply)

      reads : model_ok model names ≡ true → reply_ok model reply ≡ true → times_ok creation reply ≡ true
          → (k : ℕ) → ◌≡◌ {A = Answer} (Ok (length doc)) (Ok k)
          → ReadsBack model reply N instance creation (take k (doc ++ drop (length doc) text))
      reads m r t k e =
          let z : k ≡ length doc = cc in
          let a : Accepted model names reply N instance creation =
          record { model-ok = m; reply-ok = r; times-ok = t; words = w; N-ok = n; instance-ok = i } in
          rw (z, take-append_seam doc (drop (length doc) text)) (reads-back model names reply N instance creation a)

      none : {x : Refusal} → Exact (refuse x text)
      none {x} k e = absurd (cc)
