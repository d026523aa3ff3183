-- The streams document: document 02, Req 07. A list of lines, each ended by byte 10; a line is one element, or an
-- element's start or end.
use Rattle.std.specs.Prelude.{ℕ, zero, suc, ◌+◌, ◌-◌, ◌*◌, ◌/◌, ◌%◌, ◌^◌, Bool, true, cond, ◌&&◌, ◌||◌, not, List, [], ◌∷◌, ◌++◌, map, leb, ltb, eqb, length, get_or}
use Rattle.spec.specs.Bytes.{bytes, digit, split, decimal}
use Rattle.spec.specs.Value.{item_of, decode}
use Rattle.spec.specs.Model.{name_text, component_name, item_name, component_of, components, items, component_word}
use Rattle.spec.specs.Model.{item_word, category, model_ok}
use Rattle.spec.specs.Reply.{Replied, rows_of, refuse, written}
use Rattle.lines.specs.Stamps.{max_time, stamp_text}
use Rattle.lines.specs.Lines.{value_text}
use Rattle.spec.specs.declared.Level.{Level}
use Rattle.spec.specs.declared.Level.TheVariants.{Normal, Warning, Fault}
use Rattle.spec.specs.declared.Value.{Value}
use Rattle.spec.specs.declared.Value.TheVariants.{Unavailable, Sample, Event, Condition}
use Rattle.spec.specs.declared.Refusal.TheVariants.{Model, Store, Stamp}

-- ---- rows

pub record Row : Type 0 where
  pub item : ℕ
  pub number : ℕ
  pub time : ℕ
  pub value : Value

-- of a row's number, time and packed word
abbrev pub row_of : ℕ → ℕ → ℕ → Row
row_of number time word = record { item = item_of word; number = number; time = time; value = decode (word % 2 ^ 40) }

-- a reply's row
abbrev pub row_in : List ℕ → Row
row_in r = row_of (get_or r 0 0) (get_or r 1 0) (get_or r 2 0)

-- Samples 0, Events 1, Condition 2, by the category: Events are 1, 3 and 4
abbrev pub group_of : ℕ → ℕ
group_of zero = 0
group_of (suc zero) = 1
group_of (suc (suc zero)) = 2
group_of (suc (suc (suc n))) = 1

-- a value's word that an item of the category can have: Unavailable, or of the category's own kind, which is one more
-- than its group's number; a condition's level is 0, 1 or 2
unfoldable pub word_ok : ℕ → ℕ → Bool
word_ok category word =
    let k = word / 2 ^ 32 in
    let l = word % 2 ^ 32 in
    (eqb k 0 && eqb l 0) || (eqb k (suc (group_of category)) && (not (eqb k 3) || leb (l / 2 ^ 24) 2))

-- the packed word has an item of the model, and a value that it can have
unfoldable pub packed_ok : List ℕ → ℕ → Bool
packed_ok model word = ltb (item_of word) (items model) && word_ok (category model (item_of word)) (word % 2 ^ 40)

unfoldable pub all_rows : (List ℕ → Bool) → List (List ℕ) → Bool
all_rows p [] = true
all_rows p (r ∷ rs) = p r && all_rows p rs

-- the reply has four words and as many more as its k asks for
abbrev pub words_ok : List ℕ → Bool
words_ok reply = leb 4 (length reply) && leb (4 + 3 * get_or reply 0 0) (length reply)

-- refusal 2
unfoldable pub reply_ok : List ℕ → List ℕ → Bool
reply_ok model reply = words_ok reply && all_rows (λ r. packed_ok model (get_or r 2 0)) (rows_of reply)

-- refusal 21: a time after 2099
unfoldable pub times_ok : ℕ → List ℕ → Bool
times_ok creation reply = leb creation max_time && all_rows (λ r. leb (get_or r 1 0) max_time) (rows_of reply)

-- ---- rows in the document's order: by component, then group, then place in the reply

-- what f gives of n numbers from i on, one behind the other
unfoldable pub each : {A : Type 0} → (ℕ → List A) → ℕ → ℕ → List A
each f zero i = []
each f (suc n) i = f i ++ each f n (suc i)

-- those of which f gives k
unfoldable pub having : {A : Type 0} → (A → ℕ) → ℕ → List A → List A
having f k [] = []
having f k (r ∷ rs) =
    let t = having f k rs in
    cond (eqb (f r) k) (r ∷ t) t

abbrev pub row_component : List ℕ → Row → ℕ
row_component model r = component_of (item_word model r.item)

abbrev pub row_group : List ℕ → Row → ℕ
row_group model r = group_of (category model r.item)

abbrev pub groups : ℕ
groups = 3

abbrev pub by_group : List ℕ → List Row → List Row
by_group model rows = each (λ g. having (row_group model) g rows) groups 0

unfoldable pub sorted : List ℕ → List Row → List Row
sorted model rows = each (λ c. by_group model (having (row_component model) c rows)) (components model) 0

-- ---- element names

abbrev pub upper : ℕ → ℕ
upper x = cond (leb 97 x && leb x 122) (x - 32) x

abbrev pub lower : ℕ → ℕ
lower x = cond (leb 65 x && leb x 90) (x + 32) x

-- a word in Pascal case
abbrev pub capital : List ℕ → List ℕ
capital [] = []
capital (x ∷ xs) = upper x ∷ map lower xs

unfoldable pub capitals : List (List ℕ) → List ℕ
capitals [] = []
capitals (w ∷ ws) = capital w ++ capitals ws

-- 'T' before what no letter begins
abbrev pub lettered : List ℕ → List ℕ
lettered [] = 84 ∷ []
lettered (x ∷ xs) = cond (digit x) (84 ∷ x ∷ xs) (x ∷ xs)

-- a type's name in Pascal case without '_'
unfoldable pub element_name : List ℕ → List ℕ
element_name type = lettered (capitals (split 95 type))

-- ---- lines

-- name="text", with a blank before
abbrev pub attribute : List ℕ → List ℕ → List ℕ
attribute name text = 32 ∷ (name ++ (61 ∷ 34 ∷ (text ++ 34 ∷ [])))

-- t between '<' and '>'
abbrev pub tag : List ℕ → List ℕ
tag t = 60 ∷ (t ++ 62 ∷ [])

-- the end of an element
abbrev pub end_tag : List ℕ → List ℕ
end_tag name = tag (47 ∷ name)

-- an element without content
abbrev pub empty_tag : List ℕ → List ℕ
empty_tag t = tag (t ++ 47 ∷ [])

-- dataItemId, sequence, timestamp; time 0 in full
unfoldable pub row_attributes : Row → List ℕ
row_attributes r =
    attribute (bytes "dataItemId") (105 ∷ decimal r.item)
    ++ (attribute (bytes "sequence") (decimal r.number)
    ++ attribute (bytes "timestamp") (stamp_text r.time))

-- a row of Samples or Events
unfoldable pub text_line : List ℕ → Row → List ℕ
text_line element r = tag (element ++ row_attributes r) ++ (value_text r.value ++ end_tag element)

abbrev pub level_name : Level → List ℕ
level_name Normal = bytes "Normal"
level_name Warning = bytes "Warning"
level_name Fault = bytes "Fault"

-- the element of a condition's value, and nativeCode where it has one; no row of Condition is a sample or an event
abbrev pub state_name : Value → List ℕ
state_name Unavailable = bytes "Unavailable"
state_name (Sample x) = []
state_name (Event c) = []
state_name (Condition l c) = level_name l

abbrev pub native_code : Value → List ℕ
native_code Unavailable = []
native_code (Sample x) = []
native_code (Event c) = []
native_code (Condition l c) = attribute (bytes "nativeCode") (decimal c)

-- a row of Condition
unfoldable pub condition_line : List ℕ → Row → List ℕ
condition_line type r =
    empty_tag (state_name r.value ++ (row_attributes r ++ (attribute (bytes "type") type ++ native_code r.value)))

abbrev pub row_line : ℕ → List ℕ → Row → List ℕ
row_line zero type r = text_line (element_name type) r
row_line (suc zero) type r = text_line (element_name type) r
row_line (suc (suc g)) type r = condition_line type r

-- lines between a start and an end; without lines neither
abbrev pub between : List ℕ → List ℕ → List (List ℕ) → List (List ℕ)
between start end [] = []
between start end (l ∷ ls) = start ∷ ((l ∷ ls) ++ end ∷ [])

abbrev pub group_name : ℕ → List ℕ
group_name zero = bytes "Samples"
group_name (suc zero) = bytes "Events"
group_name (suc (suc g)) = bytes "Condition"

-- nextSequence, firstSequence and lastSequence are the reply's next, first and last
unfoldable pub header_tag : List ℕ → ℕ → ℕ → ℕ → List ℕ
header_tag reply N instance creation =
    bytes "Header"
    ++ (attribute (bytes "creationTime") (stamp_text creation)
    ++ (attribute (bytes "sender") (bytes "box")
    ++ (attribute (bytes "instanceId") (decimal instance)
    ++ (attribute (bytes "bufferSize") (decimal N)
    ++ (attribute (bytes "version") (bytes "1.2")
    ++ (attribute (bytes "nextSequence") (decimal (get_or reply 3 0))
    ++ (attribute (bytes "firstSequence") (decimal (get_or reply 1 0))
    ++ attribute (bytes "lastSequence") (decimal (get_or reply 2 0)))))))))

abbrev pub item_type : List ℕ → List ℕ → ℕ → List ℕ
item_type model names j = name_text names (item_name (item_word model j))

abbrev pub component_type : List ℕ → List ℕ → ℕ → List ℕ
component_type model names i = name_text names (component_name (component_word model i))

-- the lines of a group's rows, one each
unfoldable pub row_lines : List ℕ → List ℕ → ℕ → List Row → List (List ℕ)
row_lines model names g rows = map (λ r. row_line g (item_type model names r.item) r) rows

unfoldable pub group_lines : List ℕ → List ℕ → ℕ → List Row → List (List ℕ)
group_lines model names g rows = between (tag (group_name g)) (end_tag (group_name g)) (row_lines model names g rows)

unfoldable pub component_tag : List ℕ → List ℕ → ℕ → List ℕ
component_tag model names i =
    bytes "ComponentStream"
    ++ (attribute (bytes "component") (component_type model names i)
    ++ (attribute (bytes "name") (component_type model names i)
    ++ attribute (bytes "componentId") (99 ∷ decimal i)))

unfoldable pub component_lines : List ℕ → List ℕ → ℕ → List Row → List (List ℕ)
component_lines model names i rows =
    between (tag (component_tag model names i)) (bytes "</ComponentStream>")
    (each (λ g. group_lines model names g (having (row_group model) g rows)) groups 0)

unfoldable pub device_tag : List ℕ → List ℕ → List ℕ
device_tag model names =
    bytes "DeviceStream"
    ++ (attribute (bytes "name") (component_type model names 0)
    ++ attribute (bytes "uuid") (component_type model names 0))

-- every component with rows, in model order
unfoldable pub components_lines : List ℕ → List ℕ → List Row → List (List ℕ)
components_lines model names rows =
    each (λ c. component_lines model names c (having (row_component model) c rows)) (components model) 0

unfoldable pub streams_lines : List ℕ → List ℕ → List Row → List (List ℕ)
streams_lines model names [] = bytes "<Streams/>" ∷ []
streams_lines model names (r ∷ rows) =
    bytes "<Streams>"
    ∷ tag (device_tag model names)
    ∷ (components_lines model names (r ∷ rows)
    ++ (bytes "</DeviceStream>" ∷ bytes "</Streams>" ∷ []))

unfoldable pub document_lines : List ℕ → List ℕ → List ℕ → ℕ → ℕ → ℕ → List (List ℕ)
document_lines model names reply N instance creation =
    bytes "<?xml version=\"1.0\" encoding=\"UTF-8\"?>"
    ∷ bytes "<MTConnectStreams xmlns=\"urn:mtconnect.org:MTConnectStreams:1.2\">"
    ∷ empty_tag (header_tag reply N instance creation)
    ∷ (streams_lines model names (map row_in (rows_of reply)) ++ (bytes "</MTConnectStreams>" ∷ []))

-- each line ended by a byte 10
unfoldable pub ended : List (List ℕ) → List ℕ
ended [] = []
ended (l ∷ ls) = l ++ 10 ∷ ended ls

unfoldable pub document : List ℕ → List ℕ → List ℕ → ℕ → ℕ → ℕ → List ℕ
document model names reply N instance creation = ended (document_lines model names reply N instance creation)

-- ---- how long a document can be

-- the lines that every document has, those of each component and its three groups, and those of the rows: names of 24
-- bytes, an element's of 25, numbers of 20 digits, items and components of two, native codes of eight, values of 12
-- bytes
abbrev pub streams_bytes : ℕ → ℕ → ℕ
streams_bytes components rows = 495 + 189 * components + 154 * rows

-- ---- the call: 1, 2, 21, 15

unfoldable pub streams : List ℕ → List ℕ → List ℕ → ℕ → ℕ → ℕ → List ℕ → Replied
streams model names reply N instance creation text =
    let doc = document model names reply N instance creation in
    cond (model_ok model names)
    (cond (reply_ok model reply)
    (cond (times_ok creation reply) (written (length doc) doc text) (refuse Stamp text))
    (refuse Store text))
    (refuse Model text)
