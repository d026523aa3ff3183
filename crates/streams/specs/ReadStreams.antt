-- A reader of streams documents, whatever wrote them: document 02, Req 07, "can be read from it". It goes by lines:
-- the header, the start of a group, a row, or another line. It knows no model: an item is told by its dataItemId.
use Rattle.std.specs.Prelude.{ℕ, zero, suc, Bool, cond, List, [], ◌∷◌, get_or, drop}
use Rattle.spec.specs.Bytes.{bytes, same, split, value_from}
use Rattle.lines.specs.Stamps.{date_in, time_of}
use Rattle.lines.specs.Lines.{form_of, value_read}
use Rattle.streams.specs.Streams.{Row}
use Rattle.spec.specs.declared.Level.{Level}
use Rattle.spec.specs.declared.Level.TheVariants.{Normal, Warning, Fault}
use Rattle.spec.specs.declared.Value.{Value}
use Rattle.spec.specs.declared.Value.TheVariants.{Unavailable, Condition}

-- part k, and nothing where there is none
abbrev pub part : List (List ℕ) → ℕ → List ℕ
part ps k = get_or ps k []

-- a line cut at '"': the texts of its attributes are parts 1, 3, 5 and so on
abbrev pub quoted : List ℕ → List (List ℕ)
quoted line = split 34 line

-- what stands before the first '"', cut at ' ': `<name` and the first attribute's `name=`
unfoldable pub opening : List (List ℕ) → List (List ℕ)
opening ps = split 32 (part ps 0)

abbrev pub time_from : List ℕ → ℕ
time_from s = time_of (date_in s)

-- ---- rows

-- a row's first attribute is dataItemId
unfoldable pub is_row : List (List ℕ) → Bool
is_row ps = same (part (opening ps) 1) (bytes "dataItemId=")

abbrev pub level_named : List ℕ → Level
level_named name = cond (same name (bytes "Normal")) Normal (cond (same name (bytes "Warning")) Warning Fault)

-- what stands between '>' and '<'
unfoldable pub content : List ℕ → List ℕ
content s = part (split 60 (drop 1 s)) 0

-- a condition by its element's name, behind the '<', and the text of nativeCode
unfoldable pub state_named : List ℕ → List ℕ → Value
state_named name code =
    cond (same name (bytes "Unavailable")) Unavailable (Condition (level_named name) (value_from 0 code))

-- in Samples and Events by the content, read as an adapter line's value is; in Condition by the element
unfoldable pub value_in : ℕ → List (List ℕ) → Value
value_in zero ps = value_read 0 (form_of (content (part ps 6)))
value_in (suc zero) ps = value_read 1 (form_of (content (part ps 6)))
value_in (suc (suc g)) ps = state_named (drop 1 (part (opening ps) 0)) (part ps 9)

-- dataItemId behind its 'i', sequence and timestamp
unfoldable pub row_from : ℕ → List (List ℕ) → Row
row_from g ps =
    record {
      item = value_from 0 (drop 1 (part ps 1));
      number = value_from 0 (part ps 3);
      time = time_from (part ps 5);
      value = value_in g ps;
    }

-- the group that a line opens; 3 for none
unfoldable pub opened : List ℕ → ℕ
opened line =
    cond (same line (bytes "<Samples>")) 0
    (cond (same line (bytes "<Events>")) 1
    (cond (same line (bytes "<Condition>")) 2 3))

-- the rows of lines behind those that opened group g
unfoldable pub read_lines : ℕ → List (List ℕ) → List Row
read_lines g [] = []
read_lines g (l ∷ ls) =
    let row = row_from g (quoted l) ∷ read_lines g ls in
    let other = read_lines (opened l) ls in
    cond (is_row (quoted l)) row other

unfoldable pub read_streams : List ℕ → List Row
read_streams text = read_lines 3 (split 10 text)

-- ---- the header

pub record Header : Type 0 where
  pub creation : ℕ
  pub instance : ℕ
  pub buffer_size : ℕ
  pub next : ℕ
  pub first : ℕ
  pub last : ℕ

-- the header's line, cut: sender and version stand between
unfoldable pub header_from : List (List ℕ) → Header
header_from ps =
    record {
      creation = time_from (part ps 1);
      instance = value_from 0 (part ps 5);
      buffer_size = value_from 0 (part ps 7);
      next = value_from 0 (part ps 11);
      first = value_from 0 (part ps 13);
      last = value_from 0 (part ps 15);
    }

-- it is the third line
unfoldable pub read_header : List ℕ → Header
read_header text = header_from (quoted (part (split 10 text) 2))
