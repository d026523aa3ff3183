-- A row of a reply as a document has it.
use Rattle.std.specs.Prelude.{ℕ, List, ◌++◌}
use Rattle.spec.specs.Bytes.{bytes, decimal}
use Rattle.lines.specs.Stamps.{stamp_text}
use Rattle.spec.specs.declared.Row as code
use Rattle.streams.specs.Streams.{Row, row_of}

abbrev pub shown : code.Row → Row
shown r = row_of r.number r.time r.packed

-- its attributes up to the last one's quote
unfoldable pub open_attributes : Row → List ℕ
open_attributes r =
    bytes " dataItemId=\"i"
    ++ (decimal r.item
    ++ (bytes "\" sequence=\"" ++ (decimal r.number ++ (bytes "\" timestamp=\"" ++ stamp_text r.time))))
