-- What stands before the rows: two lines, and the header's two halves, what the call is given and what the reply says.
use Rattle.std.specs.Prelude.{ℕ, List, [], ◌∷◌, ◌++◌}
use Rattle.spec.specs.Bytes.{bytes, decimal}
use Rattle.lines.specs.Stamps.{stamp_text}
use Rattle.streams.specs.Streams.{attribute, header_tag, document}
use Rattle.row_groups.specs.Groups.{Source}
use Rattle.document.specs.declared.Header.{Header}

abbrev pub start_lines : List (List ℕ)
start_lines =
    bytes "<?xml version=\"1.0\" encoding=\"UTF-8\"?>"
    ∷ bytes "<MTConnectStreams xmlns=\"urn:mtconnect.org:MTConnectStreams:1.2\">"
    ∷ []

-- up to the ring's size
unfoldable pub given_part : ℕ → ℕ → ℕ → List ℕ
given_part N instance creation =
    bytes "<Header"
    ++ (attribute (bytes "creationTime") (stamp_text creation)
    ++ (attribute (bytes "sender") (bytes "box")
    ++ (attribute (bytes "instanceId") (decimal instance)
    ++ attribute (bytes "bufferSize") (decimal N))))

-- from the version on
unfoldable pub numbers_part : ℕ → ℕ → ℕ → List ℕ
numbers_part next first last =
    attribute (bytes "version") (bytes "1.2")
    ++ (attribute (bytes "nextSequence") (decimal next)
    ++ (attribute (bytes "firstSequence") (decimal first)
    ++ attribute (bytes "lastSequence") (decimal last)))

-- the header of a reply, and the document of a source, with what the header says beside them
abbrev pub header_of : List ℕ → Header → List ℕ
header_of reply h = header_tag reply h.buffer_size h.instance h.creation

abbrev pub document_of : Source → Header → List ℕ
document_of d h = document d.model d.names d.reply h.buffer_size h.instance h.creation
