-- Worked examples of the streams document by computation: ruling 07.11's document and its reading, one with every
-- kind of row, one without rows, element names, which words a category can have, and each refusal at its bound and
-- where two of them meet. These figures stand in this crate alone.
use Prim.Native.Nat.{ℕ, zero, suc, ◌+◌, ◌*◌, ◌^◌}
use mathlib.Core.Path.{◌≡◌, refl}
use mathlib.Core.Bool.{Bool, true, false}
use mathlib.Core.List.{List, [], ◌∷◌, ◌++◌, map}
use native.Mathlib.Omega.{arith}
use lib.Dec.{ltb}
use lib.IntN.{pos, negsuc}
use lib.ListN.{length, get_or, drop, replicate}
use borrow.Author.Tests.{ltb-true}
use Rattle.spec.specs.Bytes.{bytes, all}
use Rattle.spec.specs.Reply.{Replied, refuse}
use Rattle.spec.specs.declared.Level.TheVariants.{Normal, Warning, Fault}
use Rattle.spec.specs.declared.Value.TheVariants.{Unavailable, Sample, Event, Condition}
use Rattle.std.specs.Prelude.{Ok}
use Rattle.spec.specs.declared.Refusal.{Refusal}
use Rattle.spec.specs.declared.Refusal.TheVariants.{Model, Store, Stamp, Space}
use Rattle.spec.proofs.Words.{and_left, and_right}
use Rattle.spec.proofs.Opened.{opened as opened_spec}
use Rattle.spec.proofs.Examples.{cells_of}
use Rattle.lines.specs.Stamps.{max_time}
use Rattle.lines.proofs.Examples.{opened as opened_texts}
use Rattle.streams.specs.Streams.{word_ok, packed_ok, all_rows, reply_ok, times_ok, each, having, sorted}
use Rattle.streams.specs.Streams.{group_of, capitals, element_name, row_attributes, text_line, condition_line}
use Rattle.streams.specs.Streams.{header_tag, row_lines, group_lines, component_tag, component_lines, device_tag}
use Rattle.streams.specs.Streams.{components_lines, streams_lines, document_lines, ended, document, streams}
use Rattle.streams.specs.Streams.{streams_bytes}
use Rattle.streams.specs.ReadStreams.{opening, is_row, content, state_named, value_in, row_from, opened, read_lines}
use Rattle.streams.specs.ReadStreams.{read_streams, header_from, read_header}
use Rattle.streams.specs.Nesting.{tags, last_byte, stands_alone, nested}
use Rattle.streams.proofs.Document.{Held, Accepted}

-- ---- what they compute with

unfoldable pub opened_rows : Unit {0}
unfolding word_ok packed_ok all_rows reply_ok times_ok each having sorted
opened_rows = tt

unfoldable pub opened_writer : Unit {0}
unfolding capitals element_name row_attributes text_line condition_line header_tag row_lines group_lines component_tag
    component_lines device_tag components_lines streams_lines document_lines ended document streams
opened_writer = tt

unfoldable pub opened_reader : Unit {0}
unfolding opening is_row content state_named value_in row_from opened read_lines read_streams header_from read_header
opened_reader = tt

unfoldable pub opened_nesting : Unit {0}
unfolding tags last_byte stands_alone nested
opened_nesting = tt

unfoldable pub opened_streams : Unit {0}
unfolding opened_spec opened_texts opened_rows opened_writer opened_reader opened_nesting
opened_streams = tt

-- ---- 07.11

-- the bench case's model, names and C1
abbrev pub bench_model : List ℕ
bench_model = 2 ∷ 2 ∷ 0 ∷ 1 ∷ 65538 ∷ 259 ∷ []

abbrev pub bench_names : List ℕ
bench_names = cells_of (bytes "Device" ∷ bytes "Axes" ∷ bytes "AVAILABILITY" ∷ bytes "POSITION" ∷ [])

abbrev pub bench_reply : List ℕ
bench_reply =
    3 ∷ 2 ∷ 4 ∷ 5 ∷ 2 ∷ 3 ∷ 4 ∷ 1000 ∷ 1099511627776 ∷ 1010 ∷ 1103806600072 ∷ 1030 ∷ 1108101562367 ∷ []

abbrev bench_lines : List (List ℕ)
bench_lines =
    bytes "<?xml version=\"1.0\" encoding=\"UTF-8\"?>"
    ∷ bytes "<MTConnectStreams xmlns=\"urn:mtconnect.org:MTConnectStreams:1.2\">"
    ∷ (bytes "<Header creationTime=\"1970-01-01T00:00:02.000Z\" sender=\"box\" instanceId=\"1\""
    ++ bytes " bufferSize=\"3\" version=\"1.2\" nextSequence=\"5\" firstSequence=\"2\" lastSequence=\"4\"/>")
    ∷ bytes "<Streams>"
    ∷ bytes "<DeviceStream name=\"Device\" uuid=\"Device\">"
    ∷ bytes "<ComponentStream component=\"Axes\" name=\"Axes\" componentId=\"c1\">"
    ∷ bytes "<Samples>"
    ∷ (bytes "<Position dataItemId=\"i1\" sequence=\"2\""
    ++ bytes " timestamp=\"1970-01-01T00:00:01.000Z\">UNAVAILABLE</Position>")
    ∷ (bytes "<Position dataItemId=\"i1\" sequence=\"3\""
    ++ bytes " timestamp=\"1970-01-01T00:00:01.010Z\">5</Position>")
    ∷ (bytes "<Position dataItemId=\"i1\" sequence=\"4\""
    ++ bytes " timestamp=\"1970-01-01T00:00:01.030Z\">-0.001</Position>")
    ∷ bytes "</Samples>"
    ∷ bytes "</ComponentStream>"
    ∷ bytes "</DeviceStream>"
    ∷ bytes "</Streams>"
    ∷ bytes "</MTConnectStreams>"
    ∷ []

pub bench-document : document bench_model bench_names bench_reply 3 1 2000 ≡ ended bench_lines
unfolding opened_streams
bench-document = refl

pub bench-length : length (ended bench_lines) ≡ 750
unfolding opened_streams
bench-length = refl

pub bench-read : read_streams (ended bench_lines)
    ≡ record { item = 1; number = 2; time = 1000; value = Unavailable }
    ∷ record { item = 1; number = 3; time = 1010; value = Sample (pos 5000) }
    ∷ record { item = 1; number = 4; time = 1030; value = Sample (negsuc 0) }
    ∷ []
unfolding opened_streams
bench-read = refl

pub bench-header : read_header (ended bench_lines)
    ≡ record { creation = 2000; instance = 1; buffer_size = 3; next = 5; first = 2; last = 4 }
unfolding opened_streams
bench-header = refl

-- it is an accepted call, so what is proved of these holds of it
held : (words : List ℕ) → all (λ x. ltb x (2 ^ 64)) words ≡ true → Held words
unfolding all
held [] h i = omega arith
held (x ∷ words) h zero = ltb-true x (2 ^ 64) (and_left _ (all (λ x. ltb x (2 ^ 64)) words) h)
held (x ∷ words) h (suc i) = held words (and_right (ltb x (2 ^ 64)) _ h) i

pub bench-accepted : Accepted bench_model bench_names bench_reply 3 1 2000
unfolding opened_streams
bench-accepted =
    record {
      model-ok = refl;
      reply-ok = refl;
      times-ok = refl;
      words = held bench_reply refl;
      N-ok = omega arith;
      instance-ok = omega arith;
    }

-- ---- every kind of row

-- Four components, of which Axes has no rows and two have one type; rows of each category and each with Unavailable,
-- out of order, one of them twice; an item of the last component
abbrev mixed_model : List ℕ
mixed_model =
    4 ∷ 8 ∷ 6 ∷ 8 ∷ 260 ∷ 260 ∷ 131072 ∷ 513 ∷ 65538 ∷ 196611 ∷ 262917 ∷ 775 ∷ 265 ∷ 131840 ∷ []

abbrev mixed_names : List ℕ
mixed_names =
    cells_of
    (bytes "SYSTEM" ∷ bytes "3D_x" ∷ bytes "EXECUTION" ∷ bytes "ASSET_CHANGED" ∷ bytes "Linear"
    ∷ bytes "block_NUMBER" ∷ bytes "Device" ∷ bytes "_" ∷ bytes "Axes" ∷ bytes "x9Y" ∷ [])

abbrev mixed_reply : List ℕ
mixed_reply =
    16 ∷ 9 ∷ 20 ∷ 21 ∷ 9 ∷ 11 ∷ 12 ∷ 13 ∷ 14 ∷ 15 ∷ 16 ∷ 17 ∷ 18 ∷ 18 ∷ 19 ∷ 20 ∷ 20 ∷ 20 ∷ 18446744073709551615
    ∷ 9 ∷ 0 ∷ 1103806600572 ∷ 951782400123 ∷ 12918456327 ∷ 1000 ∷ 2207613190147 ∷ 4102444799999 ∷ 0 ∷ 1000
    ∷ 4410931412991 ∷ 1000 ∷ 7709466296320 ∷ 1010 ∷ 3298534883328 ∷ 1010 ∷ 5504000589824 ∷ 1020 ∷ 12918456319
    ∷ 1020 ∷ 2199023255552 ∷ 1020 ∷ 3307124817928 ∷ 1030 ∷ 4398046511104 ∷ 1030 ∷ 7696581394432 ∷ 1030
    ∷ 1099511627776 ∷ 1 ∷ 5501853106186 ∷ 0 ∷ 1103806600572 ∷ []

abbrev mixed_lines : List (List ℕ)
mixed_lines =
    bytes "<?xml version=\"1.0\" encoding=\"UTF-8\"?>"
    ∷ bytes "<MTConnectStreams xmlns=\"urn:mtconnect.org:MTConnectStreams:1.2\">"
    ∷ (bytes "<Header creationTime=\"2099-12-31T23:59:59.999Z\" sender=\"box\""
    ++ bytes " instanceId=\"18446744073709551615\" bufferSize=\"131072\" version=\"1.2\""
    ++ bytes " nextSequence=\"21\" firstSequence=\"9\" lastSequence=\"20\"/>")
    ∷ bytes "<Streams>"
    ∷ bytes "<DeviceStream name=\"Device\" uuid=\"Device\">"
    ∷ bytes "<ComponentStream component=\"Device\" name=\"Device\" componentId=\"c0\">"
    ∷ bytes "<Events>"
    ∷ (bytes "<Execution dataItemId=\"i2\" sequence=\"12\""
    ++ bytes " timestamp=\"1970-01-01T00:00:01.000Z\">3</Execution>")
    ∷ (bytes "<AssetChanged dataItemId=\"i3\" sequence=\"16\""
    ++ bytes " timestamp=\"1970-01-01T00:00:01.010Z\">UNAVAILABLE</AssetChanged>")
    ∷ (bytes "<Execution dataItemId=\"i2\" sequence=\"18\""
    ++ bytes " timestamp=\"1970-01-01T00:00:01.020Z\">UNAVAILABLE</Execution>")
    ∷ (bytes "<AssetChanged dataItemId=\"i3\" sequence=\"19\""
    ++ bytes " timestamp=\"1970-01-01T00:00:01.020Z\">8</AssetChanged>")
    ∷ bytes "</Events>"
    ∷ bytes "<Condition>"
    ∷ (bytes "<Fault dataItemId=\"i0\" sequence=\"11\" timestamp=\"2000-02-29T00:00:00.123Z\""
    ++ bytes " type=\"SYSTEM\" nativeCode=\"7\"/>")
    ∷ (bytes "<Unavailable dataItemId=\"i0\" sequence=\"13\" timestamp=\"2099-12-31T23:59:59.999Z\""
    ++ bytes " type=\"SYSTEM\"/>")
    ∷ (bytes "<Warning dataItemId=\"i0\" sequence=\"18\" timestamp=\"1970-01-01T00:00:01.020Z\""
    ++ bytes " type=\"SYSTEM\" nativeCode=\"16777215\"/>")
    ∷ bytes "</Condition>"
    ∷ bytes "</ComponentStream>"
    ∷ bytes "<ComponentStream component=\"Linear\" name=\"Linear\" componentId=\"c2\">"
    ∷ bytes "<Samples>"
    ∷ bytes "<T3dX dataItemId=\"i1\" sequence=\"9\" timestamp=\"1970-01-01T00:00:00.000Z\">5.5</T3dX>"
    ∷ (bytes "<T3dX dataItemId=\"i1\" sequence=\"20\""
    ++ bytes " timestamp=\"1970-01-01T00:00:01.030Z\">UNAVAILABLE</T3dX>")
    ∷ bytes "<T3dX dataItemId=\"i1\" sequence=\"9\" timestamp=\"1970-01-01T00:00:00.000Z\">5.5</T3dX>"
    ∷ bytes "</Samples>"
    ∷ bytes "</ComponentStream>"
    ∷ bytes "<ComponentStream component=\"Linear\" name=\"Linear\" componentId=\"c3\">"
    ∷ bytes "<Samples>"
    ∷ bytes "<T dataItemId=\"i5\" sequence=\"17\" timestamp=\"1970-01-01T00:00:01.010Z\">-2147483.648</T>"
    ∷ (bytes "<T dataItemId=\"i5\" sequence=\"18446744073709551615\""
    ++ bytes " timestamp=\"1970-01-01T00:00:00.001Z\">0.01</T>")
    ∷ bytes "</Samples>"
    ∷ bytes "<Events>"
    ∷ (bytes "<BlockNumber dataItemId=\"i4\" sequence=\"14\""
    ++ bytes " timestamp=\"1970-01-01T00:00:01.000Z\">4294967295</BlockNumber>")
    ∷ (bytes "<BlockNumber dataItemId=\"i4\" sequence=\"20\""
    ++ bytes " timestamp=\"1970-01-01T00:00:01.030Z\">UNAVAILABLE</BlockNumber>")
    ∷ bytes "</Events>"
    ∷ bytes "<Condition>"
    ∷ (bytes "<Normal dataItemId=\"i7\" sequence=\"15\" timestamp=\"1970-01-01T00:00:01.000Z\""
    ++ bytes " type=\"SYSTEM\" nativeCode=\"0\"/>")
    ∷ (bytes "<Unavailable dataItemId=\"i7\" sequence=\"20\" timestamp=\"1970-01-01T00:00:01.030Z\""
    ++ bytes " type=\"SYSTEM\"/>")
    ∷ bytes "</Condition>"
    ∷ bytes "</ComponentStream>"
    ∷ bytes "</DeviceStream>"
    ∷ bytes "</Streams>"
    ∷ bytes "</MTConnectStreams>"
    ∷ []

pub mixed-document : document mixed_model mixed_names mixed_reply 131072 18446744073709551615 max_time
    ≡ ended mixed_lines
unfolding opened_streams
mixed-document = refl

pub mixed-read : read_streams (ended mixed_lines)
    ≡ record { item = 2; number = 12; time = 1000; value = Event 3 }
    ∷ record { item = 3; number = 16; time = 1010; value = Unavailable }
    ∷ record { item = 2; number = 18; time = 1020; value = Unavailable }
    ∷ record { item = 3; number = 19; time = 1020; value = Event 8 }
    ∷ record { item = 0; number = 11; time = 951782400123; value = Condition Fault 7 }
    ∷ record { item = 0; number = 13; time = 4102444799999; value = Unavailable }
    ∷ record { item = 0; number = 18; time = 1020; value = Condition Warning 16777215 }
    ∷ record { item = 1; number = 9; time = 0; value = Sample (pos 5500) }
    ∷ record { item = 1; number = 20; time = 1030; value = Unavailable }
    ∷ record { item = 1; number = 9; time = 0; value = Sample (pos 5500) }
    ∷ record { item = 5; number = 17; time = 1010; value = Sample (negsuc 2147483647) }
    ∷ record { item = 5; number = 18446744073709551615; time = 1; value = Sample (pos 10) }
    ∷ record { item = 4; number = 14; time = 1000; value = Event 4294967295 }
    ∷ record { item = 4; number = 20; time = 1030; value = Unavailable }
    ∷ record { item = 7; number = 15; time = 1000; value = Condition Normal 0 }
    ∷ record { item = 7; number = 20; time = 1030; value = Unavailable }
    ∷ []
unfolding opened_streams
mixed-read = refl

pub mixed-nested : nested [] (tags (ended mixed_lines)) ≡ true
unfolding opened_streams
mixed-nested = refl

-- ---- no rows

pub empty-document : document bench_model bench_names (0 ∷ 2 ∷ 4 ∷ 5 ∷ []) 3 1 2000
    ≡ ended
    (bytes "<?xml version=\"1.0\" encoding=\"UTF-8\"?>"
    ∷ bytes "<MTConnectStreams xmlns=\"urn:mtconnect.org:MTConnectStreams:1.2\">"
    ∷ (bytes "<Header creationTime=\"1970-01-01T00:00:02.000Z\" sender=\"box\" instanceId=\"1\""
    ++ bytes " bufferSize=\"3\" version=\"1.2\" nextSequence=\"5\" firstSequence=\"2\" lastSequence=\"4\"/>")
    ∷ bytes "<Streams/>"
    ∷ bytes "</MTConnectStreams>"
    ∷ [])
unfolding opened_streams
empty-document = refl

-- ---- element names

pub element-names : map element_name
    (bytes "PATH_FEEDRATE" ∷ bytes "x9Y" ∷ bytes "3D_x" ∷ bytes "_" ∷ bytes "__a" ∷ bytes "a__b_" ∷ bytes "_9"
    ∷ bytes "9" ∷ bytes "az_AZ_zA_Za_09" ∷ bytes "A1B2_c" ∷ bytes "TTTTTTTTTTTTTTTTTTTTTTTT"
    ∷ bytes "012345678901234567890123" ∷ [])
    ≡ bytes "PathFeedrate" ∷ bytes "X9y" ∷ bytes "T3dX" ∷ bytes "T" ∷ bytes "A" ∷ bytes "AB" ∷ bytes "T9"
    ∷ bytes "T9" ∷ bytes "AzAzZaZa09" ∷ bytes "A1b2C" ∷ bytes "Tttttttttttttttttttttttt"
    ∷ bytes "T012345678901234567890123" ∷ []
unfolding opened_streams
element-names = refl

-- tags that do not nest, or are not closed
pub not-nested : map (λ s. nested [] (tags s))
    (bytes "<a><b></a></b>" ∷ bytes "<a>" ∷ bytes "</a>" ∷ bytes "<a></b>" ∷ bytes "<a></a></a>" ∷ [])
    ≡ replicate 5 false
unfolding opened_streams
not-nested = refl

-- ---- how long a document can be

-- thirteen items, the last three of component 10: a sample, an event, a condition; every name has 24 bytes and begins
-- with a digit
abbrev long_model : List ℕ
long_model = 11 ∷ 13 ∷ (replicate 11 0 ++ (replicate 10 0 ++ 2560 ∷ 68096 ∷ 133632 ∷ []))

abbrev most : ℕ
most = 18446744073709551615

-- the length with all numbers of 20 digits
abbrev length_of : List ℕ → List ℕ → ℕ
length_of model rows =
    length (document model (bytes "012345678901234567890123") (get_or rows 0 0 ∷ most ∷ most ∷ most ∷ drop 1 rows)
    most most max_time)

-- the longest sample, event and condition, and two such samples; what the bound has besides is for components and
-- groups without rows, for an event's and a condition's line, and for the lines that <Streams/> stands for
pub bound-reached :
    (length_of long_model
    (3 ∷ most ∷ most ∷ most ∷ 0 ∷ 11001558728704 ∷ 0 ∷ 12094627905536 ∷ max_time ∷ 13207057989631 ∷ [])
    + (10 * 189 + 1 + 3) ≡ streams_bytes 11 3)
    × (length_of long_model (2 ∷ most ∷ most ∷ 0 ∷ 11001558728704 ∷ 0 ∷ 11001558728704 ∷ [])
    + (10 * 189 + 19 + 25) ≡ streams_bytes 11 2)
    × (length_of (1 ∷ 1 ∷ 0 ∷ 0 ∷ []) (0 ∷ []) + (189 + 105) ≡ streams_bytes 1 0)
unfolding opened_streams
bound-reached = (refl, refl, refl)

-- ---- which words a category can have

-- kind 0 with 0 and with 1 below; kinds 1 and 2 with the least and the most below; kind 3 at level 0, at the most of
-- level 2 and at the least of level 3; kinds 4, 5 and the highest
abbrev words : List ℕ
words =
    map (λ w. get_or w 0 0 * 2 ^ 32 + get_or w 1 0)
    ((0 ∷ 0 ∷ []) ∷ (0 ∷ 1 ∷ []) ∷ (1 ∷ 0 ∷ []) ∷ (1 ∷ 4294967295 ∷ []) ∷ (2 ∷ 0 ∷ []) ∷ (2 ∷ 4294967295 ∷ [])
    ∷ (3 ∷ 0 ∷ []) ∷ (3 ∷ 50331647 ∷ []) ∷ (3 ∷ 50331648 ∷ []) ∷ (4 ∷ 0 ∷ []) ∷ (5 ∷ 0 ∷ []) ∷ (255 ∷ 0 ∷ []) ∷ [])

-- Unavailable alone of kind 0; samples, events, conditions or none of them
abbrev Takes : Bool → Bool → Bool → ℕ → Type 0
Takes sample event condition category =
    map (word_ok category) words
    ≡ true ∷ false ∷ sample ∷ sample ∷ event ∷ event ∷ condition ∷ condition ∷ replicate 4 false

pub words-ok :
    Takes true false false 0
    × Takes false true false 1
    × Takes false false true 2
    × Takes false true false 3
    × Takes false true false 4
unfolding opened_streams
words-ok = (refl, refl, refl, refl, refl)

-- Samples, Events, Condition, Events, Events
pub groups_of : map group_of (0 ∷ 1 ∷ 2 ∷ 3 ∷ 4 ∷ []) ≡ 0 ∷ 1 ∷ 2 ∷ 1 ∷ 1 ∷ []
groups_of = refl

-- ---- refusals

-- the call with the bench model and names into this many bytes of 7
abbrev called : List ℕ → ℕ → ℕ → Replied
called reply creation room = streams bench_model bench_names reply 3 1 creation (replicate room 7)

abbrev Refuses : Refusal → List ℕ → ℕ → ℕ → Type 0
Refuses r reply creation room = called reply creation room ≡ refuse r (replicate room 7)

-- a reply of one row or two
abbrev one : ℕ → ℕ → List ℕ
one time word = 1 ∷ 2 ∷ 2 ∷ 3 ∷ 2 ∷ time ∷ word ∷ []

abbrev two : ℕ → ℕ → ℕ → ℕ → List ℕ
two time word time2 word2 = 2 ∷ 2 ∷ 3 ∷ 4 ∷ 2 ∷ 3 ∷ time ∷ word ∷ time2 ∷ word2 ∷ []

-- item 1, a sample, of value 0; an event that it can't have; item 2, which is not there
abbrev zeroed : ℕ
zeroed = 1 * 2 ^ 40 + 1 * 2 ^ 32

abbrev event : ℕ
event = 1 * 2 ^ 40 + 2 * 2 ^ 32

abbrev absent : ℕ
absent = 2 * 2 ^ 40

abbrev late : ℕ
late = 4102444800000

-- room: one byte short, exact, and more, which stays as it was
pub room-refused :
    Refuses Space bench_reply 2000 749
    × (called bench_reply 2000 750 ≡ record { answer = Ok 750; reply = ended bench_lines })
    × (called bench_reply 2000 752 ≡ record { answer = Ok 750; reply = ended bench_lines ++ 7 ∷ 7 ∷ [] })
unfolding opened_streams
room-refused = (refl, refl, refl)

-- words: none, three, four; one short of a row, and just a row; a k that no reply has; words behind are not read
pub short-refused :
    Refuses Store [] 2000 750
    × Refuses Store (0 ∷ 2 ∷ 4 ∷ []) 2000 750
    × ((called (0 ∷ 2 ∷ 4 ∷ 5 ∷ []) 2000 295).answer ≡ Ok 295)
    × Refuses Store (1 ∷ 2 ∷ 2 ∷ 3 ∷ 2 ∷ 0 ∷ []) 2000 750
    × ((called (one 0 zeroed) 2000 557).answer ≡ Ok 557)
    × Refuses Store (18446744073709551615 ∷ 2 ∷ 2 ∷ 3 ∷ 2 ∷ 0 ∷ zeroed ∷ []) 2000 750
    × Refuses Store (6148914691236517205 ∷ 2 ∷ 2 ∷ 3 ∷ 2 ∷ 0 ∷ zeroed ∷ []) 2000 750
    × (called (one 0 zeroed ++ late ∷ absent ∷ absent ∷ []) 2000 750 ≡ called (one 0 zeroed) 2000 750)
unfolding opened_streams
short-refused = (refl, refl, refl, refl, refl, refl, refl, refl)

-- packed words: the last item and the one behind it, kind 0 with a low word, another category's kind, the second row
pub words-refused :
    ((called (one 0 zeroed) 2000 557).answer ≡ Ok 557)
    × Refuses Store (one 0 absent) 2000 750
    × ((called (one 0 (1 * 2 ^ 40)) 2000 567).answer ≡ Ok 567)
    × Refuses Store (one 0 (1 * 2 ^ 40 + 1)) 2000 750
    × Refuses Store (one 0 event) 2000 750
    × Refuses Store (two 0 zeroed 0 event) 2000 1000
unfolding opened_streams
words-refused = (refl, refl, refl, refl, refl, refl)

-- levels: a condition's item of the document above, at the most of level 2 and at the least of level 3
pub levels-refused :
    ((streams mixed_model mixed_names (one 0 (3 * 2 ^ 32 + 50331647)) 3 1 0 (replicate 587 7)).answer ≡ Ok 587)
    × (streams mixed_model mixed_names (one 0 (3 * 2 ^ 32 + 50331648)) 3 1 0 (replicate 587 7)
    ≡ refuse Store (replicate 587 7))
unfolding opened_streams
levels-refused = (refl, refl)

-- times: the last of 2099 and the next, in a row, in the second of two and of creation
pub times-refused :
    ((called (one max_time zeroed) 2000 557).answer ≡ Ok 557)
    × Refuses Stamp (one late zeroed) 2000 750
    × Refuses Stamp (two 0 zeroed late zeroed) 2000 1000
    × ((called (one 0 zeroed) max_time 557).answer ≡ Ok 557)
    × Refuses Stamp (one 0 zeroed) late 750
    × (late ≡ max_time + 1)
unfolding opened_streams
times-refused = (refl, refl, refl, refl, refl, refl)

-- where two meet: 1 and 2, 2 and 21, in one row and in two, 21 and 15; and all four
pub first-refused :
    (streams bench_model [] [] 3 1 2000 [] ≡ refuse Model [])
    × (streams (bench_model ++ 0 ∷ []) bench_names (one 0 absent) 3 1 2000 [] ≡ refuse Model [])
    × Refuses Store (one late absent) 2000 750
    × Refuses Store (two late zeroed 0 event) 2000 750
    × Refuses Store (one 0 absent) late 750
    × Refuses Stamp (one late zeroed) 2000 0
    × Refuses Stamp (one 0 zeroed) late 0
    × Refuses Store (one late absent) late 0
    × (streams (bench_model ++ 0 ∷ []) bench_names (one late absent) 3 1 late [] ≡ refuse Model [])
unfolding opened_streams
first-refused = (refl, refl, refl, refl, refl, refl, refl, refl, refl)
