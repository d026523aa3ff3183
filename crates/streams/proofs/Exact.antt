-- Not only the values but the reply's own words: each row read is one row's number, time and packed word.
use Prim.Native.Nat.{ℕ, zero, suc, ◌%◌, ◌^◌}
use mathlib.Core.Path.{◌≡◌, refl, ap₂}
use mathlib.Core.Bool.{true, and-eq-true_iff}
use mathlib.Core.List.Permᴰ
use mathlib.Core.List.{List, [], ◌∷◌, map, Permᴰ}
use native.Mathlib.Omega.{arith}
use lib.Dec.{ltb}
use lib.ListN.{get_or, drop}
use Rattle.spec.specs.Value.{pack, item_of, decode}
use Rattle.spec.specs.Model.{items, category}
use Rattle.spec.specs.Reply.{read_rows, rows_of}
use Rattle.spec.proofs.Words.{and_right}
use Rattle.spec.proofs.Packing.{word_back}
use Rattle.streams.specs.Streams.{Row, row_in, packed_ok, all_rows, group_of, document}
use Rattle.streams.specs.ReadStreams.{read_streams}
use Rattle.streams.proofs.Document.{word-taken, packed-rows, Accepted, streams-read, rows-once}

-- a row's three words
abbrev pub words_of : Row → List ℕ
words_of r = r.number ∷ r.time ∷ pack r.item r.value ∷ []

packed-back : (model : List ℕ) (word : ℕ) → packed_ok model word ≡ true
    → pack (item_of word) (decode (word % 2 ^ 40)) ≡ word
unfolding packed_ok
packed-back model word h =
    let c = category model (item_of word) in
    let w = word % 2 ^ 40 in
    rw (word_back (group_of c) w (word-taken c w (and_right (ltb (item_of word) (items model)) _ h))) (omega arith)

rows_back : (model : List ℕ) (k : ℕ) (ns ps : List ℕ)
    → all_rows (λ r. packed_ok model (get_or r 2 0)) (read_rows k ns ps) ≡ true
    → map words_of (map row_in (read_rows k ns ps)) ≡ read_rows k ns ps
unfolding read_rows all_rows
rows_back model zero ns ps h = refl
rows_back model (suc k) ns ps h =
    let t = (and-eq-true_iff (packed_ok model (get_or ps 1 0)) _).0 h in
    ap₂ (λ (w : ℕ) (rs : List (List ℕ)). (get_or ns 0 0 ∷ get_or ps 0 0 ∷ w ∷ []) ∷ rs)
    (packed-back model (get_or ps 1 0) t.0) (rows_back model k (drop 1 ns) (drop 2 ps) t.1)

-- the rows that a reader finds are, in some order, the reply's rows, word for word, each as often as it is there
pub exactly : (model names reply : List ℕ) (N instance creation : ℕ)
    → Accepted model names reply N instance creation
    → Permᴰ (map words_of (read_streams (document model names reply N instance creation))) (rows_of reply)
exactly model names reply N instance creation h =
    let k = get_or reply 0 0 in
    let e = rows_back model k (drop 4 reply) (drop k (drop 4 reply)) (packed-rows model reply h.reply-ok) in
    rw (streams-read model names reply N instance creation h)
    (rw e at (Permᴰ.map words_of (rows-once model names reply N instance creation h)))
