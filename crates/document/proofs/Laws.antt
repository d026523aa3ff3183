-- A document's pieces one behind the other, as the code puts them.
use Prim.Native.Nat.{ℕ, ◌≤◌}
use mathlib.Core.Path.{◌≡◌, refl, sym, ap, ◌∙◌, subst}
use mathlib.Core.Logic.{◌≢◌}
use mathlib.Core.Bool.{true}
use mathlib.Core.List.{List, [], ◌∷◌, ◌++◌, append_assoc, map}
use native.Mathlib.Omega.{arith}
use borrow.Author.Tests.{leb-true}
use contract.BorrowLft.{◌⊑◌, ⊑_meet, ⊑_static}
use lib.Dec.{leb}
use lib.ListN.{length, get_or, length-map}
use Rattle.std.proofs.lemmas.List.{nil_from_length}
use Rattle.spec.specs.Bytes.{bytes, decimal}
use Rattle.spec.specs.Model.{components}
use Rattle.spec.specs.Reply.{rows_of}
use Rattle.lines.specs.Stamps.{stamp_text}
use Rattle.streams.specs.Streams.{Row, row_in, tag, empty_tag, header_tag, device_tag, components_lines, streams_lines}
use Rattle.streams.specs.Streams.{document_lines, ended, document, streams_bytes}
use Rattle.streams.proofs.Rows.{rows-length}
use Rattle.streams.proofs.Pieces.{ended-append}
use Rattle.streams.proofs.Short.{document-short}
use Rattle.writer.specs.declared.Output.{Output}
use Rattle.writer.specs.Puts.{Put}
use Rattle.row_groups.specs.Groups.{Source, Documented}
use Rattle.document.specs.declared.Header.{Header}
use Rattle.document.specs.Header.{start_lines, given_part, numbers_part, document_of}

-- another name of the text that is put
pub put_is : {o e : Output} {s t : List ℕ} → s ≡ t → Put o s e → Put o t e
put_is {o} {e} q p = subst (λ (x : List ℕ). Put o x e) q p

-- what lives for one borrowed part and for the rest lives for both
part : {k l r : List ℕ} → k ⊑ l → k ⊑ r → k ⊑ (l ++ []) ++ r
part p q = ⊑_meet _ _ _ (⊑_meet _ _ _ p (⊑_static _)) q

-- what a closure takes of the text, the document, which is borrowed for its model and its reply, and the header
abbrev taken : List ℕ → List ℕ → List ℕ → List ℕ
taken t d h = (t ++ ((((d ++ []) ++ []) ++ ((d ++ []) ++ [])) ++ (((d ++ []) ++ []) ++ []))) ++ ((h ++ []) ++ [])

pub all-taken : {k t d h : List ℕ} → k ⊑ t → k ⊑ d → k ⊑ h → k ⊑ taken t d h ++ taken t d h
all-taken {k} {t} {d} {h} p q r =
    let o : k ⊑ (d ++ []) ++ [] = part q (⊑_static _) in
    let m = ⊑_meet _ _ _ p (⊑_meet _ _ _ (⊑_meet _ _ _ o o) (⊑_meet _ _ _ o (⊑_static _))) in
    let all : k ⊑ taken t d h = ⊑_meet _ _ _ m (part r (⊑_static _)) in
    ⊑_meet _ _ _ all all

-- ---- the header

pub given-text : (N instance creation : ℕ)
    → (bytes "<Header creationTime=\"" ++ (stamp_text creation ++ 34 ∷ []))
    ++ ((bytes " sender=\"box\" instanceId=\"" ++ (decimal instance ++ 34 ∷ []))
    ++ (bytes " bufferSize=\"" ++ (decimal N ++ 34 ∷ [])))
    ≡ given_part N instance creation
unfolding given_part
given-text N instance creation = simp append_assoc

pub numbers-text : (next first last : ℕ)
    → (bytes " version=\"1.2\" nextSequence=\"" ++ (decimal next ++ 34 ∷ []))
    ++ ((bytes " firstSequence=\"" ++ (decimal first ++ 34 ∷ []))
    ++ (bytes " lastSequence=\"" ++ (decimal last ++ 34 ∷ [])))
    ≡ numbers_part next first last
unfolding numbers_part
numbers-text next first last = simp append_assoc

pub header-text : (reply : List ℕ) (N instance creation : ℕ)
    → given_part N instance creation
    ++ (numbers_part (get_or reply 3 0) (get_or reply 1 0) (get_or reply 2 0) ++ (47 ∷ 62 ∷ 10 ∷ []))
    ≡ empty_tag (header_tag reply N instance creation) ++ 10 ∷ []
unfolding given_part numbers_part header_tag
header-text reply N instance creation = simp append_assoc

-- ---- the rows

around : (d c : List ℕ)
    → (bytes "<Streams>" ++ 10 ∷ [])
    ++ ((tag d ++ 10 ∷ []) ++ (c ++ ((bytes "</DeviceStream>" ++ 10 ∷ []) ++ (bytes "</Streams>" ++ 10 ∷ []))))
    ≡ bytes "<Streams>"
    ++ 10 ∷ (tag d ++ 10 ∷ (c ++ (bytes "</DeviceStream>" ++ 10 ∷ (bytes "</Streams>" ++ 10 ∷ []))))
around d c = simp append_assoc

reply-length : (reply : List ℕ) → length (map row_in (rows_of reply)) ≡ get_or reply 0 0
reply-length reply = length-map (rows_of reply) row_in ∙ rows-length reply

module _ (model names reply : List ℕ) (k : ℕ) (ek : k ≡ get_or reply 0 0) where
  pub none-text : k ≡ 0
      → bytes "<Streams/>" ++ 10 ∷ [] ≡ ended (streams_lines model names (map row_in (rows_of reply)))
  unfolding streams_lines ended
  none-text e = rw (nil_from_length (map row_in (rows_of reply)) (omega (arith, reply-length reply)))

  pub some-text : k ≢ 0
      → (bytes "<Streams>" ++ 10 ∷ [])
      ++ ((tag (device_tag model names) ++ 10 ∷ [])
      ++ (ended (components_lines model names (map row_in (rows_of reply)))
      ++ ((bytes "</DeviceStream>" ++ 10 ∷ []) ++ (bytes "</Streams>" ++ 10 ∷ []))))
      ≡ ended (streams_lines model names (map row_in (rows_of reply)))
  unfolding streams_lines ended
  some-text n = go (map row_in (rows_of reply)) (λ e. n (omega (arith, reply-length reply)))
    where
      go : (rows : List Row) → length rows ≢ 0
          → (bytes "<Streams>" ++ 10 ∷ [])
          ++ ((tag (device_tag model names) ++ 10 ∷ [])
          ++ (ended (components_lines model names rows)
          ++ ((bytes "</DeviceStream>" ++ 10 ∷ []) ++ (bytes "</Streams>" ++ 10 ∷ []))))
          ≡ ended (streams_lines model names rows)
      go [] h = absurd (h refl)
      go (r ∷ rows) h =
          let cs = components_lines model names (r ∷ rows) in
          around (device_tag model names) (ended cs)
          ∙ ap (λ (x : List ℕ). bytes "<Streams>" ++ 10 ∷ (tag (device_tag model names) ++ 10 ∷ x))
          (sym (ended-append cs (bytes "</DeviceStream>" ∷ bytes "</Streams>" ∷ [])))

-- ---- the document

whole : (h r : List ℕ)
    → ended start_lines ++ ((empty_tag h ++ 10 ∷ []) ++ (r ++ (bytes "</MTConnectStreams>" ++ 10 ∷ [])))
    ≡ ended start_lines ++ (empty_tag h ++ 10 ∷ (r ++ (bytes "</MTConnectStreams>" ++ 10 ∷ [])))
whole h r = simp append_assoc

pub document-text : (model names reply : List ℕ) (N instance creation : ℕ)
    → ended start_lines
    ++ ((empty_tag (header_tag reply N instance creation) ++ 10 ∷ [])
    ++ (ended (streams_lines model names (map row_in (rows_of reply))) ++ (bytes "</MTConnectStreams>" ++ 10 ∷ [])))
    ≡ document model names reply N instance creation
unfolding document document_lines ended
document-text model names reply N instance creation =
    let ls = streams_lines model names (map row_in (rows_of reply)) in
    let h = header_tag reply N instance creation in
    whole h (ended ls)
    ∙ ap (λ (x : List ℕ). ended start_lines ++ (empty_tag h ++ 10 ∷ x))
    (sym (ended-append ls (bytes "</MTConnectStreams>" ∷ [])))

-- what is enough for any document of these components and rows is enough for this one
pub enough : (d : Source) (h : Header) (n : ℕ) → Documented d.model d.names d.reply
    → leb (streams_bytes (components d.model) (get_or d.reply 0 0)) n ≡ true → length (document_of d h) ≤ n
enough d h n k e =
    let m = leb-true (streams_bytes (components d.model) (get_or d.reply 0 0)) n e in
    omega (arith, document-short d.model d.names d.reply h.buffer_size h.instance h.creation k.checked k.accepted)
