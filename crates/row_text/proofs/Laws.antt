-- A row's line by the texts that stand one behind the other in it.
use Prim.Native.Nat.{ℕ, ◌+◌, ◌≤◌}
use mathlib.Core.Path.{◌≡◌, sym, ◌∙◌}
use mathlib.Core.List.{List, [], ◌∷◌, ◌++◌, append_assoc}
use native.Mathlib.Omega.{arith}
use lib.ListN.{length, replicate, length-append}
use lib.Seq.{length-sets}
use Rattle.lines.specs.Lines.{value_text}
use Rattle.streams.specs.Streams.{Row, row_attributes, text_line, state_name, native_code, attribute}
use Rattle.streams.specs.Streams.{condition_line}
use Rattle.spec.specs.Bytes.{bytes, decimal}
use Rattle.lines.specs.Stamps.{stamp_text, date_of}
use Rattle.lines.proofs.Stamps.{text-length}
use Rattle.row_text.specs.Shown.{open_attributes}
use Rattle.writer.specs.Puts.{stop, Put}
use Rattle.writer.proofs.Laws.{sets-out}
use Rattle.writer.specs.declared.Output.{Output}
use Rattle.spec.specs.declared.Value.{Value}

attributes-shape : (a i b n c t : List ℕ)
    → (a ++ (i ++ 34 ∷ [])) ++ ((b ++ (n ++ 34 ∷ [])) ++ (c ++ (t ++ 34 ∷ [])))
    ≡ (a ++ (i ++ (34 ∷ (b ++ (n ++ (34 ∷ (c ++ t))))))) ++ 34 ∷ []
attributes-shape a i b n c t = simp append_assoc

attributes-closed : (r : Row) → row_attributes r ≡ open_attributes r ++ 34 ∷ []
unfolding row_attributes open_attributes
attributes-closed r =
    attributes-shape (bytes " dataItemId=\"i") (decimal r.item) (bytes " sequence=\"") (decimal r.number)
    (bytes " timestamp=\"") (stamp_text r.time)

text-shape : (e a v : List ℕ)
    → ((60 ∷ ((e ++ (a ++ 34 ∷ [])) ++ 62 ∷ [])) ++ (v ++ (60 ∷ 47 ∷ (e ++ 62 ∷ [])))) ++ 10 ∷ []
    ≡ 60 ∷ (e ++ (a ++ (34 ∷ 62 ∷ (v ++ (60 ∷ 47 ∷ (e ++ (62 ∷ 10 ∷ [])))))))
text-shape e a v = simp append_assoc

condition-shape : (s a t n : List ℕ)
    → (60 ∷ (((s ++ ((a ++ 34 ∷ []) ++ (t ++ n))) ++ 47 ∷ []) ++ 62 ∷ [])) ++ 10 ∷ []
    ≡ 60 ∷ (s ++ (a ++ (34 ∷ (t ++ (n ++ (47 ∷ 62 ∷ 10 ∷ []))))))
condition-shape s a t n = simp append_assoc

-- v is the row's value as the code holds it
module _ {a e : Output} (t : List ℕ) (r : Row) (v : Value) (q : v ≡ r.value) where
  pub text-put : Put a
      (60 ∷ (t ++ (open_attributes r ++ (34 ∷ 62 ∷ (value_text v ++ (60 ∷ 47 ∷ (t ++ (62 ∷ 10 ∷ [])))))))) e
      → Put a (text_line t r ++ 10 ∷ []) e
  unfolding text_line
  text-put h =
      rw (attributes-closed r, text-shape t (open_attributes r) (value_text r.value)) (rw q at h)

  pub condition-put : Put a
      (60 ∷ (state_name v
      ++ (open_attributes r ++ (34 ∷ (attribute (bytes "type") t ++ (native_code v ++ (47 ∷ 62 ∷ 10 ∷ []))))))) e
      → Put a (condition_line t r ++ 10 ∷ []) e
  unfolding condition_line
  condition-put h =
      let a = attribute (bytes "type") t in
      rw (attributes-closed r, condition-shape (state_name r.value) (open_attributes r) a (native_code r.value))
      (rw q at h)

-- ---- behind the buffer

-- the attributes without the item's and the number's digits
attributes-length : (r : Row) → length (open_attributes r) ≡ 63 + length (decimal r.item) + length (decimal r.number)
unfolding open_attributes
attributes-length r = simp length-append (omega (arith, text-length (date_of r.time)))

-- nothing more is written, and what is counted has room
pub record Full (a : Output) : Type 0 where
  pub short : length a.bytes.now ≤ stop
  pub full : length a.bytes.now ≤ a.at

module _ {a : Output} {s : List ℕ} {e : Output} (h : Full a) (p : Put a s e) where
  -- it stays so
  pub full-put : Full e
  full-put =
      let k = length-sets a.bytes.now a.at s in
      let l : length e.bytes.now ≡ length a.bytes.now = rw p.stands k in
      record { short = omega (arith, h.short); full = omega (arith, h.full, p.place) }

  -- texts of one length do the same
  pub put-counted : (t : List ℕ) → length t ≡ length s → Put a t e
  put-counted t q = record {
    same = p.same;
    short = p.short;
    stands = p.stands ∙ (sets-out a.bytes.now a.at s h.full ∙ sym (sets-out a.bytes.now a.at t h.full));
    place = rw q p.place;
  }

-- the bytes that every row has, then the element twice, the item, the number and the value
pub row-counted : {a e : Output} (t : List ℕ) (r : Row) (v : Value) → v ≡ r.value → Full a
    → Put a (replicate 70 0 ++ (t ++ (t ++ (decimal r.item ++ (decimal r.number ++ value_text v))))) e
    → Put a (text_line t r ++ 10 ∷ []) e
row-counted t r v q h p =
    text-put t r v q (put-counted h p _ (simp length-append (omega (arith, attributes-length r))))
