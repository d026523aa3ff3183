-- Which bytes pass in a request text: document 02, Req 03.
use Prim.Native.Nat.{ℕ}
use mathlib.Core.Path.{◌≡◌, ◌∙◌, sym}
use mathlib.Core.Bool.{true, ◌&&◌, and-true}
use mathlib.Core.List.{List, ◌∷◌, ◌++◌}
use lib.Dec.{leb, eqb}
use lib.ListN.{length, length-append}
use Rattle.spec.specs.Bytes.{text_byte, all}
use Rattle.spec.specs.Text.{uri_ok, longest_text}
use Rattle.spec.proofs.Words.{and_left, and_right}
use Rattle.spec.proofs.Bytes.{among, text_runs, text_at_lem, all_append}

-- Of an accepted text any byte behind the first, with x in its place: accepted exactly where x is one of 33 to 126. The
-- first one is a '/'.
pub text-passes : (c x y : ℕ) (p s : List ℕ) → uri_ok (c ∷ (p ++ y ∷ s)) ≡ true
    → uri_ok (c ∷ (p ++ x ∷ s)) ≡ among text_runs x
unfolding uri_ok all
text-passes c x y p s h =
    let t = c ∷ (p ++ y ∷ s) in
    let hb = and_right (leb 1 (length t)) _ h in
    let hs = and_right (leb (length t) longest_text) _ hb in
    let ha = and_left (all text_byte t) (eqb c 47) hs in
    let hr = and_right (text_byte c) _ ha in
    let hp : all text_byte p && (text_byte y && all text_byte s) ≡ true = sym (all_append text_byte p (y ∷ s)) ∙ hr in
    let long : length (c ∷ (p ++ x ∷ s)) ≡ length t = rw (length-append p (x ∷ s), length-append p (y ∷ s)) in
    simp (
      long,
      and_left (leb 1 (length t)) _ h,
      and_left (leb (length t) longest_text) _ hb,
      and_right (all text_byte t) (eqb c 47) hs,
      and_left (text_byte c) _ ha,
      all_append text_byte p (x ∷ s),
      and_left (all text_byte p) _ hp,
      and_right (text_byte y) (all text_byte s) (and_right (all text_byte p) _ hp),
      and-true,
    ) (text_at_lem x)
