-- Eight words without one of them: those behind it moved down, and 0 written behind them. Eight words among others.
use Prim.Native.Nat.{ℕ, ◌+◌, ◌-◌, ◌≤◌, ◌<◌}
use mathlib.Core.Path.{◌≡◌, sym, ap, ◌∙◌}
use mathlib.Core.List.{List, [], ◌∷◌, ◌++◌, append_assoc, append-nil}
use native.Mathlib.Numerals.{add-one}
use native.Mathlib.Omega.{arith}
use lib.ListN.{length, get_or, set, take, drop, length-append, length-drop, drop_of_length-le}
use lib.Seq.{sets, drop-cons, take-length, length-take-le, set-append_seam}
use Rattle.std.specs.List.{copy_within}
use Rattle.std.proofs.lemmas.List.Edits.{paste_all}
use borrow.Rule.Slice.PartMut.{put_mid}
use Rattle.marks.specs.Marks.{eight_at}
use Rattle.spec.proofs.Written.{part-set}
use Rattle.marks.proofs.Laws.{eight-length, eight-lent}
use Rattle.changes.specs.Changes.{without, changed, ChangeFits}
use Rattle.changes.specs.declared.Change.{Change}
use Rattle.changes.proofs.Steps.{length-changed}

pub moved-down : (l : List ℕ) (j : ℕ) → length l ≡ 8 → j < 8 → set (copy_within l (j + 1) 8 j) 7 0 ≡ without 0 j l
moved-down l j e h =
    let s = drop (j + 1) l in
    let front = take j l ++ s in
    let n : 8 - (j + 1) ≡ length s = omega (arith, length-drop (j + 1) l) in
    let m : length front ≡ 7 = omega (arith, length-append (take j l) s, length-take-le j l (omega arith), n) in
    let p : j + (8 - (j + 1)) ≡ 7 = omega arith in
    let d : drop 7 l ≡ get_or l 7 0 ∷ [] =
    drop-cons l 7 0 (omega arith) ∙ ap (λ (t : List ℕ). get_or l 7 0 ∷ t) (drop_of_length-le l {i = 8} (omega arith)) in
    let q : copy_within l (j + 1) 8 j ≡ front ++ (get_or l 7 0 ∷ []) =
    paste_all l j s (8 - (j + 1)) n ∙ rw (p, d) (sym (append_assoc (take j l) s (get_or l 7 0 ∷ []))) in
    let a : set (front ++ (get_or l 7 0 ∷ [])) 7 0 ≡ front ++ (0 ∷ []) =
    rw m at (set-append_seam front (get_or l 7 0) [] 0) in
    rw (q, a, append_assoc (take j l) s (0 ∷ []), add-one j)

-- eight words as they are lent
abbrev lent : ℕ → List ℕ → List ℕ
lent a l = take (a + 8 - a) (drop a l)

-- eight words among others, lent and changed
module _ (a : ℕ) (l : List ℕ) (h : Change) (x : ℕ) {ys : List ℕ} (fits : ChangeFits h) (room : a + 8 ≤ length l) where
  pub eight-written : ys ≡ changed 0 h x (eight_at l a)
      → put_mid a (a + 8 - a) l ys ≡ sets l a (changed 0 h x (eight_at l a))
  eight-written e =
      let n = length-changed 0 h x (eight_at l a) fits (eight-length l a room) in
      part-set a _ l ys _ e (omega arith) (omega arith)

  pub eight-changed : ys ≡ changed 0 h x (take 8 (lent a l)) ++ drop 8 (lent a l)
      → put_mid a (a + 8 - a) l ys ≡ sets l a (changed 0 h x (eight_at l a))
  eight-changed e =
      let m = lent a l in
      let n : length m ≡ 8 = ap length (eight-lent a l) ∙ eight-length l a room in
      let t : take 8 m ≡ m = rw n at (take-length m) in
      let d : drop 8 m ≡ [] = drop_of_length-le m {i = 8} (omega arith) in
      eight-written (e ∙ (rw (t, d) (append-nil (changed 0 h x m)) ∙ ap (changed 0 h x) (eight-lent a l)))
