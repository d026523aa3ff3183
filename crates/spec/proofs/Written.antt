-- Elements of a list written over, as those set there, and one set behind them.
use Prim.Native.Nat.{ℕ, suc, ◌+◌, ◌≤◌}
use mathlib.Core.Path.{◌≡◌, refl, sym, ap, ◌∙◌}
use mathlib.Core.Logic.{◌≢◌}
use mathlib.Core.List.{List, [], ◌∷◌, append_assoc}
use native.Mathlib.Omega.{arith}
use lib.ListN.{length, set, take, drop}
use lib.Seq.{paste, sets, sets-eq, set_comm}
use borrow.Rule.Slice.PartMut.{put_mid}
use Rattle.std.proofs.lemmas.List.Edits.{paste_all}
use Rattle.std.proofs.lemmas.Slice.{put_mid-paste}

-- w copied over the elements from a on
pub pasted : {A : Type 0} (a n : ℕ) (o w : List A) → n ≡ length w → a + n ≤ length o → paste o a w n ≡ sets o a w
pasted a n o w e h =
    paste_all o a w n e
    ∙ sym (append_assoc (take a o) w (drop (a + n) o))
    ∙ rw e (sym (sets-eq w o a (omega arith)))

-- the k elements from a on, lent and given back as w
pub part-set : {A : Type 0} (a k : ℕ) (o v w : List A) → v ≡ w → k ≡ length w → a + length w ≤ length o
    → put_mid a k o v ≡ sets o a w
part-set a k o v w e f h = put_mid-paste a k o v w k e refl f ∙ pasted a k o w f (omega arith)

-- an element behind those that are set
pub sets-set : {A : Type 0} (vs l : List A) (i q : ℕ) (x : A) → i + length vs ≤ q
    → sets (set l q x) i vs ≡ set (sets l i vs) q x
sets-set [] l i q x h = refl
sets-set {A} (a ∷ vs) l i q x h =
    let n : q ≢ i = λ z. omega arith in
    ap (λ (y : List A). sets y (suc i) vs) (set_comm l q i x a n) ∙ sets-set vs (set l i a) (suc i) q x (omega arith)
