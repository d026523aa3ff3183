-- Runs of bytes written front to back, and cells put together from such runs, at any place and width.
use Prim.Native.Nat.{ℕ, suc, ◌+◌, ◌-◌, ◌*◌, ◌≤◌, ◌<◌}
use mathlib.Core.Path.{◌≡◌, refl, sym, ap, ◌∙◌}
use mathlib.Core.List.{List, ◌++◌, append_assoc}
use native.Mathlib.Nat.{add-zero, suc-mul, add-mul}
use native.Mathlib.Numerals.{add-one}
use native.Mathlib.Omega.{arith}
use lib.ListN.{length, get_or, set, take, drop, replicate, length-set, length-append, length-drop, length-replicate}
use lib.ListN.{drop_of_length-le}
use lib.Seq.{paste, sets, sets-eq, length-sets, drop-cons, drop-set-lt, get_or-drop, get_or-take, drop-drop, length-take-le}
use borrow.Rule.Slice.PartMut.{put_mid}
use Rattle.std.proofs.lemmas.List.Edits.{paste-paste}
use Rattle.std.proofs.lemmas.Slice.{put_mid-paste}
use Rattle.spec.specs.Bytes.{pad}
use Rattle.spec.specs.Assets.{renew}
use Rattle.spec.proofs.Written.{pasted}

-- ---- padded cells

pub padded-length : (w : ℕ) (s : List ℕ) → length s ≤ w → length (pad w s) ≡ w
padded-length w s h =
    omega (arith, length-append s (replicate (w - length s) 0), length-replicate {A = ℕ} (w - length s) 0)

-- ---- cells renewed

-- the moved bytes, then the new cell in three parts: v₁, v₂ and v₃ are what each comes back as
pub renew-runs : (at w moved : ℕ) (head s o l v₁ v₂ v₃ : List ℕ) → at + w + moved ≤ length o
    → length head + length s ≤ w
    → l ≡ sets o at (take moved (drop (at + w) o))
    → v₁ ≡ head
    → v₂ ≡ s
    → v₃ ≡ replicate (w - length head - length s) 0
    → (let last = at + moved in
    let body = last + length head in
    let rest = body + length s in
    put_mid rest (last + w - rest) (put_mid body (rest - body) (put_mid last (body - last) l v₁) v₂) v₃)
    ≡ sets o at (take moved (drop (at + w) o) ++ pad w (head ++ s))
renew-runs at w moved head s o l v₁ v₂ v₃ hb hs e₁ f₁ f₂ f₃ =
    let m = take moved (drop (at + w) o) in
    let lm : length m ≡ moved = length-take-le moved (drop (at + w) o) (omega (arith, length-drop (at + w) o)) in
    let n = length head + length s in
    let left = w - length head - length s in
    let zeros : List ℕ = replicate left 0 in
    let lz : length zeros ≡ left = length-replicate left 0 in
    let la : length (head ++ s) ≡ n = length-append head s in
    let lc : length ((head ++ s) ++ zeros) ≡ w = omega (arith, length-append (head ++ s) zeros) in
    let ll : length l ≡ length o = ap length e₁ ∙ length-sets o at m in
    let last = at + moved in
    let body = last + length head in
    let rest = body + length s in
    let q : rest ≡ last + n = omega arith in
    let c₁ : l ≡ paste o at m moved = e₁ ∙ sym (pasted at moved o m (sym lm) (omega arith)) in
    let c₂ : put_mid last (body - last) l v₁ ≡ paste l last head (length head) =
    put_mid-paste last (body - last) l v₁ head (length head) f₁ (omega arith) refl in
    let c₃ : put_mid body (rest - body) (paste l last head (length head)) v₂ ≡ paste l last (head ++ s) n =
    put_mid-paste body (rest - body) _ v₂ s (length s) f₂ (omega arith) refl
    ∙ paste-paste l last head s (length head) (length s) refl refl (omega arith) in
    let c₄ : put_mid rest (last + w - rest) (paste l last (head ++ s) n) v₃
    ≡ paste l last ((head ++ s) ++ zeros) (n + left) =
    put_mid-paste rest (last + w - rest) _ v₃ zeros left f₃ (omega arith) (sym lz)
    ∙ ap (λ (k : ℕ). paste (paste l last (head ++ s) n) k zeros left) q
    ∙ paste-paste l last (head ++ s) zeros n left (sym la) (sym lz) (omega arith) in
    let c₅ : paste (paste o at m moved) last ((head ++ s) ++ zeros) (n + left)
    ≡ paste o at (m ++ ((head ++ s) ++ zeros)) (moved + (n + left)) =
    paste-paste o at m ((head ++ s) ++ zeros) moved (n + left) (sym lm) (omega arith) (omega arith) in
    let z : left ≡ w - length (head ++ s) = omega arith in
    let k : moved + (n + left) ≡ length (m ++ ((head ++ s) ++ zeros)) =
    omega (arith, length-append m ((head ++ s) ++ zeros)) in
    rw (c₂, c₃, c₄)
    (ap (λ (x : List ℕ). paste x last ((head ++ s) ++ zeros) (n + left)) c₁
    ∙ c₅
    ∙ pasted at (moved + (n + left)) o (m ++ ((head ++ s) ++ zeros)) k (omega arith)
    ∙ ap (λ (i : ℕ). sets o at (m ++ ((head ++ s) ++ replicate i 0))) z)

-- where the cells begin, without the base: cell n - 1 is the last, and behind `out` stand n - 1 - out more
pub record Places (w out n : ℕ) : Type 0 where
  pub whole : n * w ≡ (n - 1) * w + w
  pub split : (n - 1) * w ≡ out * w + (n - 1 - out) * w

pub places : (w out n : ℕ) → out < n → Places w out n
places w out n h =
    let q : n ≡ suc (n - 1) = omega arith in
    let e : n - 1 ≡ out + (n - 1 - out) = omega arith in
    record {
      whole = ap (λ (x : ℕ). x * w) q ∙ omega (arith, suc-mul (n - 1) w);
      split = ap (λ (x : ℕ). x * w) e ∙ add-mul out (n - 1 - out) w;
    }

-- and that is a run of cells renewed
pub renew-is : (w b out n : ℕ) (c o : List ℕ) → out < n → b + n * w ≤ length o → length c ≡ w
    → sets o (b + out * w) (take ((n - 1 - out) * w) (drop (b + out * w + w) o) ++ c) ≡ renew w b out n c o
unfolding renew
renew-is w b out n c o h hb hc =
    let p = places w out n h in
    let at = b + out * w in
    let moved = take ((n - 1 - out) * w) (drop (at + w) o) in
    let lm : length moved ≡ (n - 1 - out) * w =
    length-take-le ((n - 1 - out) * w) (drop (at + w) o) (omega (arith, length-drop (at + w) o)) in
    let l = length-append moved c in
    let t : at + length (moved ++ c) ≡ b + n * w = omega arith in
    let v : at + w ≡ b + suc out * w = omega (arith, suc-mul out w) in
    let u : n - 1 - out ≡ n - suc out = omega arith in
    sets-eq (moved ++ c) o at (omega arith) ∙ rw (t, v, u) (simp append_assoc)

-- ---- bytes that move down

-- what a loop that writes v over o from `at` on knows behind j bytes: l is what stands there now
pub record Writing (v o : List ℕ) (at : ℕ) (l : List ℕ) (j : ℕ) : Type 0 where
  pub below : j ≤ length v
  pub len : length l ≡ length o
  pub rest : sets o at v ≡ sets l (at + j) (drop j v)
  pub ahead : drop (at + j) l ≡ drop (at + j) o

pub writing-none : (v o : List ℕ) (at : ℕ) → Writing v o at o 0
writing-none v o at = record { below = omega arith; len = refl; rest = rw (add-zero at); ahead = refl }

pub writing_more : {v o : List ℕ} {at : ℕ} {l : List ℕ} {j : ℕ} → Writing v o at l j → j < length v → (x : ℕ)
    → x ≡ get_or v j 0
    → Writing v o at (set l (at + j) x) (j + 1)
writing_more {v} {o} {at} {l} {j} r h x e =
    let q : at + (j + 1) ≡ suc (at + j) = omega arith in
    record {
      below = omega arith;
      len = length-set l (at + j) x ∙ r.len;
      rest = r.rest ∙ rw (drop-cons v j 0 h, q, e, add-one j);
      ahead = rw q (drop-set-lt (suc (at + j)) l (at + j) x (omega arith) ∙ one r.ahead);
    }
  where
    one : drop (at + j) l ≡ drop (at + j) o → drop (suc (at + j)) l ≡ drop (suc (at + j)) o
    one a = let q : at + j + 1 ≡ suc (at + j) = omega arith in
        rw (← q, ← drop-drop 1 (at + j) l, ← drop-drop 1 (at + j) o) (ap (drop 1) a)

pub writing-all : {v o : List ℕ} {at : ℕ} {l : List ℕ} {j : ℕ} → Writing v o at l j → length v ≤ j → l ≡ sets o at v
writing-all {v} {o} {at} {l} {j} r h = sym (r.rest ∙ ap (sets l (at + j)) (drop_of_length-le v {i = j} h))

-- what is still to be moved stands as it stood
pub moved-byte : (o l : List ℕ) (at gap n j : ℕ) → Writing (take n (drop (at + gap) o)) o at l j → j < n
    → get_or l (at + gap + j) 0 ≡ get_or (take n (drop (at + gap) o)) j 0
moved-byte o l at gap n j r h =
    let q : at + gap + j ≡ at + j + gap = omega arith in
    rw (
      get_or-take n (drop (at + gap) o) j 0 h,
      get_or-drop (at + gap) o j 0,
      q,
      ← get_or-drop (at + j) l gap 0,
      ← get_or-drop
          (at + j) o gap 0,
      r.ahead,
    )
