-- The asset store's bytes stand for the reference model's T, and stay so. Ids and bodies are one proof over the cell's width.
use mathlib.Core.Path.{◌≡◌, refl, sym, ap, ◌∙◌, subst}
use mathlib.Core.Logic.{◌≢◌, ◌⊎◌, inl, inr}
use mathlib.Core.Bool.{Bool, true, false, cond, ◌&&◌, false≢true}
use Prim.Native.Nat.{ℕ, zero, suc, ◌+◌, ◌-◌, ◌*◌, ◌/◌, ◌%◌, ◌≤◌, ◌<◌}
use native.Mathlib.Nat.{suc-mul, add-mul, zero-mul, add-zero, zero-add, div-add-mod'}
use native.Mathlib.Omega.{arith}
use mathlib.Core.List.{List, [], ◌∷◌, ◌++◌, append_assoc, append-nil}
use lib.Dec.{leb, ltb, eqb}
use lib.ListN.{length, get_or, set, take, drop, replicate, length-append, length-replicate, length-take, length-drop, replicate-append-replicate, drop_of_length-le, take-append-drop}
use lib.Seq.{split_at, append_snoc, take_at, drop_at, length-take-le, take-length, get_or-take, get_or-drop, drop-drop}
use borrow.Author.Tests.{le-leb, leb-true, ltb-true, ltb-false, lt-leb, eq-eqb, ne_eqb}
use Rattle.std.specs.List.{AllByRecursion as Each, flat_map as cells}
use Rattle.std.proofs.lemmas.Grind.{flat_map-append}
use Rattle.spec.specs.Words.{first_where}
use Rattle.spec.specs.Bytes.{text_byte, id_byte, all, same, pad}
use Rattle.spec.specs.Assets.{max_body, capacity, used, ids_at, bodies_at, cell, id_cell, body_cell, asset_head_ok, id_ok, find, given_up, renew, used_after, out_for, cell_for, store_cells, start_assets, body_start, length_at, length_ok}
use Rattle.history.specs.Calls.{find_all}
use Rattle.history.specs.Reference.{Held, place, holds, without, make_room, content_at, places_of}
use Rattle.spec.proofs.Words.{and_left, and_right, by_cond}
use Rattle.spec.proofs.Elements.{each-imp, each-append, each-parts, each-at}
use Rattle.spec.proofs.Assets.{id-max}
use Rattle.spec.proofs.Bytes.{same_refl, same_true}

-- no asset
abbrev no_asset : Held
no_asset = record { id = []; content = [] }

-- ---- the bytes that stand for T

abbrev id_of : Held → List ℕ
id_of t = id_cell t.id

abbrev body_for : Held → List ℕ
body_for t = body_cell t.content

abbrev region : (Held → List ℕ) → ℕ → ℕ → List Held → List ℕ
region f w A T = cells f T ++ replicate ((A - length T) * w) 0

unfoldable pub encode : ℕ → List Held → List ℕ
encode A T = (A ∷ length T ∷ []) ++ (region id_of 32 A T ++ region body_for 512 A T)

-- each cell of T is w bytes
abbrev Wide : (Held → List ℕ) → ℕ → List Held → Type 0
Wide f w = Each (λ t. length (f t) ≡ w)

length-cells : (f : Held → List ℕ) (w : ℕ) (T : List Held) → Wide f w T → length (cells f T) ≡ length T * w
length-cells f w [] h = sym (zero-mul w)
length-cells f w (t ∷ T) h = length-append (f t) (cells f T) ∙ omega (arith, h.0, length-cells f w T h.1, suc-mul (length T) w)

-- a cell X between L and M is given up, and c goes behind M
renew-split : (w b out n : ℕ) (c L X M R : List ℕ) → length L ≡ b + out * w → length X ≡ w → length M ≡ (n - suc out) * w → suc out ≤ n
    → renew w b out n c (L ++ (X ++ (M ++ R))) ≡ L ++ (M ++ (c ++ R))
unfolding renew
renew-split w b out n c L X M R hL hX hM h =
    let d1 : drop (b + suc out * w) (L ++ (X ++ (M ++ R))) ≡ M ++ R =
    ap (drop (b + suc out * w)) (sym (append_assoc L X (M ++ R)))
    ∙ drop_at (L ++ X) (M ++ R) (b + suc out * w) (length-append L X ∙ omega (arith, suc-mul out w)) in
    let d2 : drop (b + n * w) (L ++ (X ++ (M ++ R))) ≡ R =
    ap (drop (b + n * w)) (sym (append_assoc L X (M ++ R)) ∙ sym (append_assoc (L ++ X) M R))
    ∙ drop_at (L ++ X ++ M) R (b + n * w) (length-append (L ++ X) M ∙ omega (arith, length-append L X, suc-mul out w, split)) in
    rw (take_at L (X ++ (M ++ R)) (b + out * w) hL, d1, d2, take_at M R ((n - suc out) * w) hM)
  where
    split : n * w ≡ suc out * w + (n - suc out) * w
    split = let q : n ≡ suc out + (n - suc out) = omega arith in ap (λ (x : ℕ). x * w) q ∙ add-mul (suc out) (n - suc out) w

zs : ℕ → List ℕ
zs n = replicate n 0

-- the run of cells of T, between P and S: x goes, t comes
renew-inner : (f : Held → List ℕ) (w b k : ℕ) (x t : Held) (T₁ T₂ : List Held) (P S : List ℕ) → Wide f w (T₁ ++ (x ∷ T₂)) → length P ≡ b
    → renew w b (length T₁) (suc (length T₁ + length T₂)) (f t) (P ++ (cells f (T₁ ++ (x ∷ T₂)) ++ (zs k ++ S))) ≡ P ++ (cells f (T₁ ++ T₂ ++ (t ∷ [])) ++ (zs k ++ S))
renew-inner f w b k x t T₁ T₂ P S hw hP =
    let w2 : Wide f w (x ∷ T₂) = (each-parts _ T₁ (x ∷ T₂) hw).1 in
    let l : length (P ++ cells f T₁) ≡ b + length T₁ * w =
    length-append P (cells f T₁) ∙ omega (arith, hP, length-cells f w T₁ (each-parts _ T₁ (x ∷ T₂) hw).0) in
    let q : suc (length T₁ + length T₂) - suc (length T₁) ≡ length T₂ = omega arith in
    ap (renew w b (length T₁) (suc (length T₁ + length T₂)) (f t)) (simp (flat_map-append, append_assoc))
    ∙ renew-split w b (length T₁) (suc (length T₁ + length T₂)) (f t) (P ++ cells f T₁) (f x) (cells f T₂) (zs k ++ S) l w2.0
    (rw q (length-cells f w T₂ w2.1)) (omega arith)
    ∙ simp (flat_map-append, append_assoc, append-nil)

-- there is room: t comes
renew-last : (f : Held → List ℕ) (w b k : ℕ) (t : Held) (T : List Held) (P S : List ℕ) → Wide f w T → length P ≡ b
    → renew w b (length T) (suc (length T)) (f t) (P ++ (cells f T ++ (zs (w + k) ++ S))) ≡ P ++ (cells f (T ++ (t ∷ [])) ++ (zs k ++ S))
unfolding zs
renew-last f w b k t T P S hw hP =
    let l : length (P ++ cells f T) ≡ b + length T * w = length-append P (cells f T) ∙ omega (arith, hP, length-cells f w T hw) in
    let q : suc (length T) - suc (length T) ≡ 0 = omega arith in
    ap (renew w b (length T) (suc (length T)) (f t)) (rw (sym (replicate-append-replicate {A = ℕ} w k 0)) (simp append_assoc))
    ∙ renew-split w b (length T) (suc (length T)) (f t) (P ++ cells f T) (zs w) [] (zs k ++ S) l (length-replicate {A = ℕ} w 0)
    (rw q (sym (zero-mul w))) (omega arith)
    ∙ simp (flat_map-append, append_assoc, append-nil)

-- ---- an id is found by its padded cell
abbrev Nz : List ℕ → Type 0
Nz = Each (λ x. x ≢ 0)

same-zeros : (xs ys : List ℕ) (i j : ℕ) → Nz xs → Nz ys → length xs + i ≡ length ys + j → same (xs ++ zs i) (ys ++ zs j) ≡ same xs ys
unfolding same zs
same-zeros [] [] i j hx hy e = let q : i ≡ j = omega arith in rw q (same_refl (replicate j 0))
same-zeros [] (y ∷ ys) zero j hx hy e = absurd (omega arith)
same-zeros [] (y ∷ ys) (suc i) j hx hy e = rw (ne_eqb 0 y (λ q. hy.0 (sym q)))
same-zeros (x ∷ xs) [] i zero hx hy e = absurd (omega arith)
same-zeros (x ∷ xs) [] i (suc j) hx hy e = rw (ne_eqb x 0 hx.0)
same-zeros (x ∷ xs) (y ∷ ys) i j hx hy e = rw (same-zeros xs ys i j hx.1 hy.1 (omega arith))

-- what every asset in T is
abbrev pub Storable : Held → Type 0
Storable t = (id_ok t.id ≡ true) × (1 ≤ length t.content) × (length t.content ≤ max_body)

abbrev pub AllStorable : List Held → Type 0
AllStorable = Each Storable

byte-nz : (x : ℕ) → id_byte x ≡ true → x ≢ 0
unfolding id_byte text_byte
byte-nz x e q =
    let l : 33 ≤ x = leb-true 33 x (and_left (leb 33 x) (leb x 126) (and_left (leb 33 x && leb x 126) _ e)) in
    omega arith

all-nz : (xs : List ℕ) → all id_byte xs ≡ true → Nz xs
unfolding all
all-nz [] e = tt
all-nz (x ∷ xs) e = (byte-nz x (and_left (id_byte x) (all id_byte xs) e), all-nz xs (and_right (id_byte x) (all id_byte xs) e))

id-nz : (id : List ℕ) → id_ok id ≡ true → Nz id
unfolding id_ok
id-nz id e = all-nz id (and_right (leb (length id) 32) _ (and_right (leb 1 (length id)) _ e))

eq-cells : (x y : List ℕ) → id_ok x ≡ true → id_ok y ≡ true → same (pad 32 x) (pad 32 y) ≡ same x y
unfolding zs
eq-cells x y hx hy = same-zeros x y (32 - length x) (32 - length y) (id-nz x hx) (id-nz y hy) (omega (arith, id-max x hx, id-max y hy))

wide-id : (T : List Held) → AllStorable T → Wide id_of 32 T
wide-id =
    each-imp
    (λ t h.
    length-append t.id (replicate (32 - length t.id) 0) ∙ omega (arith, length-replicate {A = ℕ} (32 - length t.id) 0, id-max t.id h.0))

wide-body : (T : List Held) → AllStorable T → Wide body_for 512 T
wide-body =
    each-imp
    (λ t h.
    length-append ((length t.content / 256) ∷ (length t.content % 256) ∷ t.content) (replicate (512 - suc (suc (length t.content))) 0)
    ∙ omega (arith, length-replicate {A = ℕ} (512 - suc (suc (length t.content))) 0, h.2))

-- cell i of a run
cell_at : (f : Held → List ℕ) (w b : ℕ) (x : Held) (T₁ T₂ : List Held) (P R : List ℕ) → Wide f w (T₁ ++ (x ∷ T₂)) → length P ≡ b
    → cell w b (length T₁) (P ++ (cells f (T₁ ++ (x ∷ T₂)) ++ R)) ≡ f x
cell_at f w b x T₁ T₂ P R hw hP =
    let l : length (P ++ cells f T₁) ≡ b + length T₁ * w =
    length-append P (cells f T₁) ∙ omega (arith, hP, length-cells f w T₁ (each-parts _ T₁ (x ∷ T₂) hw).0) in
    let e : P ++ (cells f (T₁ ++ (x ∷ T₂)) ++ R) ≡ (P ++ cells f T₁) ++ (f x ++ (cells f T₂ ++ R)) = simp (flat_map-append, append_assoc) in
    rw (e, drop_at (P ++ cells f T₁) (f x ++ (cells f T₂ ++ R)) (b + length T₁ * w) l) (take_at (f x) (cells f T₂ ++ R) w (each-parts _ T₁ (x ∷ T₂) hw).1.0)

-- cell i holds the id
abbrev holds_id : List ℕ → List ℕ → ℕ → Bool
holds_id bs id i = same (cell 32 ids_at i bs) (id_cell id)

find-cell : (id : List ℕ) (T₂ T₁ : List Held) (P R : List ℕ) → id_ok id ≡ true → AllStorable (T₁ ++ T₂) → length P ≡ 2
    → first_where (holds_id (P ++ (cells id_of (T₁ ++ T₂) ++ R)) id) (length T₂) (length T₁) ≡ length T₁ + place id T₂
unfolding first_where place
find-cell id [] T₁ P R ht h hP = sym (add-zero (length T₁))
find-cell id (x ∷ T₂) T₁ P R ht h hP =
    rw (cell_at id_of 32 2 x T₁ T₂ P R (wide-id (T₁ ++ (x ∷ T₂)) h) hP, eq-cells x.id id (each-parts Storable T₁ (x ∷ T₂) h).1.0.0 ht)
    (let q : T₁ ++ (x ∷ []) ++ T₂ ≡ T₁ ++ (x ∷ T₂) = append_snoc T₁ x T₂ in
    let l : length (T₁ ++ (x ∷ [])) ≡ suc (length T₁) = omega (arith, length-append T₁ (x ∷ [])) in
    go (same x.id id) (rw (q, l) at (find-cell id T₂ (T₁ ++ (x ∷ [])) P R ht (subst AllStorable (sym q) h) hP)))
  where
    bs : List ℕ
    bs = P ++ (cells id_of (T₁ ++ (x ∷ T₂)) ++ R)

    go : (b : Bool) → first_where (holds_id bs id) (length T₂) (suc (length T₁)) ≡ suc (length T₁) + place id T₂
        → cond b (length T₁) (first_where (holds_id bs id) (length T₂) (suc (length T₁))) ≡ length T₁ + cond b 0 (suc (place id T₂))
    go true ih = sym (add-zero (length T₁))
    go false ih = omega arith

-- ---- store-asset
abbrev Renews : ℕ → ℕ → ℕ → Held → List Held → List Held → Type 0
Renews A out n t T T' =
    (f : Held → List ℕ) (w b : ℕ) (P S : List ℕ) → Wide f w T → length P ≡ b
    → renew w b out n (f t) (P ++ (cells f T ++ (zs ((A - length T) * w) ++ S))) ≡ P ++ (cells f T' ++ (zs ((A - length T') * w) ++ S))

renews-inner : (A : ℕ) (x t : Held) (T₁ T₂ : List Held)
    → Renews A (length T₁) (suc (length T₁ + length T₂)) t (T₁ ++ (x ∷ T₂)) (T₁ ++ T₂ ++ (t ∷ []))
renews-inner A x t T₁ T₂ f w b P S hw hP =
    let q : length (T₁ ++ T₂ ++ (t ∷ [])) ≡ length (T₁ ++ (x ∷ T₂)) =
    omega (arith, length-append (T₁ ++ T₂) (t ∷ []), length-append T₁ T₂, length-append T₁ (x ∷ T₂)) in
    rw q (renew-inner f w b ((A - length (T₁ ++ (x ∷ T₂))) * w) x t T₁ T₂ P S hw hP)

renews-last : (A : ℕ) (t : Held) (T : List Held) → length T < A → Renews A (length T) (suc (length T)) t T (T ++ (t ∷ []))
renews-last A t T h f w b P S hw hP =
    let l : length (T ++ (t ∷ [])) ≡ suc (length T) = omega (arith, length-append T (t ∷ [])) in
    let q : A - length T ≡ suc (A - suc (length T)) = omega arith in
    let q' : (A - length T) * w ≡ w + (A - suc (length T)) * w = rw q (omega (arith, suc-mul (A - suc (length T)) w)) in
    rw (l, q') (renew-last f w b ((A - suc (length T)) * w) t T P S hw hP)

renew-both : (A out n : ℕ) (t : Held) (T T' : List Held) → Renews A out n t T T' → AllStorable T → AllStorable T' → n ≡ length T' → length T' ≤ A
    → set (renew 512 (2 + A * 32) out n (body_for t) (renew 32 2 out n (id_of t) (encode A T))) 1 n ≡ encode A T'
unfolding zs encode
renew-both A out n t T T' E h h' hn hA =
    ap (λ (x : List ℕ). set (renew 512 (2 + A * 32) out n (body_for t) x) 1 n)
    (ap (renew 32 2 out n (id_of t)) (rw (append_assoc (cells id_of T) (zs ((A - length T) * 32)) RB))
    ∙ E id_of 32 2 hd RB (wide-id T h) refl
    ∙ simp (append_assoc, append-nil))
    ∙ ap (λ (x : List ℕ). set x 1 n) (E body_for 512 (2 + A * 32) P2 [] (wide-body T h) l2)
    ∙ rw hn (simp (append_assoc, append-nil))
  where
    hd : List ℕ
    hd = A ∷ length T ∷ []

    RB : List ℕ
    RB = cells body_for T ++ zs ((A - length T) * 512)

    P2 : List ℕ
    P2 = hd ++ (cells id_of T' ++ zs ((A - length T') * 32))

    l2 : length P2 ≡ 2 + A * 32
    l2 = omega (arith, length-append (cells id_of T') (zs ((A - length T') * 32)), length-cells id_of 32 T' (wide-id T' h'), length-replicate {A = ℕ} ((A - length T') * 32) 0)

place-le : (id : List ℕ) (T : List Held) → place id T ≤ length T
unfolding place
place-le id [] = omega arith
place-le id (t ∷ T) = go (same t.id id) (place-le id T)
  where
    go : (b : Bool) → place id T ≤ length T → cond b 0 (suc (place id T)) ≤ suc (length T)
    go true h = omega arith
    go false h = omega arith

-- the cell given up is a used one, or the next while there is room
abbrev Room : ℕ → ℕ → ℕ → Type 0
Room A u out = (out < u) ⊎ ((out ≡ u) × (u < A))

given-up : (A u i : ℕ) → 0 < A → i ≤ u → u ≤ A → Room A u (given_up A u i)
given-up A u i hA h l =
    by_cond (Room A u) (ltb i u) _ _
    (λ p. inl (ltb-true i u p))
    (λ p. by_cond (Room A u) (ltb u A) _ _ (λ q. inr (refl, ltb-true u A q)) (λ q. inl (omega (arith, ltb-false u A q))))

-- the bytes after cell `out` was given up
abbrev after : ℕ → ℕ → Held → List Held → List ℕ
after A out t T =
    let n = used_after (length T) out in
    set (renew 512 (2 + A * 32) out n (body_for t) (renew 32 2 out n (id_of t) (encode A T))) 1 n

-- the bytes stand for T, which fits and is right
abbrev pub Stands : ℕ → List ℕ → List Held → Type 0
Stands A bs T = (bs ≡ encode A T) × (length T ≤ A) × AllStorable T

-- cell `out` of T is given up and t goes last
abbrev renewed : ℕ → Held → List Held → List Held
renewed out t T = without out T ++ (t ∷ [])

after-inner : (A : ℕ) (x t : Held) (T₁ T₂ : List Held) → length (T₁ ++ (x ∷ T₂)) ≤ A → Storable t → AllStorable (T₁ ++ (x ∷ T₂))
    → Stands A (after A (length T₁) t (T₁ ++ (x ∷ T₂))) (T₁ ++ T₂ ++ (t ∷ []))
after-inner A x t T₁ T₂ hA ht h =
    let l : length (T₁ ++ (x ∷ T₂)) ≡ suc (length T₁ + length T₂) = omega (arith, length-append T₁ (x ∷ T₂)) in
    let l' : suc (length T₁ + length T₂) ≡ length (T₁ ++ T₂ ++ (t ∷ [])) = omega (arith, length-append (T₁ ++ T₂) (t ∷ []), length-append T₁ T₂) in
    let k = each-parts Storable T₁ (x ∷ T₂) h in
    let h' : AllStorable (T₁ ++ T₂ ++ (t ∷ [])) = each-append Storable (T₁ ++ T₂) (t ∷ []) (each-append Storable T₁ T₂ k.0 k.1.1) (ht, tt) in
    let z : eqb (length T₁) (length (T₁ ++ (x ∷ T₂))) ≡ false = ne_eqb (length T₁) (length (T₁ ++ (x ∷ T₂))) (omega arith) in (
      rw z
          (renew-both A (length T₁) (length (T₁ ++ (x ∷ T₂))) t (T₁ ++ (x ∷ T₂)) (T₁ ++ T₂ ++ (t ∷ []))
          (subst (λ (n : ℕ). Renews A (length T₁) n t (T₁ ++ (x ∷ T₂)) (T₁ ++ T₂ ++ (t ∷ []))) (sym l) (renews-inner A x t T₁ T₂)) h h' (l ∙ l') (omega arith)),
      omega arith,
      h',
    )

after_last : (A : ℕ) (t : Held) (T : List Held) → length T < A → Storable t → AllStorable T → Stands A (after A (length T) t T) (T ++ (t ∷ []))
after_last A t T hA ht h =
    let l' : suc (length T) ≡ length (T ++ (t ∷ [])) = omega (arith, length-append T (t ∷ [])) in
    let h' : AllStorable (T ++ (t ∷ [])) = each-append Storable T (t ∷ []) h (ht, tt) in
    (rw (eq-eqb (length T) (length T) refl) (renew-both A (length T) (suc (length T)) t T (T ++ (t ∷ [])) (renews-last A t T hA) h h' l' (omega arith)), omega arith, h')

after_any : (A out : ℕ) (t : Held) (T : List Held) → length T ≤ A → Storable t → AllStorable T → (out < length T) ⊎ ((out ≡ length T) × (length T < A))
    → Stands A (after A out t T) (renewed out t T)
after_any A out t T hT ht h (inl l) =
    let x : Held = get_or T out no_asset in
    let q : T ≡ take out T ++ (x ∷ drop (suc out) T) = split_at T out no_asset l in
    let e : length (take out T) ≡ out = length-take-le out T (omega arith) in
    subst (λ (k : ℕ). Stands A (after A k t T) (renewed out t T)) e
    (subst (λ (K : List Held). Stands A (after A (length (take out T)) t K) (renewed out t T)) (sym q)
    (after-inner A x t (take out T) (drop (suc out) T) (subst (λ (K : List Held). length K ≤ A) q hT) ht (subst AllStorable q h)))
after_any A out t T hT ht h (inr e) =
    let q : take (length T) T ++ drop (suc (length T)) T ++ (t ∷ []) ≡ T ++ (t ∷ []) =
    rw (take-length T, drop_of_length-le T {i = suc (length T)} (omega arith), append-nil T) in
    rw e.0 (subst (λ (K : List Held). Stands A (after A (length T) t T) K) (sym q) (after_last A t T e.1 ht h))

-- ---- find

find-right : (A : ℕ) (id : List ℕ) (T : List Held) → id_ok id ≡ true → AllStorable T
    → first_where (holds_id (encode A T) id) (length T) 0 ≡ place id T
unfolding zs encode
find-right A id T ht h =
    ap (λ (x : List ℕ). first_where (holds_id ((A ∷ length T ∷ []) ++ x) id) (length T) 0)
    (append_assoc (cells id_of T) (zs ((A - length T) * 32)) (region body_for 512 A T))
    ∙ find-cell id T [] (A ∷ length T ∷ []) (zs ((A - length T) * 32) ++ region body_for 512 A T) ht h refl
    ∙ zero-add (place id T)

-- an id that is none isn't in T
place-wrong : (id : List ℕ) (T : List Held) → id_ok id ≡ false → AllStorable T → place id T ≡ length T
unfolding place
place-wrong id [] e h = refl
place-wrong id (t ∷ T) e h = go (same t.id id) refl (place-wrong id T e h.1)
  where
    go : (b : Bool) → same t.id id ≡ b → place id T ≡ length T → cond b 0 (suc (place id T)) ≡ suc (length T)
    go true q ih = absurd (false≢true (sym e ∙ ap id_ok (sym (same_true t.id id q)) ∙ h.0.0))
    go false q ih = ap suc ih

encoded-used : (A : ℕ) (T : List Held) → used (encode A T) ≡ length T
unfolding encode
encoded-used A T = refl

encoded-capacity : (A : ℕ) (T : List Held) → capacity (encode A T) ≡ A
unfolding encode
encoded-capacity A T = refl

pub find-is : (A : ℕ) (id : List ℕ) (T : List Held) → AllStorable T → find (encode A T) id ≡ place id T
unfolding find
find-is A id T h = rw (encoded-used A T) (go (id_ok id) refl)
  where
    go : (t : Bool) → id_ok id ≡ t → cond t (first_where (holds_id (encode A T) id) (length T) 0) (length T) ≡ place id T
    go true e = find-right A id T e h
    go false e = sym (place-wrong id T e h)

pub find-all : (A : ℕ) (ids : List (List ℕ)) (T : List Held) → AllStorable T → find_all (encode A T) ids ≡ places_of T ids
unfolding find_all places_of
find-all A [] T h = refl
find-all A (id ∷ ids) T h = rw (find-is A id T h, find-all A ids T h)

-- ---- store-asset

-- what makes room in T is the cell given up
room-is : (A : ℕ) (id : List ℕ) (T : List Held) → make_room A id T ≡ without (given_up A (length T) (place id T)) T
room-is A id T = go (holds id T) (ltb (length T) A) refl
  where
    go : (a b : Bool) → ltb (length T) A ≡ b
        → cond a (without (place id T) T) (cond (leb A (length T)) (drop 1 T) T) ≡ without (cond a (place id T) (cond b (length T) 0)) T
    go true b e = refl
    go false true e =
        rw (lt-leb A (length T) (ltb-true (length T) A e), take-length T, drop_of_length-le T {i = suc (length T)} (omega arith)) (sym (append-nil T))
    go false false e = rw (le-leb A (length T) (ltb-false (length T) A e))

module _ (A : ℕ) (t : Held) (T : List Held) (hA : 0 < A) (hT : length T ≤ A) (ht : Storable t) (h : AllStorable T) where
  out : ℕ
  out = given_up A (length T) (place t.id T)

  out_cases : (out < length T) ⊎ ((out ≡ length T) × (length T < A))
  unfolding out
  out_cases = given-up A (length T) (place t.id T) hA (place-le t.id T) hT

  out-is : out_for t.id (encode A T) ≡ out
  unfolding out
  out-is = rw (encoded-capacity A T, encoded-used A T, find-is A t.id T h)

  pub store-cells : Stands A (store_cells t.id t.content (encode A T)) (make_room A t.id T ++ (t ∷ []))
  unfolding store_cells out
  store-cells =
      rw (out-is, encoded-used A T, encoded-capacity A T, room-is A t.id T) (after_any A out t T hT ht h out_cases)

  used-is : (used_after (length T) out ≡ length (renewed out t T))
  unfolding out
  used-is = go out_cases
    where
      go : (out < length T) ⊎ ((out ≡ length T) × (length T < A)) → used_after (length T) out ≡ length (renewed out t T)
      go (inl l) =
          rw (ne_eqb out (length T) (omega arith))
          (omega (arith, length-append (without out T) (t ∷ []), length-append (take out T) (drop (suc out) T), length-take out T, length-drop (suc out) T))
      go (inr e) =
          rw (eq-eqb out (length T) e.0)
          (omega (arith, e.0, length-append (without out T) (t ∷ []), length-append (take out T) (drop (suc out) T), length-take out T, length-drop (suc out) T))

  pub cell-is : cell_for t.id (encode A T) ≡ length (make_room A t.id T ++ (t ∷ [])) - 1
  unfolding cell_for out
  cell-is = rw (out-is, encoded-used A T, room-is A t.id T) (ap (λ (n : ℕ). n - 1) used-is)

-- ---- reading bodies

get-cell : (w b i j : ℕ) (bs : List ℕ) → j < w → get_or bs (b + i * w + j) 0 ≡ get_or (cell w b i bs) j 0
get-cell w b i j bs h = sym (get_or-take w (drop (b + i * w) bs) j 0 h ∙ get_or-drop (b + i * w) bs j 0)

module _ (A : ℕ) (T : List Held) (i : ℕ) (l : i < length T) (hT : length T ≤ A) (h : AllStorable T) where
  body_at : cell 512 (bodies_at A) i (encode A T) ≡ body_for (get_or T i no_asset)
  unfolding zs encode
  body_at =
      let x : Held = get_or T i no_asset in
      let q : T ≡ take i T ++ (x ∷ drop (suc i) T) = split_at T i no_asset l in
      let e : length (take i T) ≡ i = length-take-le i T (omega arith) in
      ap (cell 512 (2 + A * 32) i) (sym (append_assoc hd (region id_of 32 A T) (region body_for 512 A T)))
      ∙ subst (λ (k : ℕ). cell 512 (2 + A * 32) k (P ++ (cells body_for T ++ R)) ≡ body_for x) e
      (subst (λ (K : List Held). cell 512 (2 + A * 32) (length (take i T)) (P ++ (cells body_for K ++ R)) ≡ body_for x) (sym q)
      (cell_at body_for 512 (2 + A * 32) x (take i T) (drop (suc i) T) P R (subst (Wide body_for 512) q (wide-body T h)) lP))
    where
      hd : List ℕ
      hd = A ∷ length T ∷ []

      P : List ℕ
      P = hd ++ region id_of 32 A T

      R : List ℕ
      R = zs ((A - length T) * 512)

      lP : length P ≡ 2 + A * 32
      lP = omega (arith, length-append (cells id_of T) (zs ((A - length T) * 32)), length-cells id_of 32 T (wide-id T h), length-replicate {A = ℕ} ((A - length T) * 32) 0)

  pub length-at : length_at (encode A T) i ≡ length (content_at T i)
  length-at =
      rw (encoded-capacity A T)
      (let z : bodies_at A + i * 512 ≡ bodies_at A + i * 512 + 0 = sym (add-zero (bodies_at A + i * 512)) in
      let a : get_or (encode A T) (bodies_at A + i * 512) 0 ≡ length (content_at T i) / 256 =
      ap (λ (k : ℕ). get_or (encode A T) k 0) z ∙ get-cell 512 (bodies_at A) i 0 (encode A T) (omega arith) ∙ ap (λ (c : List ℕ). get_or c 0 0) body_at in
      let b : get_or (encode A T) (bodies_at A + i * 512 + 1) 0 ≡ length (content_at T i) % 256 =
      get-cell 512 (bodies_at A) i 1 (encode A T) (omega arith) ∙ ap (λ (c : List ℕ). get_or c 1 0) body_at in
      rw (a, b) (div-add-mod' (length (content_at T i)) 256))

  pub length-ok : length_ok (length_at (encode A T) i) ≡ true
  unfolding length_ok
  length-ok =
      let k : Storable (get_or T i no_asset) = each-at Storable T i no_asset l h in
      rw (length-at, le-leb 1 (length (content_at T i)) k.1, le-leb (length (content_at T i)) max_body k.2)

  -- the body's part of the store is the body
  pub part-is : take (length (content_at T i)) (drop (body_start (encode A T) i + 2) (encode A T)) ≡ content_at T i
  part-is =
      rw (encoded-capacity A T)
      (let c : List ℕ = content_at T i in
      let z : List ℕ = replicate (512 - suc (suc (length c))) 0 in
      let X : ℕ = bodies_at A + i * 512 in
      let rest : List ℕ = drop 512 (drop X (encode A T)) in
      let e : drop X (encode A T) ≡ body_cell c ++ rest =
      sym (take-append-drop 512 (drop X (encode A T))) ∙ ap (λ (y : List ℕ). y ++ rest) body_at in
      let d : drop (X + 2) (encode A T) ≡ c ++ (z ++ rest) =
      sym (drop-drop 2 X (encode A T)) ∙ ap (drop 2) e ∙ append_assoc c z rest in
      ap (take (length c)) d ∙ take_at c (z ++ rest) (length c) refl)

-- ---- the head

pub asset-heads : (A : ℕ) (T : List Held) → 0 < A → A ≤ 128 → length T ≤ A → AllStorable T → asset_head_ok (encode A T) ≡ true
unfolding asset_head_ok encode
asset-heads A T hA hA' hT h =
    rw (le-leb 1 A hA, le-leb A 128 hA', le-leb (length T) A hT)
    (eq-eqb (length (encode A T)) (2 + A * 544)
    (omega (
      arith,
      length-append (region id_of 32 A T) (region body_for 512 A T),
      length-append (cells id_of T) (replicate ((A - length T) * 32) 0),
      length-append (cells body_for T) (replicate ((A - length T) * 512) 0),
      length-cells id_of 32 T (wide-id T h),
      length-cells body_for 512 T (wide-body T h),
      length-replicate {A = ℕ} ((A - length T) * 32) 0,
      length-replicate {A = ℕ} ((A - length T) * 512) 0,
    )))

pub start-assets : (A : ℕ) → start_assets A ≡ encode A []
unfolding start_assets encode
start-assets A =
    let q : A * 544 ≡ (A - 0) * 32 + (A - 0) * 512 = omega arith in
    ap (λ (r : List ℕ). A ∷ 0 ∷ r) (rw q (sym (replicate-append-replicate {A = ℕ} ((A - 0) * 32) ((A - 0) * 512) 0)))
