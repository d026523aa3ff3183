-- The asset store's definitions, as the code reads and writes them.
use Prim.Native.Nat.{ℕ, zero, suc, ◌+◌, ◌-◌, ◌*◌, ◌/◌, ◌%◌, ◌≤◌, ◌<◌}
use mathlib.Core.Path.{◌≡◌, refl, sym, ap, ◌∙◌}
use mathlib.Core.Bool.{Bool, true, false, ◌&&◌, not, cond, false≢true}
use mathlib.Core.List.{List, [], ◌∷◌, ◌++◌}
use native.Mathlib.Omega.{arith}
use borrow.Author.Tests.{leb-true, ltb-true, lt-ltb, le-ltb, eq-eqb, ne_eqb}
use Rattle.spec.proofs.Found.{found-is, found-not}
use lib.Dec.{leb, ltb, eqb}
use lib.ListN.{length, set, take, drop, replicate, length-drop}
use Rattle.std.proofs.lemmas.List.{drop-replicate}
use lib.Seq.{drop-drop, take_all, length-take-le}
use Rattle.spec.specs.Bytes.{same}
use Rattle.spec.specs.Assets.{id_bytes, cell_bytes, asset_bytes, max_body, capacity, used, ids_at}
use Rattle.spec.specs.Assets.{bodies_at}
use Rattle.spec.specs.Assets.{store_bytes}
use Rattle.spec.specs.Assets.{AssetHead, asset_head_ok, start_assets, id_ok, length_ok, cell, id_cell, body_cell, find}
use Rattle.spec.specs.Assets.{length_at, body_place}
use Rattle.spec.specs.Assets.{renew, used_after, out_for, cell_for, store_cells}
use Rattle.spec.proofs.Assets.{given-up-max, id-max}
use Rattle.scan.proofs.Laws.{same-is}
use Rattle.assets.specs.Cells.{with_asset}
use Rattle.std.specs.Prelude.{Option, Some, None, Result, Ok, Err, MatchResult}
use Rattle.std.specs.Result.{result_ok}
use Rattle.std.specs.Cmp.Lexicographic.{pointwise}
use Rattle.std.specs.List.{position_or_len}
use Rattle.std.specs.Simd.{first_chunks}
use Rattle.spec.specs.Found.{found_below}
use Rattle.spec.specs.declared.Refusal.{Refusal}
use Rattle.spec.specs.declared.Refusal.TheVariants.{Store as Refused}
use Rattle.std.specs.Int.{to_be_bytes}
use Rattle.std.proofs.Common.{w16}
use Rattle.spec.specs.Words.{first_where}
use Rattle.spec.proofs.Words.{and_left, and_right, not_so}

-- ---- start

pub start_is : (bs : List ℕ) (n a : ℕ) → n ≡ store_bytes a → bs ≡ replicate n 0 → set bs 0 a ≡ start_assets a
unfolding start_assets
start_is bs n a h e = let q : n ≡ suc (suc (a * asset_bytes)) = omega arith in rw (e, q)

-- ---- bodies

-- the two bytes of a body's length, the high one first
pub length-bytes : (n : ℕ) → n ≤ max_body → to_be_bytes w16 n ≡ (n / 256) ∷ (n % 256) ∷ []
length-bytes n h = let high : n / 256 % 256 ≡ n / 256 = omega arith in rw high

-- ---- find

-- an id has its place in a cell's bytes
pub id-front : (id bs : List ℕ) → id_ok id ≡ true → length bs ≡ id_bytes → length (take (length id) bs) ≡ length id
id-front id bs e h = length-take-le (length id) bs (omega (arith, id-max id e))

pub ruleset ids = (id-max, id-front)

-- the id, written over the front of zeros
pub key-is : (id front : List ℕ) → front ≡ id → front ++ drop (length id) (replicate id_bytes 0) ≡ id_cell id
key-is id front e = rw (e, drop-replicate {X = ℕ} (length id) id_bytes 0)

-- a test of the first u chunks
first-on : (p q : ℕ → Bool) → ((i : ℕ) → p (suc i) ≡ q i) → (n i : ℕ) → first_where p n (suc i) ≡ suc (first_where q n i)
unfolding first_where
first-on p q e zero i = refl
first-on p q e (suc n) i = rw (e i, first-on p q e n (suc i)) (go (q i))
  where
    go : (t : Bool) → cond t (suc i) (suc (first_where q n (suc i))) ≡ suc (cond t i (first_where q n (suc i)))
    go true = refl
    go false = refl

first-same : (p q : ℕ → Bool) → ((i : ℕ) → p i ≡ q i) → (n i : ℕ) → first_where p n i ≡ first_where q n i
unfolding first_where
first-same p q e zero i = refl
first-same p q e (suc n) i = rw (e i, first-same p q e n (suc i))

first-chunk : (q : List ℕ → Bool) (w k u : ℕ) (xs : List ℕ) → u ≤ k
    → position_or_len q (take u (first_chunks w k xs)) ≡ first_where (λ i. q (take w (drop (w * i) xs))) u 0
unfolding first_where
first-chunk q w k zero xs h = refl
first-chunk q w zero (suc u) xs h = absurd (omega arith)
first-chunk q w (suc k) (suc u) xs h =
    let z : w * 0 ≡ 0 = omega arith in
    let next : (i : ℕ) → q (take w (drop (w * suc i) xs)) ≡ q (take w (drop (w * i) (drop w xs))) =
    λ i. rw (drop-drop (w * i) w xs) (ap (λ (j : ℕ). q (take w (drop j xs))) (omega arith)) in
    rw (z, first-chunk q w k u (drop w xs) (omega arith))
    (go (q (take w xs)) _ _
    (first-on (λ i. q (take w (drop (w * i) xs))) (λ i. q (take w (drop (w * i) (drop w xs)))) next u 0))
  where
    go : (t : Bool) (a b : ℕ) → a ≡ suc b → cond (not t) (1 + b) 0 ≡ cond t 0 a
    go true a b e = refl
    go false a b e = omega arith

-- the id cells are the first chunks behind the head, and each is compared with the id's own cell
pub find-is : (bs id key rest : List ℕ) (k : ℕ) → id_ok id ≡ true → key ≡ id_cell id
    → rest ≡ drop ids_at bs → used bs ≤ k
    → position_or_len (λ c. pointwise eqb c key) (take (used bs) (first_chunks id_bytes k rest)) ≡ find bs id
unfolding find
find-is bs id key rest k h e d l =
    let is : (i : ℕ) → pointwise eqb (take id_bytes (drop (id_bytes * i) rest)) key
    ≡ same (cell id_bytes ids_at i bs) (id_cell id) =
    λ i.
    rw (e, d, drop-drop (id_bytes * i) ids_at bs)
    (same-is _ _ ∙ ap (λ (j : ℕ). same (take id_bytes (drop j bs)) (id_cell id)) (omega arith)) in
    first-chunk (λ c. pointwise eqb c key) id_bytes k (used bs) rest l
    ∙ first-same _ (λ i. same (cell id_bytes ids_at i bs) (id_cell id)) is (used bs) 0
    ∙ rw h

-- what the library's search over the cells gives
pub found-cell : (bs id key rest : List ℕ) (ids cells : List (List ℕ)) (r : Option ℕ) → id_ok id ≡ true
    → key ≡ id_cell id → rest ≡ take (length bs - ids_at) (drop ids_at bs)
    → ids ≡ first_chunks id_bytes (length rest / id_bytes) rest → length ids ≡ length rest / id_bytes
    → cells ≡ take (used bs) ids → AssetHead bs
    → r ≡ (let n = position_or_len (λ c. pointwise eqb c key) cells in cond (ltb n (length cells)) (Some n) None)
    → r ≡ found_below (used bs) (find bs id)
found-cell bs id key rest ids cells r h e d f g l head p =
    let whole : rest ≡ drop ids_at bs = d ∙ take_all (length bs - ids_at) (drop ids_at bs) (omega (arith, length-drop ids_at bs)) in
    let n : length rest + ids_at ≡ length bs = omega (arith, ap length whole, length-drop ids_at bs, head.len) in
    let fit : used bs ≤ length rest / id_bytes = omega (arith, head.len, head.u_max) in
    let few : length cells ≡ used bs = ap length l ∙ length-take-le (used bs) ids (omega arith) in
    p ∙ rw (few, l, f, find-is bs id key rest (length rest / id_bytes) h e whole fit)

-- an id that is no id finds nothing
pub no-id : (bs id : List ℕ) (u : ℕ) → u ≡ used bs → id_ok id ≡ false → u ≡ find bs id
unfolding find
no-id bs id u e h = rw h e

-- ---- the place of a body

pub length-pos : (n : ℕ) → length_ok n ≡ true → 1 ≤ n
unfolding length_ok
length-pos n e = leb-true 1 n (and_left (leb 1 n) _ e)

pub length-max : (n : ℕ) → length_ok n ≡ true → n ≤ max_body
unfolding length_ok
length-max n e = leb-true n max_body (and_right (leb 1 n) _ e)

-- any fault gives nothing
pub no_place_lem : (bs id : List ℕ)
    → (asset_head_ok bs ≡ true → find bs id < used bs → length_ok (length_at bs (find bs id)) ≡ true → ⊥)
    → None ≡ body_place bs id
unfolding body_place
no_place_lem bs id h =
    let i = find bs id in
    let z = not_so
    (asset_head_ok bs && (ltb i (used bs) && length_ok (length_at bs i)))
    (λ e. let e1 = and_right (asset_head_ok bs) _ e in
    h (and_left _ _ e) (ltb-true _ _ (and_left _ _ e1)) (and_right (ltb i (used bs)) _ e1)) in
    rw (sym z)

-- a head that is refused
pub head-refused : {A : Type 0} {h : Bool} (P : A → Type 0) (x : Result A Refusal)
    → MatchResult x P (λ r. (r ≡ Refused) × (h ≡ false)) → result_ok x ≡ None → h ≡ false
head-refused P (Ok a) m e = absurd cc
head-refused P (Err r) m e = m.1

pub place_is : (bs id : List ℕ) (i b n : ℕ) → asset_head_ok bs ≡ true → i ≡ find bs id → i < used bs
    → b ≡ bodies_at (capacity bs) → n ≡ length_at bs i → length_ok n ≡ true
    → Some (record { start = b + i * cell_bytes + 2; len = n }) ≡ body_place bs id
unfolding body_place
place_is bs id i b n h ei l eb en g =
    let k : length_ok (length_at bs i) ≡ true = rw (sym en) g in
    rw (← ei, h, lt-ltb _ _ l, k, eb, en)

pub wrong-length : (bs id : List ℕ) (i n : ℕ) (t : Bool) → i ≡ find bs id → n ≡ length_at bs i → t ≡ length_ok n
    → t ≡ false → None ≡ body_place bs id
wrong-length bs id i n t ei en et f =
    no_place_lem bs id (λ h l g. false≢true (sym f ∙ et ∙ ap length_ok (en ∙ ap (length_at bs) ei) ∙ g))

-- ---- store

pub with-asset-is : (out n b : ℕ) (id body o l₁ l₂ : List ℕ) → b ≡ bodies_at (capacity o)
    → l₁ ≡ renew id_bytes ids_at out n (id_cell id) o → l₂ ≡ renew cell_bytes b out n (body_cell body) l₁
    → set l₂ 1 n ≡ with_asset out n id body o
unfolding with_asset
with-asset-is out n b id body o l₁ l₂ eb e₁ e₂ = rw (e₂, e₁, eb)

-- no room is left: the oldest
pub oldest-given : (bs id : List ℕ) → 1 ≤ capacity bs → None ≡ found_below (used bs) (find bs id)
    → used bs ≡ capacity bs → Some 0 ≡ found_below (used bs) (out_for id bs)
oldest-given bs id h e f =
    let n = found-not (used bs) {i = find bs id} e in
    rw (le-ltb (find bs id) (used bs) (omega arith), le-ltb (used bs) (capacity bs) (omega arith), lt-ltb 0 (used bs) (omega arith))

-- the numbers that store works out
pub record Renewal (bs id : List ℕ) (out n : ℕ) : Type 0 where
  pub out-is : out ≡ out_for id bs
  pub n-is : n ≡ used_after (used bs) (out_for id bs)

module _ {bs id : List ℕ} where
  pub some-given : {i u : ℕ} → u ≡ used bs → Some i ≡ found_below (used bs) (out_for id bs) → Renewal bs id i u
  some-given {i} {u} e f =
      let g = found-is (used bs) f in
      record { out-is = g.0; n-is = rw (ne_eqb (out_for id bs) (used bs) (λ h. omega arith)) e }

  pub none-given : {u : ℕ} → AssetHead bs → u ≡ used bs → None ≡ found_below (used bs) (out_for id bs)
      → Renewal bs id u (u + 1)
  none-given {u} h e f =
      let m = given-up-max (capacity bs) (used bs) (find bs id) h.a_pos h.u_max in
      let g = found-not (used bs) {i = out_for id bs} f in
      let q : out_for id bs ≡ used bs = omega arith in
      record { out-is = e ∙ sym q; n-is = rw (eq-eqb _ _ q) (omega arith) }

pub store_is : (bs id body l : List ℕ) (out n : ℕ) → Renewal bs id out n → l ≡ with_asset out n id body bs
    → l ≡ store_cells id body bs
unfolding with_asset store_cells
store_is bs id body l out n r e = e ∙ rw (r.n-is, r.out-is)

pub cell-for-is : (bs id : List ℕ) (out n : ℕ) → Renewal bs id out n → n - 1 ≡ cell_for id bs
unfolding cell_for
cell-for-is bs id out n r = rw r.n-is
