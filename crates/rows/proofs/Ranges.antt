-- Laws of runs of numbers, in order or in the ring: one more, and two parts.
use Prim.Native.Nat.{ℕ, zero, suc, ◌+◌, ◌-◌, ◌%◌, ◌≤◌, ◌<◌}
use Rattle.std.specs.Prelude.{min}
use mathlib.Core.Path.{◌≡◌, refl, sym, ap, ◌∙◌}
use mathlib.Core.Bool.{Bool, true, false, cond, ◌&&◌, and_assoc}
use mathlib.Core.List.{List, [], ◌∷◌, ◌++◌}
use native.Mathlib.Nat.{suc-mod, mod_self, mod-eq_of_lt, mod-add-mod}
use native.Mathlib.Numerals.{add-one}
use native.Mathlib.Omega.{arith}
use lib.ListN.{length}
use Rattle.spec.specs.Words.{every, pick_rows}
use Rattle.spec.proofs.Words.{one-more, none-left}
use Rattle.history.specs.Observations.{place}
use Rattle.rows.specs.Rows.{Unwrapped, TwoRuns}

-- ---- the numbers from s up to e: two parts, one more, and none

module _ (p : ℕ → Bool) where
  every-add : (a b s : ℕ) → every p (a + b) s ≡ every p a s && every p b (s + a)
  unfolding every
  every-add zero b s = let q : 0 + b ≡ b = omega arith in let r : s + 0 ≡ s = omega arith in rw (q, r)
  every-add (suc a) b s =
      let q : suc a + b ≡ suc (a + b) = omega arith in
      let r : suc s + a ≡ s + suc a = omega arith in
      rw (q, every-add a b (suc s), r) (sym (and_assoc (p s) (every p a (suc s)) (every p b (s + suc a))))

  pub every-split : (f g e : ℕ) → f ≤ g → g ≤ e → every p (e - f) f ≡ every p (g - f) f && every p (e - g) g
  every-split f g e h1 h2 =
      let q : e - f ≡ (g - f) + (e - g) = omega arith in
      let r : f + (g - f) ≡ g = omega arith in
      rw q (every-add (g - f) (e - g) f ∙ ap (λ (x : ℕ). every p (g - f) f && every p (e - g) x) r)

cond-append : (t : Bool) (x : List ℕ) (a b : List (List ℕ)) → cond t (x ∷ (a ++ b)) (a ++ b) ≡ cond t (x ∷ a) a ++ b
cond-append true x a b = refl
cond-append false x a b = refl

module _ (p : ℕ → Bool) (v : ℕ → List ℕ) where
  rows-add : (a b s : ℕ) → pick_rows p v (a + b) s ≡ pick_rows p v a s ++ pick_rows p v b (s + a)
  unfolding pick_rows
  rows-add zero b s = let q : 0 + b ≡ b = omega arith in let r : s + 0 ≡ s = omega arith in rw (q, r)
  rows-add (suc a) b s =
      let q : suc a + b ≡ suc (a + b) = omega arith in
      let r : suc s + a ≡ s + suc a = omega arith in
      rw (q, rows-add a b (suc s), r) (cond-append (p s) (v s) (pick_rows p v a (suc s)) (pick_rows p v b (s + suc a)))

  pub rows_in : (s e : ℕ) → s < e → p s ≡ true → pick_rows p v (e - s) s ≡ v s ∷ pick_rows p v (e - (s + 1)) (s + 1)
  unfolding pick_rows
  rows_in s e h t = rw (one-more s e h, add-one s, t)

  pub rows_out : (s e : ℕ) → s < e → p s ≡ false → pick_rows p v (e - s) s ≡ pick_rows p v (e - (s + 1)) (s + 1)
  unfolding pick_rows
  rows_out s e h t = rw (one-more s e h, add-one s, t)

  pub rows_end : (s e : ℕ) → e ≤ s → pick_rows p v (e - s) s ≡ []
  unfolding pick_rows
  rows_end s e h = rw (none-left s e h)

  pub rows_split : (f g e : ℕ) → f ≤ g → g ≤ e → pick_rows p v (e - f) f
      ≡ pick_rows p v (g - f) f ++ pick_rows p v (e - g) g
  rows_split f g e h1 h2 =
      let q : e - f ≡ (g - f) + (e - g) = omega arith in
      let r : f + (g - f) ≡ g = omega arith in
      rw q (rows-add (g - f) (e - g) f ∙ ap (λ (x : ℕ). pick_rows p v (g - f) f ++ pick_rows p v (e - g) x) r)

  pub rows_few : (n s : ℕ) → length (pick_rows p v n s) ≤ n
  unfolding pick_rows
  rows_few zero s = omega arith
  rows_few (suc n) s = go (p s) (rows_few n (suc s))
    where
      go : (t : Bool) → length (pick_rows p v n (suc s)) ≤ n
          → length (cond t (v s ∷ pick_rows p v n (suc s)) (pick_rows p v n (suc s))) ≤ suc n
      go true h = omega arith
      go false h = omega arith

-- ---- places in the ring

place-next : (s b n p : ℕ) → b ≤ s → p ≡ (s - b) % n → (p + 1) % n ≡ (s + 1 - b) % n
place-next s b n p h e =
    let q : s + 1 - b ≡ suc (s - b) = omega arith in
    rw (q, e, add-one, suc-mod (s - b) n)

-- the ring's end is place 0 again
wrapped : (f b n p : ℕ) → b ≤ f → p ≡ (f - b) % n → p < n → 0 ≡ (f + (n - p) - b) % n
wrapped f b n p h e l =
    let q : f + (n - p) - b ≡ (f - b) + (n - p) = omega arith in
    let r : p + (n - p) ≡ n = omega arith in
    sym (rw q (sym (mod-add-mod (f - b) n (n - p)) ∙ rw (← e, r, mod_self n)))

pub run-next : {N B e s q : ℕ} → Unwrapped N B e s q → s < e → Unwrapped N B e (s + 1) (q + 1)
run-next {N} {B} {e} {s} {q} r h =
    record {
      low = omega (arith, r.low);
      is =
          λ k. let o =
          r.room in sym (mod-eq_of_lt {n = q + 1} {m = N} (omega arith)) ∙ place-next s B N q r.low (r.is h);
      room = omega (arith, r.room);
    }

-- p is the place of f: up to the ring's end or to e, and from the ring's start
pub two-runs : (N B f e p g : ℕ) → B ≤ f → f ≤ e → p ≡ place N B f → p < N → e - f ≤ N → g ≡ f + min (N - p) (e - f)
    → TwoRuns N B f e (record { place = p; from = f; to = g }) (record { place = 0; from = g; to = e })
two-runs N B f e p g h le is l k eg =
    record {
      begins = refl;
      meets = refl;
      ends = refl;
      start = refl;
      low = omega arith;
      high = omega arith;
      front = record { low = h; is = λ z. is; room = omega arith };
      back =
          record {
            low = omega arith;
            is =
                λ z. let q : g ≡ f + (N - p) = omega arith in rw q (wrapped f B N p h is l);
            room = omega arith;
          };
    }
