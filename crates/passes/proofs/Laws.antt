-- The pass over the ring: one more number, parts of it, and what a run's loops know.
use Prim.Native.Nat.{ℕ, zero, suc, ◌+◌, ◌-◌, ◌≤◌, ◌<◌}
use mathlib.Core.Path.{◌≡◌, refl, sym, ap, ◌∙◌}
use mathlib.Core.Bool.{Bool, true, false, ◌&&◌, and_assoc, false≢true}
use mathlib.Core.List.{List}
use native.Mathlib.Nat.{add-sub_of_le}
use native.Mathlib.Numerals.{add-one}
use native.Mathlib.Omega.{arith}
use lib.Dec.{ltb}
use lib.ListN.{set}
use borrow.Author.Tests.{lt-ltb}
use Rattle.spec.specs.Words.{bit}
use Rattle.spec.specs.Value.{item_of}
use Rattle.spec.proofs.Words.{one-more, none-left}
use Rattle.history.specs.Observations.{ring_size, base, place}
use Rattle.observations.specs.Ring.{ring_word}
use Rattle.rows.specs.Rows.{Unwrapped}
use Rattle.rows.proofs.Ranges.{run-next}
use Rattle.rows.proofs.Laws.{word_at}
use Rattle.std.specs.Prelude.{min}
use Rattle.picks.specs.Picks.{block}
use Rattle.picks.specs.Pass.{stepped_ok, word_of, number_stepped, pass_marks, pass_ok, seen_from, Passed}
use Rattle.picks.proofs.Numbers.{seen_step, seen_end, run-add}
use Rattle.passes.specs.Passes.{Skipped}

-- ---- parts of the pass

module _ (steps m : ℕ) (st : List ℕ) (f : ℕ) where
  pub marks-add : (a b s : ℕ) (l : List (List ℕ))
      → pass_marks steps st f (a + b) s l ≡ pass_marks steps st f b (s + a) (pass_marks steps st f a s l)
  unfolding pass_marks
  marks-add zero b s l = let q : 0 + b ≡ b = omega arith in let r : s + 0 ≡ s = omega arith in rw (q, r)
  marks-add (suc a) b s l =
      let q : suc a + b ≡ suc (a + b) = omega arith in
      let r : s + suc a ≡ suc s + a = omega arith in
      rw (q, r) (marks-add a b (suc s) (number_stepped steps st f s l))

  ok_add : (a b s : ℕ) (l : List (List ℕ)) → pass_ok steps m st f (a + b) s l
      ≡ pass_ok steps m st f a s l && pass_ok steps m st f b (s + a) (pass_marks steps st f a s l)
  unfolding pass_marks pass_ok
  ok_add zero b s l = let q : 0 + b ≡ b = omega arith in let r : s + 0 ≡ s = omega arith in rw (q, r)
  ok_add (suc a) b s l =
      let q : suc a + b ≡ suc (a + b) = omega arith in
      let r : s + suc a ≡ suc s + a = omega arith in
      let l' = number_stepped steps st f s l in
      let one = ltb (item_of (word_of st s)) m in
      let fits = stepped_ok steps (item_of (word_of st s)) (word_of st s) l in
      let front = pass_ok steps m st f a (suc s) l' in
      let back = pass_ok steps m st f b (suc s + a) (pass_marks steps st f a (suc s) l') in
      rw (q, r, ok_add a b (suc s) l')
      (sym (and_assoc one (fits && front) back ∙ ap (λ (x : Bool). one && x) (and_assoc fits front back)))

  seen-add : (a b s : ℕ) (w : List ℕ) → seen_from st f (a + b) s w ≡ seen_from st f b (s + a) (seen_from st f a s w)
  unfolding seen_from
  seen-add zero b s w = let q : 0 + b ≡ b = omega arith in let r : s + 0 ≡ s = omega arith in rw (q, r)
  seen-add (suc a) b s w =
      let q : suc a + b ≡ suc (a + b) = omega arith in
      let r : s + suc a ≡ suc s + a = omega arith in
      rw (q, r) (seen-add a b (suc s) (set w (item_of (word_of st s)) (s - f + 9)))

  -- the numbers from s up to e, up to g and from it on
  module _ (s g e : ℕ) (h1 : s ≤ g) (h2 : g ≤ e) where
    all : e - s ≡ (g - s) + (e - g)
    all = omega arith

    marks-split : (l : List (List ℕ))
        → pass_marks steps st f (e - s) s l ≡ pass_marks steps st f (e - g) g (pass_marks steps st f (g - s) s l)
    marks-split l = rw all (rw (add-sub_of_le h1) at (marks-add (g - s) (e - g) s l))

    ok-split : (l : List (List ℕ)) → pass_ok steps m st f (e - s) s l
        ≡ pass_ok steps m st f (g - s) s l && pass_ok steps m st f (e - g) g (pass_marks steps st f (g - s) s l)
    ok-split l = rw all (rw (add-sub_of_le h1) at (ok_add (g - s) (e - g) s l))

    seen-split : (w : List ℕ) → seen_from st f (e - s) s w ≡ seen_from st f (e - g) g (seen_from st f (g - s) s w)
    seen-split w = rw all (rw (add-sub_of_le h1) at (seen-add (g - s) (e - g) s w))

-- the front one answers t, with the marks x and the newest places y behind it
module _ {steps m : ℕ} {st : List ℕ} {f s g e : ℕ} (h1 : s ≤ g) (h2 : g ≤ e) {l x : List (List ℕ)} {w y : List ℕ} {t : Bool}
    (a : Passed steps m st f s g l x w y t) where
  pub front-no : {l' : List (List ℕ)} {w' : List ℕ} → t ≡ false → Passed steps m st f s e l l' w w' false
  front-no z =
      let b = a.ok in
      record {
        ok = sym (ok-split steps m st f s g e h1 h2 l ∙ rw (← b, z));
        behind = λ n. absurd (false≢true n);
      }

  -- it answers yes: what is behind both
  module _ (z : t ≡ true) where
    pub both_ok : pass_ok steps m st f (e - s) s l ≡ pass_ok steps m st f (e - g) g x
    both_ok =
        let b = a.ok in
        let k = (a.behind z).0 in
        ok-split steps m st f s g e h1 h2 l ∙ rw (← b, z, ← k)

    pub both-marks : pass_marks steps st f (e - s) s l ≡ pass_marks steps st f (e - g) g x
    both-marks = let k = (a.behind z).0 in marks-split steps m st f s g e h1 h2 l ∙ rw (← k)

    pub both-seen : seen_from st f (e - s) s w ≡ seen_from st f (e - g) g y
    both-seen = let k = (a.behind z).1 in seen-split steps m st f s g e h1 h2 w ∙ rw (← k)

    pub both : {l' : List (List ℕ)} {w' : List ℕ} {u : Bool} → Passed steps m st f g e x l' y w' u
        → Passed steps m st f s e l l' w w' u
    both b =
        record {
          ok = b.ok ∙ sym both_ok;
          behind = λ n. ((b.behind n).0 ∙ sym both-marks, (b.behind n).1 ∙ sym both-seen);
        }

marks-end : (steps : ℕ) (st : List ℕ) (f s e : ℕ) (l : List (List ℕ)) → e ≤ s → pass_marks steps st f (e - s) s l ≡ l
unfolding pass_marks
marks-end steps st f s e l h = rw (none-left s e h)

ok_end : (steps m : ℕ) (st : List ℕ) (f s e : ℕ) (l : List (List ℕ)) → e ≤ s → pass_ok steps m st f (e - s) s l ≡ true
unfolding pass_ok
ok_end steps m st f s e l h = rw (none-left s e h)

-- ---- one number, at place q, of an item that isn't stepped
module _ (steps m : ℕ) (st : List ℕ) (f s e q : ℕ) (l : List (List ℕ)) (h : s < e) (i : q ≡ place (ring_size st) (base st) s)
    (b : bit steps (item_of (word_at st q)) ≡ false) where
  plain : bit steps (item_of (word_of st s)) ≡ false
  plain = rw i at b

  same : number_stepped steps st f s l ≡ l
  same = rw plain

  plain-marks : pass_marks steps st f (e - s) s l ≡ pass_marks steps st f (e - (s + 1)) (s + 1) l
  unfolding pass_marks
  plain-marks = rw (one-more s e h, add-one s) (ap (pass_marks steps st f (e - suc s) (suc s)) same)

  plain_ok : item_of (word_at st q) < m
      → pass_ok steps m st f (e - s) s l ≡ pass_ok steps m st f (e - (s + 1)) (s + 1) l
  unfolding pass_ok stepped_ok
  plain_ok g = rw (one-more s e h, add-one s, plain, lt-ltb (item_of (word_of st s)) m (rw i at g))

-- ---- runs of the ring

module _ {N B e s q g : ℕ} (r : Unwrapped N B e s q) (h1 : s ≤ g) (h2 : g ≤ e) where
  -- from g on
  pub run_on : Unwrapped N B e g (q + (g - s))
  run_on = rw (add-sub_of_le h1) at (run-add (g - s) r (omega arith))

  -- up to g
  pub run-to : Unwrapped N B g s q
  run-to = record { low = r.low; is = λ l. r.is (omega arith); room = omega (arith, r.room) }

-- ---- a loop over numbers that change no mark: those from a up to s, which is at place q
pub record Skipping (steps m : ℕ) (st : List ℕ) (f a e : ℕ) (v w : List ℕ) (s q : ℕ) : Type 0 where
  pub run : Unwrapped (ring_size st) (base st) e s q
  pub low : a ≤ s
  pub high : s ≤ e
  pub skipped : Skipped steps m st f e a s v w

pub skipping-start : (steps m : ℕ) (st : List ℕ) (f a e p : ℕ) (v : List ℕ) → Unwrapped (ring_size st) (base st) e a p
    → a ≤ e → Skipping steps m st f a e v v a p
skipping-start steps m st f a e p v r h =
    record {
      run = r;
      low = omega arith;
      high = h;
      skipped = record { ok = λ l. refl; marks = λ l. refl; seen = refl };
    }

module _ {steps m : ℕ} {st : List ℕ} {f a e : ℕ} {v w : List ℕ} {s q : ℕ} (z : Skipping steps m st f a e v w s q) where
  pub skipping-more : s < e → {n x i y : ℕ} → n ≡ ring_size st → x ≡ ring_word st n q → i ≡ item_of x → i < m
      → bit steps i ≡ false → y ≡ s - f + 9 → Skipping steps m st f a e v (set w i y) (s + 1) (q + 1)
  skipping-more h {n} {x} {i} {y} hn hx hi g b ey =
      let item : i ≡ item_of (word_at st q) = hi ∙ ap item_of (hx ∙ rw hn) in
      let at : q ≡ place (ring_size st) (base st) s = z.run.is h in
      record {
        run = run-next z.run h;
        low = omega (arith, z.low);
        high = omega arith;
        skipped =
            record {
              ok = λ l. z.skipped.ok l ∙ plain_ok steps m st f s e q l h at (rw item at b) (rw item at g);
              marks = λ l. z.skipped.marks l ∙ plain-marks steps m st f s e q l h at (rw item at b);
              seen = z.skipped.seen ∙ rw (item, ey) (seen_step st f s e q w h at);
            };
      }

-- ---- a run's loop: l and w are the marks and the newest places behind the numbers from a up to s, which is at place
-- q; they were o and v at a
pub record Passing (steps m : ℕ) (st : List ℕ) (f a e : ℕ) (o l : List (List ℕ)) (v w : List ℕ) (s q : ℕ) : Type 0 where
  pub run : Unwrapped (ring_size st) (base st) e s q
  pub from : f ≤ s
  pub ok : pass_ok steps m st f (e - a) a o ≡ pass_ok steps m st f (e - s) s l
  pub marks : pass_marks steps st f (e - a) a o ≡ pass_marks steps st f (e - s) s l
  pub seen : seen_from st f (e - a) a v ≡ seen_from st f (e - s) s w

module _ {steps m : ℕ} {st : List ℕ} {f a e : ℕ} {o l : List (List ℕ)} {v w : List ℕ} {s q : ℕ}
    (z : Passing steps m st f a e o l v w s q) where
  -- the numbers up to r are behind too, which change no mark
  pub passing-skip : {r : ℕ} {w' : List ℕ} → (s ≤ r) × (r ≤ e) → Skipped steps m st f e s r w w'
      → Passing steps m st f a e o l v w' r (q + (r - s))
  passing-skip h k =
      record {
        run = run_on z.run h.0 h.1;
        from = omega (arith, z.from, h.0);
        ok = z.ok ∙ k.ok l;
        marks = z.marks ∙ k.marks l;
        seen = z.seen ∙ k.seen;
      }

  -- a turn: those are skipped, and a block begins behind them, which ends in the run
  pub one_turn : {r d : ℕ} {w' : List ℕ} → (s ≤ r) × (r ≤ e) → Skipped steps m st f e s r w w' → d ≡ min block (e - r)
      → Passing steps m st f a e o l v w' r (q + (r - s)) × (r + d ≤ e)
  one_turn h k n = (passing-skip h k, omega (arith, h.1, n))

  -- a block of numbers up to g
  module _ {g : ℕ} (h1 : s ≤ g) (h2 : g ≤ e) {l' : List (List ℕ)} {w' : List ℕ} {t : Bool} (b : Passed steps m st f s g l l' w w' t)
    where
      pub passing-no : {x : List (List ℕ)} {y : List ℕ} → t ≡ false → Passed steps m st f a e o x v y false
      passing-no {x} {y} n =
          let k = front-no h1 h2 b {l' = x} {w' = y} n in
          record { ok = k.ok ∙ sym z.ok; behind = λ u. absurd (false≢true u) }

      pub passing-block : t ≡ true → Passing steps m st f a e o l' v w' g (q + (g - s))
      passing-block y =
          record {
            run = run_on z.run h1 h2;
            from = omega (arith, z.from);
            ok = z.ok ∙ both_ok h1 h2 b y;
            marks = z.marks ∙ both-marks h1 h2 b y;
            seen = z.seen ∙ both-seen h1 h2 b y;
          }

  pub passing-end : e ≤ s → Passed steps m st f a e o l v w true
  passing-end h =
      record {
        ok = sym (z.ok ∙ ok_end steps m st f s e l h);
        behind = λ n. (
          sym (z.marks ∙ marks-end steps st f s e l h),
          sym (z.seen ∙ seen_end st f s e w h),
        );
      }
