-- Numbers picked out of a block: what the loops over them know, and that the marks behind them are the pass's.
use Prim.Native.Nat.{ℕ, zero, suc, ◌+◌, ◌-◌, ◌≤◌, ◌<◌}
use mathlib.Core.Path.{◌≡◌, refl, sym, ap, ◌∙◌}
use mathlib.Core.Bool.{Bool, true, false, cond, true≢false, false≢true}
use mathlib.Core.List.{List, [], ◌∷◌, ◌++◌, append_assoc, append-nil}
use native.Mathlib.Nat.{add-zero}
use native.Mathlib.Numerals.{add-one}
use native.Mathlib.Omega.{arith}
use lib.Dec.{ltb, eqb}
use lib.ListN.{length, get_or, set, take, drop, length-set}
use lib.Seq.{take-set-le, take-suc-set, drop-cons, length-take-le}
use borrow.Author.Tests.{lt-ltb, le-ltb, ltb-true, ne_eqb}
use Rattle.std.specs.Int.{from_bool}
use Rattle.std.specs.List.{AllByRecursion as Each}
use Rattle.spec.specs.Words.{bit, every}
use Rattle.spec.specs.Value.{item_of}
use Rattle.history.specs.Observations.{ring_size, base, place, ring_ok}
use Rattle.spec.proofs.Words.{by-test, and_left, and_right, every-at, one-more, none-left}
use Rattle.observations.specs.Ring.{ring_word}
use Rattle.marks.specs.Marks.{eight_of}
use Rattle.rows.specs.Rows.{items_ok, InRing, Unwrapped}
use Rattle.rows.specs.declared.Run.{Run}
use Rattle.rows.proofs.Ranges.{run-next}
use Rattle.rows.proofs.Laws.{word_at, ok_step, one-at-most}
use Rattle.picks.specs.Pass.{stepped_eight, stepped_at, stepped_ok, fits, word_of, pass_marks, pass_ok, seen_from, Part, Passed}
use Rattle.picks.specs.Picks.{block, picked, listed, Gathered, Pick, number_at, pick_marks, pick_ok}
use Rattle.picks.proofs.Numbers.{seen_step, seen_end, run_at}

-- ---- what is picked

-- each pick is below n, where there are no more than n numbers
each-picked : (P : ℕ → Type 0) (n : ℕ) → ((j : ℕ) → j < n → P j) → (steps : ℕ) (st : List ℕ) (s k j : ℕ) → j + k ≤ n
    → Each P (picked steps st s k j)
unfolding picked
each-picked P n all steps st s zero j h = tt
each-picked P n all steps st s (suc k) j h =
    let rest = each-picked P n all steps st s k (suc j) (omega arith) in
    by-test (bit steps (item_of (word_of st (s + j)))) (λ b. rw b (all j (omega arith), rest)) (λ b. rw b rest)

-- none behind c of them ends the list
listed-set : (ps : List ℕ) (c : ℕ) → c < length ps → Each (λ x. x < block) (take c ps)
    → listed (set ps c block) ≡ take c ps
unfolding listed
listed-set [] c h v = absurd (omega arith)
listed-set (x ∷ xs) zero h v = refl
listed-set (x ∷ xs) (suc c) h v =
    rw (ne_eqb x block (omega (arith, v.0)), listed-set xs c (omega arith) v.1)

-- the marks behind the picks are those behind all numbers
pick-marks : (steps : ℕ) (st : List ℕ) (f s k j : ℕ) (l : List (List ℕ))
    → pass_marks steps st f k (s + j) l ≡ pick_marks st f s (picked steps st s k j) l
unfolding picked pick_marks pass_marks
pick-marks steps st f s zero j l = refl
pick-marks steps st f s (suc k) j l =
    let q : suc (s + j) ≡ s + suc j = omega arith in
    by-test (bit steps (item_of (word_of st (s + j))))
    (λ b. rw (b, q) (pick-marks steps st f s k (suc j) (number_at st f (s + j) l)))
    (λ b. rw (b, q) (pick-marks steps st f s k (suc j) l))

-- where all items are the model's, they pass where the picks are no ninth entries
pick-ok : (steps m : ℕ) (st : List ℕ) (f s k j : ℕ) (l : List (List ℕ))
    → ring_ok (ring_size st) m (base st) st k (s + j) ≡ true
    → pass_ok steps m st f k (s + j) l ≡ pick_ok st f s (picked steps st s k j) l
unfolding picked pick_ok pass_ok stepped_ok ring_ok every
pick-ok steps m st f s zero j l o = refl
pick-ok steps m st f s (suc k) j l o =
    let q : suc (s + j) ≡ s + suc j = omega arith in
    let i = item_of (word_of st (s + j)) in
    let a = and_left (ltb i m) _ o in
    let r = rw q at (and_right (ltb i m) _ o) in
    by-test (bit steps i)
    (λ b. rw (a, b, q, pick-ok steps m st f s k (suc j) (number_at st f (s + j) l) r))
    (λ b. rw (a, b, q) (pick-ok steps m st f s k (suc j) l r))

-- where one isn't, they don't pass
foreign : (steps m : ℕ) (st : List ℕ) (f k s : ℕ) (l : List (List ℕ))
    → ring_ok (ring_size st) m (base st) st k s ≡ false
    → false ≡ pass_ok steps m st f k s l
unfolding pass_ok ring_ok every
foreign steps m st f zero s l o = absurd (true≢false o)
foreign steps m st f (suc k) s l o =
    let i = item_of (word_of st s) in
    by-test (ltb i m)
    (λ a.
    by-test (stepped_ok steps i (word_of st s) l)
    (λ b. rw (a, b) (foreign steps m st f k (suc s) _ (rw a at o)))
    (λ b. rw (a, b)))
    (λ a. rw a)

-- ---- a loop that gathers: those of the run's numbers up to s stand in the first c of ps
pub record Gathering (steps m : ℕ) (st : List ℕ) (f : ℕ) (r : Run) (v w ps : List ℕ) (c s q : ℕ) : Type 0 where
  pub run : Unwrapped (ring_size st) (base st) r.to s q
  pub low : r.from ≤ s
  pub high : s ≤ r.to
  pub few : c ≤ s - r.from
  pub room : length ps ≡ suc block
  pub ok : items_ok m st r.from r.to ≡ items_ok m st s r.to
  pub seen : seen_from st f (r.to - r.from) r.from v ≡ seen_from st f (r.to - s) s w
  pub picks : picked steps st r.from (r.to - r.from) 0 ≡ take c ps ++ picked steps st r.from (r.to - s) (s - r.from)

pub gathering-start : (steps m : ℕ) (st : List ℕ) (f : ℕ) (r : Run) (v ps : List ℕ) → InRing st r → r.from ≤ r.to
    → length ps ≡ suc block → Gathering steps m st f r v v ps 0 r.from r.place
gathering-start steps m st f r v ps u h k =
    record {
      run = u;
      low = omega arith;
      high = h;
      few = omega arith;
      room = k;
      ok = refl;
      seen = refl;
      picks = rw (none-left r.from r.from (omega arith));
    }

module _ {steps m : ℕ} {st : List ℕ} {f : ℕ} {r : Run} {v w ps : List ℕ} {c s q : ℕ}
    (z : Gathering steps m st f r v w ps c s q) where
  module _ (h : s < r.to) {n x i : ℕ} (hn : n ≡ ring_size st) (hx : x ≡ ring_word st n q) (hi : i ≡ item_of x) where
    at : q ≡ place (ring_size st) (base st) s
    at = z.run.is h

    item : i ≡ item_of (word_at st q)
    item = hi ∙ ap item_of (hx ∙ rw hn)

    pub gathering-broken : m ≤ i → false ≡ items_ok m st r.from r.to
    gathering-broken g = sym (z.ok ∙ (ok_step st m s r.to q h at ∙ rw (← item, le-ltb i m g)))

    next : picked steps st r.from (r.to - s) (s - r.from)
        ≡ cond (bit steps i) ((s - r.from) ∷ picked steps st r.from (r.to - (s + 1)) (s + 1 - r.from))
        (picked steps st r.from (r.to - (s + 1)) (s + 1 - r.from))
    unfolding picked
    next =
        let y : r.from + (s - r.from) ≡ s = omega (arith, z.low) in
        let o : suc (s - r.from) ≡ s + 1 - r.from = omega (arith, z.low) in
        rw (one-more s r.to h, y, o, item, at)

    pub gathering-more : i < m → r.to - r.from ≤ block → {y j : ℕ} {b : Bool} → y ≡ s - f + 9 → j ≡ s - r.from
        → b ≡ bit steps i
        → Gathering steps m st f r v (set w i y) (set ps c j) (c + from_bool b) (s + 1) (q + 1)
    gathering-more g k {y} {j} {b} ey ej eb =
        record {
          run = run-next z.run h;
          low = omega (arith, z.low);
          high = omega arith;
          few = omega (arith, z.few, z.low, one-at-most b);
          room = length-set ps c j ∙ z.room;
          ok = z.ok ∙ (ok_step st m s r.to q h at ∙ rw (← item, lt-ltb i m g));
          seen = z.seen ∙ rw (item, ey) (seen_step st f s r.to q w h at);
          picks = z.picks ∙ more b eb;
        }
      where
        rest : List ℕ
        rest = picked steps st r.from (r.to - (s + 1)) (s + 1 - r.from)

        in-room : c < length ps
        in-room = omega (arith, z.few, z.room, z.low)

        more : (t : Bool) → t ≡ bit steps i
            → take c ps ++ picked steps st r.from (r.to - s) (s - r.from) ≡ take (c + from_bool t) (set ps c j) ++ rest
        more true b =
            let o : c + from_bool true ≡ suc c = omega arith in
            rw (o, take-suc-set ps c j in-room, next, ← b, ← ej) (sym (append_assoc (take c ps) (j ∷ []) rest))
        more false b =
            let o : c + from_bool false ≡ c = omega arith in
            rw (o, take-set-le c ps c j (omega arith), next, ← b)

  module _ (h : r.to ≤ s) where
    whole : picked steps st r.from (r.to - r.from) 0 ≡ take c ps
    unfolding picked
    whole = z.picks ∙ rw (none-left s r.to h, append-nil (take c ps))

    pub gathering-end : r.to - r.from ≤ block → (true ≡ items_ok m st r.from r.to) × Gathered steps st f r v w (set ps c block)
    unfolding ring_ok every
    gathering-end k =
        let n : length (take c ps) ≡ c = length-take-le c ps (omega (arith, z.few, z.room, z.low, z.high)) in
        let low : Each (λ x. x < block) (take c ps) =
        rw (← whole) (each-picked (λ x. x < block) block (λ j h. h) steps st r.from (r.to - r.from) 0 (omega arith)) in
        let all = listed-set ps c (omega (arith, z.few, z.room, z.low, z.high)) low in (
          sym (z.ok ∙ rw (none-left s r.to h)),
          record {
            seen = sym (z.seen ∙ seen_end st f s r.to w h);
            picks = all ∙ sym whole;
            ended =
                omega (arith, ap length all, n, length-set ps c block, z.few, z.room, z.low, z.high);
          },
        )

-- ---- a loop over picks: l are the marks behind the first t of them; the marks were o
pub record Stepping (m : ℕ) (st : List ℕ) (f : ℕ) (r : Run) (ps : List ℕ) (o l : List (List ℕ)) (t : ℕ) : Type 0 where
  pub here : t + length (listed (drop t ps)) < length ps
  pub picks : Each (Pick m st f r) (listed (drop t ps))
  pub ok : pick_ok st f r.from (listed ps) o ≡ pick_ok st f r.from (listed (drop t ps)) l
  pub marks : pick_marks st f r.from (listed ps) o ≡ pick_marks st f r.from (listed (drop t ps)) l

pub stepping-start : (m : ℕ) (st : List ℕ) (f : ℕ) (r : Run) (ps : List ℕ) (o : List (List ℕ)) → length (listed ps) < length ps
    → Each (Pick m st f r) (listed ps) → Stepping m st f r ps o o 0
stepping-start m st f r ps o h v = record { here = omega arith; picks = v; ok = refl; marks = refl }

module _ {m : ℕ} {st : List ℕ} {f : ℕ} {r : Run} {ps : List ℕ} {o l : List (List ℕ)} {t : ℕ} (z : Stepping m st f r ps o l t) where
  -- the picks end before the room for them does
  pub stepping-inside : t < length ps
  stepping-inside = omega (arith, z.here)

  module _ {j : ℕ} (ej : j ≡ get_or ps t 0) where
    next_pick : listed (drop t ps) ≡ cond (eqb j block) [] (j ∷ listed (drop (suc t) ps))
    unfolding listed
    next_pick = rw (drop-cons ps t 0 stepping-inside, ej)

    module _ (some : j ≡ block → ⊥) where
      more : listed (drop t ps) ≡ j ∷ listed (drop (suc t) ps)
      more = next_pick ∙ rw (ne_eqb j block some)

      pub stepping-pick : Pick m st f r j
      stepping-pick = (rw more at z.picks).0

      module _ {n x i : ℕ} (hn : n ≡ ring_size st) (hx : x ≡ ring_word st n (r.place + j)) (hi : i ≡ item_of x) where
        word : x ≡ word_of st (r.from + j)
        word = hx ∙ rw (hn, stepping-pick.at)

        owner : i ≡ item_of (word_of st (r.from + j))
        owner = hi ∙ ap item_of word

        pub stepping-item : i < m
        stepping-item = rw owner stepping-pick.item

        module _ {b : Bool} (eb : b ≡ fits i x l) where
          pub stepping-no : b ≡ false → false ≡ pick_ok st f r.from (listed ps) o
          unfolding pick_ok
          stepping-no e = sym (z.ok ∙ rw (more, ← owner, ← word, ← eb, e))

          pub stepping-more : {y : ℕ} {ms : List ℕ} → b ≡ true → y ≡ r.from + j - f + 9
              → ms ≡ stepped_eight i y x (eight_of l i) → Stepping m st f r ps o (set l i ms) (t + 1)
          unfolding pick_ok pick_marks
          stepping-more {y} {ms} e hy em =
              let after = set l i ms in
              let er : after ≡ stepped_at i y x l = ap (set l i) em in
              let new : number_at st f (r.from + j) l ≡ after = rw (← owner, ← word, ← hy, er) in
              record {
                here = rw (add-one t) (omega (arith, z.here, ap length more));
                picks = rw (add-one t) (rw more at z.picks).1;
                ok = z.ok ∙ rw (more, ← owner, ← word, ← eb, e, add-one t, er, hy);
                marks = z.marks ∙ rw (more, add-one t) (ap (pick_marks st f r.from (listed (drop (suc t) ps))) new);
              }

    pub stepping-end : j ≡ block → (true ≡ pick_ok st f r.from (listed ps) o) × (l ≡ pick_marks st f r.from (listed ps) o)
    unfolding pick_ok pick_marks
    stepping-end e =
        let n : listed (drop t ps) ≡ [] = next_pick ∙ rw e in
        (sym (z.ok ∙ rw n), sym (z.marks ∙ rw n))

-- ---- a block

module _ (steps m : ℕ) (st : List ℕ) (f : ℕ) (r : Run) where
  -- an item isn't the model's
  pub block-broken : (l : List (List ℕ)) {l' : List (List ℕ)} {w w' : List ℕ} {t : Bool} → t ≡ items_ok m st r.from r.to → t ≡ false
      → Passed steps m st f r.from r.to l l' w w' false
  block-broken l b z =
      record {
        ok = foreign steps m st f (r.to - r.from) r.from l (sym b ∙ z);
        behind = λ n. absurd (false≢true n);
      }

  module _ {t : Bool} (b : t ≡ items_ok m st r.from r.to) (y : t ≡ true) {v w ps : List ℕ}
      (g : Gathered steps st f r v w ps) where
    pub block-picks : Part st f r → Each (Pick m st f r) (listed ps)
    unfolding ring_ok
    block-picks part =
        rw g.picks
        (each-picked (Pick m st f r) (r.to - r.from)
        (λ j l.
        record {
          at = (run_at part.run j l).0;
          inside = (run_at part.run j l).1;
          near = omega (arith, part.from, part.near);
          item = ltb-true _ m (every-at _ (r.to - r.from) r.from (r.from + j) (sym b ∙ y) (omega arith) (omega arith));
        }) steps st r.from (r.to - r.from) 0 (omega arith))

    -- the marks behind the picks
    pub block-passed : (l : List (List ℕ)) {l' : List (List ℕ)} {t' : Bool} → t' ≡ pick_ok st f r.from (listed ps) l
        → (t' ≡ true → l' ≡ pick_marks st f r.from (listed ps) l) → Passed steps m st f r.from r.to l l' v w t'
    block-passed l er el =
        record {
          ok =
              er
              ∙ (rw g.picks
              (sym (rw (add-zero r.from) at (pick-ok steps m st f r.from (r.to - r.from) 0 l (rw (add-zero r.from) (sym b ∙ y))))));
          behind = λ n. (
            el n ∙ (rw g.picks (sym (rw (add-zero r.from) at (pick-marks steps st f r.from (r.to - r.from) 0 l)))),
            g.seen,
          );
        }
