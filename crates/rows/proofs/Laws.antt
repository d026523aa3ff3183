-- What the passes over a sample's numbers know at each turn, and what two runs give together.
use Prim.Native.Nat.{ℕ, ◌+◌, ◌-◌, ◌*◌, ◌≤◌, ◌<◌}
use mathlib.Core.Path.{◌≡◌, refl, sym, ap, ◌∙◌}
use mathlib.Core.Bool.{Bool, true, false, ◌&&◌}
use mathlib.Core.List.{List, [], ◌∷◌, ◌++◌}
use Rattle.std.specs.Prelude.{Some, None}
use Rattle.std.specs.Int.{from_bool}
use Rattle.std.proofs.lemmas.Option.{cond_some}
use native.Mathlib.Omega.{arith}
use lib.Dec.{ltb}
use lib.ListN.{length, length-append}
use borrow.Author.Tests.{lt-ltb, le-ltb, ltb-true}
use Rattle.spec.specs.Words.{bit, row}
use Rattle.spec.specs.Value.{item_of}
use Rattle.history.specs.Observations.{ring_size, base, place, item_at, numbered, ring_ok, sample_rows}
use Rattle.spec.proofs.Found.{cond-none}
use Rattle.spec.proofs.Words.{and_left, and_right, every-step, every-end}
use Rattle.observations.specs.Ring.{ring_time, ring_word}
use Rattle.rows.specs.Rows.{items_ok, sampled, counted, rows_at, rows_into, Unwrapped}
use Rattle.rows.proofs.Ranges.{every-split, rows_in, rows_out, rows_end, rows_split, rows_few, run-next}
use Rattle.rows.proofs.Writing.{rows_append, length-rows}
use Rattle.rows.proofs.Flat.{Left, left-start, left-room, left-more, left_end}

-- ---- what the words say of an entry, where number s is at place q

abbrev pub item_in : List ℕ → ℕ → ℕ
item_in st s = item_at (ring_size st) (base st) st s

abbrev pub numbered_in : List ℕ → ℕ → List ℕ
numbered_in st s = numbered (ring_size st) (base st) st s

-- the time and the packed word at place q
abbrev pub time_at : List ℕ → ℕ → ℕ
time_at st q = ring_time st (ring_size st) q

abbrev pub word_at : List ℕ → ℕ → ℕ
word_at st q = ring_word st (ring_size st) q

-- number s has an item of the model, and a selected one
abbrev known : ℕ → List ℕ → ℕ → Bool
known m st s = ltb (item_in st s) m

abbrev picked : List ℕ → ℕ → ℕ → Bool
picked st selection s = bit selection (item_in st s)

module _ (st : List ℕ) (s q : ℕ) (e : q ≡ place (ring_size st) (base st) s) where
  pub item-is : item_in st s ≡ item_of (word_at st q)
  item-is = rw e

  pub numbered_is : numbered_in st s ≡ s ∷ time_at st q ∷ word_at st q ∷ []
  unfolding row
  numbered_is = rw e

-- the item that a pass reads there
pub item-read : (st : List ℕ) (q : ℕ) {n w i : ℕ} → n ≡ ring_size st → w ≡ ring_word st n q → i ≡ item_of w
    → i ≡ item_of (word_at st q)
item-read st q hn hw hi = hi ∙ (ap item_of hw ∙ rw hn)

-- ---- counting

module _ (st : List ℕ) (m s e q : ℕ) (h : s < e) (i : q ≡ place (ring_size st) (base st) s) where
  -- the test of one more number
  pub ok_step : items_ok m st s e ≡ ltb (item_of (word_at st q)) m && items_ok m st (s + 1) e
  unfolding ring_ok
  ok_step =
      every-step (known m st) s e h
      ∙ ap (λ (x : ℕ). ltb x m && items_ok m st (s + 1) e) (item-is st s q i)

  -- one more number adds a row or none
  pub test_step : (selection : ℕ) (b : Bool) → b ≡ bit selection (item_of (word_at st q))
      → length (sampled st selection s e) ≡ from_bool b + length (sampled st selection (s + 1) e)
  unfolding sample_rows
  test_step selection false b =
      omega (arith, ap length (rows_out (picked st selection) (numbered_in st) s e h (rw (item-is st s q i) (sym b))))
  test_step selection true b =
      omega (arith, ap length (rows_in (picked st selection) (numbered_in st) s e h (rw (item-is st s q i) (sym b))))

pub one-at-most : (b : Bool) → from_bool b ≤ 1
one-at-most true = omega arith
one-at-most false = omega arith

-- c of the rows are counted, and the next number is s at place q
pub record Counting (st : List ℕ) (m selection f e c s q : ℕ) : Type 0 where
  pub run : Unwrapped (ring_size st) (base st) e s q
  pub ok : items_ok m st f e ≡ items_ok m st s e
  pub rows : c + length (sampled st selection s e) ≡ length (sampled st selection f e)
  pub few : c + f ≤ s

pub counting-start : (st : List ℕ) (m selection f e q : ℕ) → Unwrapped (ring_size st) (base st) e f q
    → Counting st m selection f e 0 f q
counting-start st m selection f e q r = record { run = r; ok = refl; rows = omega arith; few = omega arith }

module _ {st : List ℕ} {m selection f e c s q : ℕ} (v : Counting st m selection f e c s q) where
  module _ (h : s < e) {n w i : ℕ} (hn : n ≡ ring_size st) (hw : w ≡ ring_word st n q) (hi : i ≡ item_of w) where
    counting-item : i ≡ item_of (word_at st q)
    counting-item = item-read st q hn hw hi

    pub counting-broken : m ≤ i → None ≡ counted m st selection f e
    unfolding counted
    counting-broken g = rw (v.ok, ok_step st m s e q h (v.run.is h), ← counting-item, le-ltb _ _ g)

    pub counting_more : {b : Bool} → i < m → b ≡ bit selection i
        → Counting st m selection f e (c + from_bool b) (s + 1) (q + 1)
    counting_more {b} g t =
        let k = test_step st m s e q h (v.run.is h) selection b (rw (← counting-item) t) in
        record {
          run = run-next v.run h;
          ok = v.ok ∙ rw (ok_step st m s e q h (v.run.is h), ← counting-item, lt-ltb _ _ g);
          rows = omega (arith, v.rows, k);
          few = omega (arith, v.few, one-at-most b);
        }

  pub counting-end : e ≤ s → Some c ≡ counted m st selection f e
  unfolding counted ring_ok sample_rows
  counting-end h =
      let k : c ≡ length (sampled st selection f e) =
      omega (arith, v.rows, ap length (rows_end (picked st selection) (numbered_in st) s e h)) in
      rw (v.ok, ← every-end (known m st) _ s e refl h, k)

-- ---- counting in two parts

module _ (m : ℕ) (st : List ℕ) (selection f e : ℕ) where
  pub counted-count : {c : ℕ} → Some c ≡ counted m st selection f e → (items_ok m st f e ≡ true)
      × (c ≡ length (sampled st selection f e))
  unfolding counted
  counted-count {c} a = let s = cond_some _ _ c (sym a) in (s.0, sym s.1)

  pub counted-broken : None ≡ counted m st selection f e → items_ok m st f e ≡ false
  unfolding counted
  counted-broken a = cond-none _ _ a

  pub counted-few : {c : ℕ} → Some c ≡ counted m st selection f e → c ≤ e - f
  unfolding sample_rows
  counted-few a = omega (arith, (counted-count a).1, rows_few (picked st selection) (numbered_in st) (e - f) f)

module _ (m : ℕ) (st : List ℕ) (f g e : ℕ) (h1 : f ≤ g) (h2 : g ≤ e) where
  pub ok-split : items_ok m st f e ≡ items_ok m st f g && items_ok m st g e
  unfolding ring_ok
  ok-split = every-split (known m st) f g e h1 h2

  pub front-ok : items_ok m st f e ≡ true → items_ok m st f g ≡ true
  front-ok t = and_left (items_ok m st f g) (items_ok m st g e) (sym ok-split ∙ t)

  pub back-ok : items_ok m st f e ≡ true → items_ok m st g e ≡ true
  back-ok t = and_right (items_ok m st f g) (items_ok m st g e) (sym ok-split ∙ t)

sample-split : (st : List ℕ) (selection f g e : ℕ) → f ≤ g → g ≤ e → sampled st selection f e
    ≡ sampled st selection f g ++ sampled st selection g e
unfolding sample_rows
sample-split st selection f g e h1 h2 = rows_split (picked st selection) (numbered_in st) f g e h1 h2

module _ (m : ℕ) (st : List ℕ) (selection f g e : ℕ) (h1 : f ≤ g) (h2 : g ≤ e) where
  pub front-broken : None ≡ counted m st selection f g → None ≡ counted m st selection f e
  unfolding counted
  front-broken a = rw (ok-split m st f g e h1 h2, counted-broken m st selection f g a)

  module _ {c : ℕ} (a : Some c ≡ counted m st selection f g) where
    pub back-broken : None ≡ counted m st selection g e → None ≡ counted m st selection f e
    unfolding counted
    back-broken b =
        rw (ok-split m st f g e h1 h2, (counted-count m st selection f g a).0, counted-broken m st selection g e b)

    pub both-counted : {d : ℕ} → Some d ≡ counted m st selection g e → Some (c + d) ≡ counted m st selection f e
    unfolding counted
    both-counted b =
        let x = counted-count m st selection f g a in
        let y = counted-count m st selection g e b in
        rw (ok-split m st f g e h1 h2, x.0, y.0, sample-split st selection f g e h1 h2, length-append, x.1, y.1)

-- ---- the same for a sample's rows: c of the k are written, of them d before the run, and number s is at place q
pub record Sampling (st : List ℕ) (m selection f e k d : ℕ) (o l : List ℕ) (c s q : ℕ) : Type 0 where
  pub run : Unwrapped (ring_size st) (base st) e s q
  pub ok : items_ok m st s e ≡ true
  pub put : Left (sampled st selection f e) k d o l c (sampled st selection s e)

pub sampling-start : (st : List ℕ) (m selection f e k d q : ℕ) (o : List ℕ) → Unwrapped (ring_size st) (base st) e f q
    → items_ok m st f e ≡ true
    → d + length (sampled st selection f e) ≤ k → Sampling st m selection f e k d o o d f q
sampling-start st m selection f e k d q o r t h =
    record { run = r; ok = t; put = left-start (sampled st selection f e) k d o h }

module _ {st : List ℕ} {m selection f e k d : ℕ} {o l : List ℕ} {c s q : ℕ}
    (v : Sampling st m selection f e k d o l c s q) where
  pub sampling-end : e ≤ s → (c ≡ d + length (sampled st selection f e))
      × (l ≡ rows_at o d (k + 2 * d) (sampled st selection f e))
  unfolding sample_rows
  sampling-end h = left_end v.put (rows_end (picked st selection) (numbered_in st) s e h)

  module _ (h : s < e) {n x i : ℕ} (hn : n ≡ ring_size st) (hx : x ≡ ring_word st n q) (hi : i ≡ item_of x) where
    w : i ≡ item_of (word_at st q)
    w = item-read st q hn hx hi

    ok-both : ltb i m && items_ok m st (s + 1) e ≡ true
    ok-both = rw w (sym (ok_step st m s e q h (v.run.is h)) ∙ v.ok)

    pub sampling-item : i < m
    sampling-item = ltb-true i m (and_left (ltb i m) (items_ok m st (s + 1) e) ok-both)

    ok-more : items_ok m st (s + 1) e ≡ true
    ok-more = and_right (ltb i m) (items_ok m st (s + 1) e) ok-both

    module _ {y : Bool} (b : y ≡ bit selection i) where
      selected : picked st selection s ≡ y
      selected = rw (item-is st s q (v.run.is h), ← w) (sym b)

      one : y ≡ true → sampled st selection s e ≡ numbered_in st s ∷ sampled st selection (s + 1) e
      unfolding sample_rows
      one t = rows_in (picked st selection) (numbered_in st) s e h (selected ∙ t)

      none : y ≡ false → sampled st selection s e ≡ sampled st selection (s + 1) e
      unfolding sample_rows
      none t = rows_out (picked st selection) (numbered_in st) s e h (selected ∙ t)

      pub sampling-room : y ≡ true → 3 * k ≤ length o → k + 2 * c + 1 < length l
      sampling-room t = left-room v.put (one t)

      pub sampling-more : {u : ℕ} {r : List ℕ} → y ≡ true → u ≡ ring_time st n q
          → r ≡ rows_at l c (k + 2 * c) ((s ∷ u ∷ x ∷ []) ∷ [])
          → Sampling st m selection f e k d o r (c + 1) (s + 1) (q + 1)
      sampling-more t hu g =
          record {
            run = run-next v.run h;
            ok = ok-more;
            put = left-more v.put (one t) (rw (numbered_is st s q (v.run.is h), ← hn, ← hu, ← hx) g);
          }

      pub sampling-skip : y ≡ false → Sampling st m selection f e k d o l c (s + 1) (q + 1)
      sampling-skip t =
          record {
            run = run-next v.run h;
            ok = ok-more;
            put = rw (none t) at v.put;
          }

-- ---- a sample written in two parts

pub as_long : (o x : List ℕ) (n c a : ℕ) (rs : List (List ℕ)) → x ≡ rows_at o c a rs → n ≤ length o → n ≤ length x
as_long o x n c a rs e h = omega (arith, ap length e ∙ length-rows o c a rs)

module _ (st : List ℕ) (selection f g e k : ℕ) (h1 : f ≤ g) (h2 : g ≤ e)
    (ek : k ≡ length (sampled st selection f e)) where
  parts : k ≡ length (sampled st selection f g) + length (sampled st selection g e)
  parts =
      let l = length-append (sampled st selection f g) (sampled st selection g e) in
      ek ∙ rw (sample-split st selection f g e h1 h2) l

  pub front_fits : 0 + length (sampled st selection f g) ≤ k
  front_fits = omega (arith, parts)

  module _ {c : ℕ} (ec : c ≡ 0 + length (sampled st selection f g)) where
    pub back_fits : c + length (sampled st selection g e) ≤ k
    back_fits = omega (arith, parts, ec)

    pub both-written : (o x y : List ℕ) → x ≡ rows_at o 0 (k + 2 * 0) (sampled st selection f g)
        → y ≡ rows_at x c (k + 2 * c) (sampled st selection g e)
        → y ≡ rows_into o k (sampled st selection f e)
    both-written o x y ex ey =
        let xs = sampled st selection f g in
        let ys = sampled st selection g e in
        let z : k + 2 * 0 ≡ k = omega arith in
        let q : 0 + length xs ≡ length xs = omega arith in
        let w = rows_append o 0 k xs ys (omega (arith, parts)) in
        ey ∙ rw (ex, z, ec, q, sample-split st selection f g e h1 h2) (rw q at w)
