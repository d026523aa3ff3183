-- Laws of the replies of observations: k rows that fit or don't, and the three requests, one way through each at a
-- time.
use Prim.Native.Nat.{ℕ, suc, ◌+◌, ◌-◌, ◌*◌, ◌^◌, ◌≤◌, ◌<◌}
use mathlib.Core.Path.{◌≡◌, sym, ap, ◌∙◌}
use mathlib.Core.Bool.{Bool, true, false, ◌&&◌}
use mathlib.Core.List.{List, [], ◌∷◌, ◌++◌}
use native.Mathlib.Numerals.{add-one}
use native.Mathlib.Omega.{arith}
use lib.Count.{ones}
use lib.ListN.{length, take, drop}
use Rattle.history.specs.Observations.{Head, max_ring, ring_size, base, last, ring_ok, current_rows, at_ok, at_rows}
use Rattle.spec.specs.Reply.{refuse, numbers, pairs, observation_words, observation_reply}
use Rattle.history.specs.Calls.{first, sample_between, current_reply, current_up_to}
use Rattle.spec.specs.declared.Refusal.TheVariants.{Store, Space}
use Rattle.std.specs.Prelude.{Ok, Err, Some, None}
use Rattle.rows.specs.Rows.{sampled, counted, rows_into}
use Rattle.latest.specs.Latest.{extra_in}
use Rattle.snapshot_rows.specs.Held.{held_by, held_count}
use Rattle.reply.specs.Fitted.{Fitted}
use Rattle.spec.proofs.Reply.{length-numbers, length_pairs}
use Rattle.rows.proofs.Laws.{counted-count, counted-few, counted-broken}
use Rattle.latest.proofs.Laws.{extra-broken, extra-ok, extra-few, extra-many}
use Rattle.snapshot_rows.proofs.Laws.{held-length}
use Rattle.reply.proofs.Laws.{short, whole, behind}

-- the numbers from f up to e are at most a ring of them
pub in-ring : (st : List ℕ) (f e : ℕ) → first st ≤ f → e ≤ suc (last st) → (base st ≤ f) × (e - f ≤ ring_size st)
in-ring st f e h g = (omega arith, omega arith)

-- and so are the rows counted
pub in-ring-few : (m : ℕ) (st : List ℕ) (selection f e : ℕ) {k : ℕ} → Head m st → first st ≤ f → e ≤ suc (last st)
    → Some k ≡ counted m st selection f e → k ≤ max_ring
in-ring-few m st selection f e is h g count =
    omega (arith, counted-few m st selection f e count, (in-ring st f e h g).1, is.n_max)

-- ---- k rows that fit or don't

module _ {reply x : List ℕ} {k f l next : ℕ} {t : Bool} (w : Fitted reply (3 * k) (k ∷ f ∷ l ∷ next ∷ []) t x)
    (rows : List (List ℕ)) (many : k ≡ length rows) where
  row_words : 3 * k ≡ length (numbers rows) + length (pairs rows)
  row_words = omega (arith, length-numbers rows, length_pairs rows)

  rows_short : t ≡ false → observation_reply f l next rows reply ≡ record { answer = Err Space; reply = x }
  unfolding observation_reply observation_words
  rows_short e = rw (← many) (short w (numbers rows) (pairs rows) row_words e)

  -- y is the part behind the sizes as it comes back
  rows_whole : (y : List ℕ) → t ≡ true → y ≡ rows_into (take (length x - 4) (drop 4 x)) k rows
      → observation_reply f l next rows reply
      ≡ record { answer = Ok k; reply = take 4 x ++ (y ++ drop (length x - 4) (drop 4 x)) }
  unfolding observation_reply observation_words
  rows_whole y fits e =
      rw (← many)
      (whole w (numbers rows) (pairs rows) row_words (many ∙ sym (length-numbers rows)) fits y e)

-- ---- sample

module _ (m : ℕ) (st : List ℕ) (selection f e : ℕ) (reply : List ℕ) where
  pub sample-broken : None ≡ counted m st selection f e → sample_between m st selection f e reply ≡ refuse Store reply
  unfolding sample_between
  sample-broken h = rw (counted-broken m st selection f e h)

  module _ {k a l : ℕ} {t : Bool} {x : List ℕ} (count : Some k ≡ counted m st selection f e) (is : a ≡ first st)
      (il : l ≡ last st) (w : Fitted reply (3 * k) (k ∷ a ∷ l ∷ e ∷ []) t x) where
    pub sample-short : t ≡ false
        → sample_between m st selection f e reply ≡ record { answer = Err Space; reply = x }
    unfolding sample_between
    sample-short h =
        let g = counted-count m st selection f e count in
        rw (g.0, ← is, ← il) (rows_short w (sampled st selection f e) g.1 h)

    pub sample-whole : (y : List ℕ) → t ≡ true
        → y ≡ rows_into (take (length x - 4) (drop 4 x)) k (sampled st selection f e)
        → sample_between m st selection f e reply
        ≡ record { answer = Ok k; reply = take 4 x ++ (y ++ drop (length x - 4) (drop 4 x)) }
    unfolding sample_between
    sample-whole y h i =
        let g = counted-count m st selection f e count in
        rw (g.0, ← is, ← il) (rows_whole w (sampled st selection f e) g.1 y h i)

-- ---- current: x rows beyond the first of each selected item

module _ (cat : ℕ → ℕ) (m : ℕ) (st : List ℕ) (selection : ℕ) (reply : List ℕ) where
  pub current-broken : None ≡ extra_in cat m st selection
      → current_reply cat m st reply (Some selection) ≡ refuse Store reply
  unfolding current_reply
  current-broken e = rw (extra-broken cat m st selection e)

  module _ {x o : ℕ} (count : Some x ≡ extra_in cat m st selection) (few : selection < 2 ^ m)
      (is : o ≡ ones selection) where
    pub current-many : o + x ≡ length (current_rows cat (ring_size st) m st selection)
    current-many = rw is (extra-many cat m st selection count few)

    module _ {f l : ℕ} {t : Bool} {y : List ℕ} (ef : f ≡ first st) (el : l ≡ last st)
        (w : Fitted reply (3 * (o + x)) ((o + x) ∷ f ∷ l ∷ (l + 1) ∷ []) t y) where
      current-reply : current_reply cat m st reply (Some selection)
          ≡ observation_reply f l (l + 1) (current_rows cat (ring_size st) m st selection) reply
      unfolding current_reply
      current-reply = rw (extra-ok cat m st selection count, ef, el, add-one (last st))

      pub current-short : t ≡ false
          → current_reply cat m st reply (Some selection) ≡ record { answer = Err Space; reply = y }
      current-short h = current-reply ∙ rows_short w (current_rows cat (ring_size st) m st selection) current-many h

      pub current-whole : (z : List ℕ) → t ≡ true
          → z ≡ rows_into (take (length y - 4) (drop 4 y)) (o + x) (current_rows cat (ring_size st) m st selection)
          → current_reply cat m st reply (Some selection)
          ≡ record { answer = Ok (o + x); reply = take 4 y ++ (z ++ drop (length y - 4) (drop 4 y)) }
      current-whole z h e =
          current-reply ∙ rows_whole w (current_rows cat (ring_size st) m st selection) current-many z h e

-- the further rows are few, and the reply has room for its sizes
pub ruleset current_room = (extra-few, behind)

-- ---- current with at: f is first, and `held` are the rows of the numbers from there up to `number`

-- refusal 2's test, and the rows
abbrev pub up_to_ok : (ℕ → ℕ) → ℕ → List ℕ → ℕ → ℕ → ℕ → Bool
up_to_ok cat m st selection f e =
    ring_ok (ring_size st) m (base st) st (e - f) f && at_ok cat (ring_size st) m (base st) st selection (e - f) f

abbrev pub up_to : (ℕ → ℕ) → ℕ → List ℕ → ℕ → ℕ → ℕ → List (List ℕ)
up_to cat m st selection f e = at_rows cat (ring_size st) m (base st) st selection (e - f) f

module _ (cat : ℕ → ℕ) (m : ℕ) (st : List ℕ) (selection number f : ℕ) (reply : List ℕ) (is : f ≡ first st) {r : Bool}
    (ok : r ≡ up_to_ok cat m st selection f (number + 1)) where
  pub at-broken : r ≡ false → current_up_to cat m st selection number reply ≡ refuse Store reply
  unfolding current_up_to
  at-broken h = let e = rw (is, add-one number) at (sym ok ∙ h) in rw e

  module _ (right : r ≡ true) where
    at-reply : (l : ℕ) → l ≡ last st → current_up_to cat m st selection number reply
        ≡ observation_reply f l (l + 1) (up_to cat m st selection f (number + 1)) reply
    unfolding current_up_to
    at-reply l el =
        let e = rw (is, add-one number) at (sym ok ∙ right) in rw (is, el, add-one number, add-one (last st), e)

    module _ {held : List (List ℕ)} {k l : ℕ} {t : Bool} {y : List ℕ}
        (rows : r ≡ true → held ≡ up_to cat m st selection f (number + 1)) (many : k ≡ length held) (el : l ≡ last st)
        (w : Fitted reply (3 * k) (k ∷ f ∷ l ∷ (l + 1) ∷ []) t y) where
      as_many : k ≡ length (up_to cat m st selection f (number + 1))
      as_many = many ∙ ap length (rows right)

      pub at-short : t ≡ false
          → current_up_to cat m st selection number reply ≡ record { answer = Err Space; reply = y }
      at-short h = at-reply l el ∙ rows_short w (up_to cat m st selection f (number + 1)) as_many h

      pub at-whole : (z : List ℕ) → t ≡ true → z ≡ rows_into (take (length y - 4) (drop 4 y)) k held
          → current_up_to cat m st selection number reply
          ≡ record { answer = Ok k; reply = take 4 y ++ (z ++ drop (length y - 4) (drop 4 y)) }
      at-whole z h e =
          at-reply l el
          ∙ rows_whole w (up_to cat m st selection f (number + 1)) as_many z h (rw (rows right) at e)

-- as many as the marks hold, where m is the number of items
module _ {m n : ℕ} (em : m ≡ n) (st : List ℕ) (f : ℕ) (l : List (List ℕ)) (selection k : ℕ) where
  pub held-many : k ≡ held_count selection l m 0 → k ≡ length (held_by n st f l selection)
  held-many e = rw (← em) (e ∙ sym (held-length m st f l selection))
