-- A client's next number, document 02, Req 04: behind every list of calls a poll from one that has been overwritten is
-- answered by 17, and a poll from one that hasn't by neither 17 nor 18.
use mathlib.Core.Path.{◌≡◌, refl, sym, ap, ◌∙◌, subst}
use mathlib.Core.Logic.{◌≢◌, ◌⊎◌, inl, inr}
use mathlib.Core.Bool.{true, false≢true}
use Prim.Native.Nat.{ℕ, zero, suc, ◌+◌, ◌^◌, ◌≤◌, ◌<◌}
use native.Mathlib.Nat.{not-suc-le-zero}
use native.Mathlib.Omega.{arith}
use mathlib.Core.List.{List, [], ◌∷◌}
use lib.Dec.{leb, ltb, lit<}
use lib.ListN.{length, get_or, take, length-append}
use borrow.Author.Tests.{le-ltb, ne_eqb}
use Rattle.spec.specs.Text.{Request, Reading, read_text}
use Rattle.spec.specs.Text.Request.{sample, current, current_at, assets, all_assets}
use Rattle.spec.specs.Text.Reading.{unread, asked}
use Rattle.spec.specs.Path.{select}
use Rattle.spec.specs.Reply.{Replied, refuse, observation_words, written, observation_reply}
use Rattle.spec.specs.Answers.{Answer, answer_number}
use Rattle.history.specs.Observations.{last, Head}
use Rattle.history.specs.Calls.{first, in_range, start_of}
use Rattle.history.specs.Reference
use Rattle.history.specs.Reference.{State, last_of, first_of, sample_start, current_for}
use Rattle.history.specs.Reference.{reply_to, reply_reading}
use Rattle.history.specs.Reference.Begun.{begun}
use Rattle.history.specs.History.{Call, Typed, AllTyped, Start, begins, stores_behind, reference_output, reference_next}
use Rattle.history.specs.History.{reference_run, reference_after}
use Rattle.history.specs.History.Call.{request}
use Rattle.history.specs.Polls.{Asks, Gave, Polls, Told, gives_next, state_before, path_or, checked_or}
use Rattle.spec.specs.declared.Refusal.{Refusal}
use Rattle.std.specs.Prelude.{Ok, Err, Option, Some, None, slice_get}
use Rattle.spec.proofs.Elements.{each-take}
use Rattle.spec.proofs.Words.{by_cond}
use Rattle.history.proofs.Requests.{selected-cases, sample-cases, at-cases}
use Rattle.spec.proofs.Print.{print, print-reads, plain-short}
use Rattle.history.proofs.Agree.{Good, last-is, store-last}
use Rattle.history.proofs.Windows.{Later, later-after}
use Rattle.history.proofs.History.{calls-agree, behind-good, base-after}

-- ---- the calls before call i, and its output

module _ (model names : List ℕ) where
  run_at : (cs : List Call) (p : State) (i : ℕ) (c : Call) → slice_get cs i ≡ Some c
      → slice_get (reference_run model names p cs) i
      ≡ Some (reference_output model names (reference_after model names p (take i cs)) c)
  unfolding reference_run reference_after
  run_at [] p i c e = cc
  run_at (d ∷ cs) p zero c e = let q : d ≡ c = cc in rw q
  run_at (d ∷ cs) p (suc i) c e = run_at cs (reference_next model names p d) i c e

-- what was recorded before call i was so before call j
later-between : (a : Start) (cs : List Call) (p : State) (i j : ℕ) → i ≤ j
    → Later a (reference_after a.model a.names p (take i cs)).H
    (reference_after a.model a.names p (take j cs)).H
unfolding reference_after
later-between a cs p zero j h = later-after a (take j cs) p
later-between a [] p (suc i) j h = later-after a (take j []) p
later-between a (c ∷ cs) p (suc i) zero h = absurd (not-suc-le-zero h)
later-between a (c ∷ cs) p (suc i) (suc j) h =
    later-between a cs (reference_next a.model a.names p c) i j (omega arith)

-- ---- the next number that a state gives

refused-done : (r : Refusal) (k : ℕ) → Err r ≡ Ok k → ⊥
refused-done r k e = cc

module _ (p : State) where
  -- an accepted reply's next number is a number of p, or the one behind them
  abbrev Next : Replied → Type 0
  Next r =
      (k : ℕ) → r.answer ≡ Ok k → (p.B ≤ get_or r.reply 3 0) × (get_or r.reply 3 0 ≤ suc (last_of p))

  refuse-next : (r : Refusal) (reply : List ℕ) → Next (refuse r reply)
  refuse-next r reply k e = absurd (refused-done r k e)

  rows_next : (first last e : ℕ) (rows : List (List ℕ)) (reply : List ℕ) → p.B ≤ e → e ≤ suc (last_of p)
      → Next (observation_reply first last e rows reply)
  unfolding observation_reply written observation_words
  rows_next first last e rows reply lo hi =
      by_cond Next (leb (length (observation_words first last e rows)) (length reply)) _ _ (λ h k q. (lo, hi))
      (λ h. refuse-next _ reply)

  request-next : (model names reply : List ℕ) → p.B ≤ suc (last_of p) → (q : Request) → gives_next (asked q) ≡ true
      → Next (reply_to model names p reply q)
  unfolding reply_to current_for
  request-next model names reply l (sample path from count) g =
      sample-cases Next reply model names p path from count
      (λ c. refuse-next _ reply) (λ c s. refuse-next _ reply)
      (λ sel c s h. refuse-next _ reply) (λ sel c s h. refuse-next _ reply)
      (λ sel c s lo hi. rows_next _ _ _ _ reply (omega arith) (omega arith))
  request-next model names reply l (current path) g =
      selected-cases Next reply (select model names path) _ (λ s. refuse-next _ reply)
      (λ sel s. rows_next _ _ _ _ reply l (omega arith))
  request-next model names reply l (current_at path number) g =
      at-cases Next reply model names p path number (refuse-next _ reply) (refuse-next _ reply) (refuse-next _ reply)
      (λ sel. rows_next _ _ _ _ reply l (omega arith))
  request-next model names reply l (assets ids) g = absurd (false≢true g)
  request-next model names reply l all_assets g = absurd (false≢true g)

  -- whatever was read
  reading-next : (model names reply : List ℕ) → p.B ≤ suc (last_of p) → (q : Reading) → gives_next q ≡ true
      → Next (reply_reading model names p reply q)
  unfolding reply_reading
  reading-next model names reply l (unread r) g = absurd (false≢true g)
  reading-next model names reply l (asked q) g = request-next model names reply l q g

-- ---- a poll in a state, from a number that isn't 0

module _ (a : Start) (p : State) (low : p.B ≤ suc (last_of p)) (n : ℕ) (pos : 0 < n) (path : Option (List ℕ))
    (count : ℕ) (reply : List ℕ) where
  starts : sample_start p n ≡ n
  starts = rw (ne_eqb n 0 (λ e. omega arith))

  poll : Replied
  poll = reply_to a.model a.names p reply (sample path n count)

  abbrev Is : ℕ → Replied → Type 0
  Is k r = answer_number r.answer ≡ checked_or a p path count k

  poll-late : n < first_of p → Is 17 poll
  unfolding poll
  poll-late l =
      sample-cases (Is 17) reply a.model a.names p path n count
      (λ c. rw c) (λ c s. rw (c, s)) (λ sel c s h. rw (c, s))
      (λ sel c s h. absurd (omega (arith, starts))) (λ sel c s lo hi. absurd (omega (arith, starts)))

  abbrev Fits : Replied → Type 0
  Fits r = Is 0 r ⊎ Is 15 r

  poll-in : first_of p ≤ n → n ≤ suc (last_of p) → Fits poll
  unfolding poll observation_reply written
  poll-in lo hi =
      sample-cases Fits reply a.model a.names p path n count
      (λ c. inl (rw c)) (λ c s. inl (rw (c, s)))
      (λ sel c s h. absurd (omega (arith, starts))) (λ sel c s h. absurd (omega (arith, starts)))
      (λ sel c s lo hi. by_cond Fits (leb _ (length reply)) _ _ (λ f. inl (rw (c, s))) (λ f. inr (rw (c, s))))

-- ---- every list of calls

module _ (a : Start) (p : State) (accepted : begins a ≡ begun p) (cs : List Call) (typed : AllTyped cs) where
  abbrev before : ℕ → State
  before i = state_before a p cs i

  good : (i : ℕ) → Good a.model a.names (before i) (stores_behind a (take i cs)).observations
  good i = behind-good a p accepted (take i cs) (each-take Typed i cs typed)

  -- first of the stores is that of the reference model
  pub first-is : (i : ℕ) → first (stores_behind a (take i cs)).observations ≡ first_of (state_before a p cs i)
  first-is i = let G = good i in rw (G.rep.cap, G.rep.base, store-last a.model a.names (before i) _ G)

  base-is : (i : ℕ) → (before i).B ≡ p.B
  base-is i = base-after a.model a.names (take i cs) p

  last-at : (i : ℕ) → suc (last_of (before i)) ≡ p.B + length (before i).H
  last-at i =
      last-is a.model a.names (before i) _ (good i) ∙ ap (λ (b : ℕ). b + length (before i).H) (base-is i)

  -- last before an earlier call is no higher
  last-rises : (i j : ℕ) → i ≤ j → last_of (before i) ≤ last_of (before j)
  last-rises i j h =
      let g = later-between a cs p i j h in
      let e = ap length g.1 ∙ length-append (before i).H g.0 in
      omega (arith, last-at i, last-at j)

  -- call i's answer and buffer are the reference model's
  module _ (i : ℕ) (text : List ℕ) (x : Answer) (words : List ℕ) (s : Asks a cs i text x words) where
    abbrev told : Replied
    told = reply_reading a.model a.names (before i) s.buffer (read_text text)

    asks-is : (x ≡ told.answer) × (words ≡ told.reply)
    unfolding Reference.reply
    asks-is =
        let r = run_at a.model a.names cs p i (request text s.buffer) s.call in
        let o = ap (λ (os : _). slice_get os i) (calls-agree a p accepted cs typed) in
        let e = rw (good i).right at (sym s.output ∙ o ∙ r) in
        (cc, cc)

  -- a next number that was given is a number, and last + 1 at most
  next-given : (i n : ℕ) → Gave a cs i n → (0 < n) × (n ≤ suc (last_of (before i)))
  next-given i n g =
      let e = asks-is i g.text (Ok g.k) g.words g.asks in
      let l = reading-next (before i) a.model a.names g.asks.buffer
      (omega (arith, last-at i, base-is i)) (read_text g.text) g.gives g.k (sym e.0) in
      let w = ap (λ (ws : List ℕ). get_or ws 3 0) e.1 in
      (omega (arith, (good i).rep.B-pos, l.0, w, g.next), omega (arith, l.1, w, g.next))

  -- a poll's answer
  poll-is : (j n : ℕ) (x : Answer) (q : Polls a cs j n x)
      → x ≡ (reply_to a.model a.names (before j) q.asks.buffer (sample q.path n q.count)).answer
  unfolding reply_reading
  poll-is j n x q = rw q.from at (asks-is j q.text x q.words q.asks).0

  base-low : (i : ℕ) → (before i).B ≤ suc (last_of (before i))
  base-low i = omega (arith, last-at i, base-is i)

  told-late : (i j n : ℕ) (x : Answer) → i < j → Gave a cs i n → (q : Polls a cs j n x)
      → n < first_of (state_before a p cs j)
      → answer_number x ≡ checked_or a (state_before a p cs j) q.path q.count 17
  unfolding poll
  told-late i j n x h g q l =
      ap answer_number (poll-is j n x q)
      ∙ poll-late a (before j) (base-low j) n (next-given i n g).0 q.path q.count q.asks.buffer l

  told_in : (i j n : ℕ) (x : Answer) → i < j → Gave a cs i n → (q : Polls a cs j n x)
      → first_of (state_before a p cs j) ≤ n
      → (answer_number x ≡ checked_or a (state_before a p cs j) q.path q.count 0)
      ⊎ (answer_number x ≡ checked_or a (state_before a p cs j) q.path q.count 15)
  unfolding poll
  told_in i j n x h g q l =
      let b = next-given i n g in
      let hi : n ≤ suc (last_of (before j)) = omega (arith, b.1, last-rises i j (omega arith)) in
      subst
      (λ (v : Answer). (answer_number v ≡ checked_or a (before j) q.path q.count 0)
      ⊎ (answer_number v ≡ checked_or a (before j) q.path q.count 15))
      (sym (poll-is j n x q))
      (poll-in a (before j) (base-low j) n b.0 q.path q.count q.asks.buffer l hi)

pub late : (a : Start) (p : State) → begins a ≡ begun p → (cs : List Call) → AllTyped cs → Told a p cs
late a p e cs t = record { late = told-late a p e cs t; kept_up = told_in a p e cs t }

-- ---- what follows

-- a number behind the checks is 10, or 11, or that number
by_three : (P : ℕ → Type 0) (a : Start) (s : State) (path : Option (List ℕ)) (count n : ℕ) → P 10 → P 11 → P n
    → P (checked_or a s path count n)
by_three P a s path count n x y z =
    by_cond P (ltb s.N count) _ _ (λ h. x) (λ h. go (select a.model a.names path))
  where
    go : (w : Option ℕ) → P (path_or w n)
    go None = y
    go (Some sel) = z

abbrev Neither : ℕ → Type 0
Neither m = (m ≢ 17) × (m ≢ 18)

module _ (a : Start) (p : State) (accepted : begins a ≡ begun p) (cs : List Call) (typed : AllTyped cs) where
  polls : Told a p cs
  polls = late a p accepted cs typed

  module _ (i j n : ℕ) (x : Answer) (h : i < j) (g : Gave a cs i n) (q : Polls a cs j n x) where
    -- 17, if neither 10 nor 11 refuses
    pub late-unless : n < first_of (state_before a p cs j) → answer_number x ≢ 10 → answer_number x ≢ 11
        → answer_number x ≡ 17
    late-unless l =
        subst (λ (m : ℕ). m ≢ 10 → m ≢ 11 → m ≡ 17) (sym (polls.late i j n x h g q l))
        (by_three (λ m. m ≢ 10 → m ≢ 11 → m ≡ 17) a (state_before a p cs j) q.path q.count 17
        (λ y z. absurd (y refl)) (λ y z. absurd (z refl)) (λ y z. refl))

    -- neither 17 nor 18
    pub kept-up-neither : first_of (state_before a p cs j) ≤ n → Neither (answer_number x)
    kept-up-neither l = go (polls.kept_up i j n x h g q l)
      where
        from : (k : ℕ) → Neither k → answer_number x ≡ checked_or a (state_before a p cs j) q.path q.count k
            → Neither (answer_number x)
        from k z e =
            subst Neither (sym e)
            (by_three Neither a (state_before a p cs j) q.path q.count k
            (λ u. omega arith, λ u. omega arith) (λ u. omega arith, λ u. omega arith) z)

        go : (answer_number x ≡ checked_or a (state_before a p cs j) q.path q.count 0)
            ⊎ (answer_number x ≡ checked_or a (state_before a p cs j) q.path q.count 15)
            → Neither (answer_number x)
        go (inl e) = from 0 (λ u. omega arith, λ u. omega arith) e
        go (inr e) = from 15 (λ u. omega arith, λ u. omega arith) e

  -- of the plainest poll, `/sample?from=n`, nothing is tested before its number
  pub late-plain : (i j n : ℕ) (x : Answer) (words : List ℕ) → i < j → Gave a cs i n
      → Asks a cs j (print (sample None n 0)) x words → n < first_of (state_before a p cs j) → answer_number x ≡ 17
  unfolding select
  late-plain i j n x words h g q l =
      let G = good a p accepted cs typed j in
      let top : n < 2 ^ 63 = omega (arith, last-is _ _ _ _ G, G.top) in
      let r = print-reads (sample None n 0) (record { fitting = (tt, top, lit< tt); short = plain-short n top }) in
      rw (le-ltb (state_before a p cs j).N 0 (omega arith)) at
      (polls.late i j n x h g
      (record { text = _; words = words; path = None; count = 0; asks = q; from = r }) l)

-- `from` 0 or absent is never late nor early, whatever the store, if its head is right
pub first-in-range : (m : ℕ) (st : List ℕ) → Head m st
    → in_range (first st) (suc (last st)) (start_of (first st) 0) ≡ Ok tt
unfolding in_range
first-in-range m st h =
    rw (
      le-ltb (first st) (first st) (omega arith),
      le-ltb (suc (last st)) (first st) (omega (arith, h.n_pos, h.b_last)),
    )
