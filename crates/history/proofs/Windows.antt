-- One client's windows: what an accepted sample delivers are H's matching observations between its two numbers, whatever is
-- recorded later, and windows that meet join to the matching observations between the first and the last number.
use mathlib.Core.Path.{◌≡◌, refl, sym, ap, ◌∙◌, subst}
use mathlib.Core.Bool.{Bool, true, false, cond}
use Prim.Native.Nat.{ℕ, zero, suc, ◌+◌, ◌-◌, ◌≤◌}
use native.Mathlib.Nat.{not-suc-le-zero}
use native.Mathlib.Omega.{arith}
use mathlib.Core.List.{List, [], ◌∷◌, ◌++◌, map, map-append, append_assoc, append-nil}
use lib.Dec.{leb, eqb}
use lib.ListN.{length, drop}
use lib.Seq.{slice, take-append-le, drop_at}
use Rattle.spec.specs.Words.{bit}
use Rattle.spec.specs.Model.{has_change, model_ok}
use Rattle.spec.specs.Text.{Reading, read_text}
use Rattle.spec.specs.Text.Request.{sample, current, current_at, assets, all_assets}
use Rattle.spec.specs.Text.Reading.{unread, asked}
use Rattle.spec.specs.Reply.{Replied, refuse, numbers, pairs, observation_words, over, written, observation_reply}
use Rattle.spec.specs.Reply.{read_rows, rows_of}
use Rattle.history.specs.Reference.{State, Observation, keep, within, matching, triple, last_of, first_of}
use Rattle.history.specs.Reference.{Offer, observe_answer, observe_next, offer_next, offers_next, store_answer, store_next}
use Rattle.history.specs.Reference.{sample_start, sample_end, reply_to, reply_reading}
use Rattle.history.specs.Reference
use Rattle.history.specs.History.{Call, Start, Window, window_of_reading, window_of_answer, windows_of_outputs}
use Rattle.history.specs.History.{windows_of_call, Meets, last_next, joined, set_selected, selection, matching_rows}
use Rattle.history.specs.History.{offers_of, reference_output, reference_next, reference_after}
use Rattle.history.specs.History.Call.{observe, batch, line, store_asset, request, body}
use Rattle.spec.specs.declared.Refusal.TheVariants.{Space}
use Rattle.std.specs.Prelude.{Ok, Err, Option, Some}
use Rattle.std.specs.List.{AllByRecursion as Each}
use Rattle.spec.proofs.Elements.{each-append}
use Rattle.spec.specs.Answers.{Answer, ObserveAnswer}
use Rattle.spec.specs.declared.Noted.TheVariants.{Recorded, Same}
use Rattle.history.proofs.Recorded.{Numbered, keep_append, within-slice}
use Rattle.spec.proofs.Reply.{length-numbers}
use Rattle.history.proofs.Requests.{sample-cases}

-- ---- parts of H

slice-join : (l : List Observation) (i j k : ℕ) → i ≤ j → j ≤ k → slice i j l ++ slice j k l ≡ slice i k l
slice-join l zero zero k h g = refl
slice-join l zero (suc j) zero h g = absurd (not-suc-le-zero g)
slice-join [] zero (suc j) (suc k) h g = refl
slice-join (x ∷ l) zero (suc j) (suc k) h g = ap (λ (r : List Observation). x ∷ r) (slice-join l zero j k (omega arith) (omega arith))
slice-join l (suc i) zero k h g = absurd (not-suc-le-zero h)
slice-join l (suc i) (suc j) zero h g = absurd (not-suc-le-zero g)
slice-join [] (suc i) (suc j) (suc k) h g = refl
slice-join (x ∷ l) (suc i) (suc j) (suc k) h g = slice-join l i j k (omega arith) (omega arith)

matching-join : (sel : ℕ) (H : List Observation) (B a b c : ℕ) → Numbered B H → a ≤ b → b ≤ c
    → map triple (matching sel a b H) ++ map triple (matching sel b c H) ≡ map triple (matching sel a c H)
matching-join sel H B a b c n h g =
    sym (map-append triple (matching sel a b H) (matching sel b c H))
    ∙ ap (map triple)
    (sym (keep_append (λ o. bit sel o.item) (within a b H) (within b c H))
    ∙ ap (keep (λ o. bit sel o.item))
    (rw (within-slice H B a b n, within-slice H B b c n, within-slice H B a c n) (slice-join H (a - B) (b - B) (c - B) (omega arith) (omega arith))))

-- what is recorded later changes nothing below
matching-later : (sel : ℕ) (H X : List Observation) (B a b : ℕ) → Numbered B H → Numbered B (H ++ X) → b ≤ B + length H
    → matching sel a b (H ++ X) ≡ matching sel a b H
matching-later sel H X B a b n n' h =
    ap (keep (λ o. bit sel o.item)) (rw (within-slice H B a b n, within-slice (H ++ X) B a b n', take-append-le (b - B) H X (omega arith)))

-- ---- rows read back from a reply

read-rows : (os : List Observation) (X Y : List ℕ)
    → read_rows (length (map triple os)) (numbers (map triple os) ++ X) (pairs (map triple os) ++ Y) ≡ map triple os
unfolding read_rows numbers pairs
read-rows [] X Y = refl
read-rows (o ∷ os) X Y = ap (λ (r : List (List ℕ)). triple o ∷ r) (read-rows os X Y)

-- a reply's words, with whatever stands behind them, read back to its rows
pub rows_back : (first last next : ℕ) (os : List Observation) (tail : List ℕ) → rows_of (observation_words first last next (map triple os) ++ tail) ≡ map triple os
unfolding observation_words
rows_back first last next os tail =
    rw (
      append_assoc (numbers (map triple os)) (pairs (map triple os)) tail,
      drop_at (numbers (map triple os)) (pairs (map triple os) ++ tail) (length (map triple os)) (length-numbers (map triple os)),
    )
    (read-rows os (pairs (map triple os) ++ tail) tail)

-- ---- an accepted sample

module _ (a : Start) where
  -- its rows are H's matching ones between its numbers
  abbrev Truth : List Observation → Window → Type 0
  Truth H w = (w.rows ≡ matching_rows a w.path w.begin w.next H) × (w.begin ≤ w.next)

  abbrev pub AllTrue : List Observation → List Window → Type 0
  AllTrue H = Each (Truth H)

  -- a reply of a state whose H is later H ++ X
  reply-true : (path : Option (List ℕ)) (first last from count e B : ℕ) (H X : List Observation) (reply : List ℕ)
      → cond (eqb from 0) first from ≤ e → e ≤ B + length H → Numbered B H → Numbered B (H ++ X)
      → (r : Replied) → r ≡ observation_reply first last e (map triple (matching (selection a path) (cond (eqb from 0) first from) e H)) reply
      → AllTrue (H ++ X) (window_of_answer r.answer (asked (sample path from count)) r.reply)
  unfolding observation_reply written observation_words
  reply-true path first last from count e B H X reply le hi n n' r hr =
      subst (λ (x : Replied). AllTrue (H ++ X) (window_of_answer x.answer (asked (sample path from count)) x.reply)) (sym hr)
      (go (leb (length ws) (length reply)))
    where
      f : ℕ
      f = cond (eqb from 0) first from

      os : List Observation
      os = matching (selection a path) f e H

      ws : List ℕ
      ws = observation_words first last e (map triple os)

      out : Bool → Replied
      out t = cond t (record { answer = Ok (length (map triple os)); reply = over ws reply }) (refuse Space reply)

      go : (t : Bool) → AllTrue (H ++ X) (window_of_answer (out t).answer (asked (sample path from count)) (out t).reply)
      go false = tt
      go true = (
        (
          rows_back first last e os (drop (length ws) reply)
              ∙ ap (map triple) (sym (matching-later (selection a path) H X B f e n n' hi)),
          le,
        ),
        tt,
      )

  -- a sample of the reference model
  sample-true : (path : Option (List ℕ)) (from count : ℕ) (p : State) (X : List Observation) (reply : List ℕ)
      → Numbered p.B p.H → Numbered p.B (p.H ++ X) → suc (last_of p) ≡ p.B + length p.H → (r : Replied)
      → r ≡ reply_to a.model a.names p reply (sample path from count)
      → AllTrue (p.H ++ X) (window_of_answer r.answer (asked (sample path from count)) r.reply)
  sample-true path from count p X reply n n' l r hr =
      subst Goal (sym hr)
      (sample-cases Goal reply a.model a.names p path from count
      (λ c. tt) (λ c s. tt) (λ sel c s h. tt) (λ sel c s h. tt)
      (λ sel c s lo hi. reply-true path (first_of p) (last_of p) from count e p.B p.H X reply
      (omega arith) (omega (arith, l)) n n' (rows (Some sel)) (ap rows (sym s))))
    where
      f : ℕ
      f = sample_start p from

      e : ℕ
      e = sample_end p f count

      rows : Option ℕ → Replied
      rows s = observation_reply (first_of p) (last_of p) e (map triple (matching (set_selected s) f e p.H)) reply

      Goal : Replied → Type 0
      Goal x = AllTrue (p.H ++ X) (window_of_answer x.answer (asked (sample path from count)) x.reply)

  -- ---- what the reference model records later

  abbrev pub Later : List Observation → List Observation → Type 0
  Later H K = (X : List Observation) × (K ≡ H ++ X)

  later-self : (H : List Observation) → Later H H
  later-self H = ([], sym (append-nil H))

  later_trans : (H K L : List Observation) → Later H K → Later K L → Later H L
  later_trans H K L x y = (x.0 ++ y.0, y.1 ∙ ap (λ (z : List Observation). z ++ y.0) x.1 ∙ append_assoc H x.0 y.0)

  later-offer : (p : State) (o : Offer) → Later p.H (offer_next a.model a.names p o).H
  later-offer p o = go (observe_answer a.model a.names p o.item o.value)
    where
      go : (x : ObserveAnswer) → Later p.H (observe_next x p o.item o.time o.host o.value).H
      go (Ok (Recorded n)) = (_, refl)
      go (Ok Same) = later-self p.H
      go (Err r) = later-self p.H

  later-offers : (os : List Offer) (p : State) → Later p.H (offers_next a.model a.names p os).H
  unfolding offers_next
  later-offers [] p = later-self p.H
  later-offers (o ∷ os) p =
      let q = offer_next a.model a.names p o in
      later_trans p.H q.H (offers_next a.model a.names q os).H (later-offer p o) (later-offers os q)

  later-next : (p : State) (c : Call) → Later p.H (reference_next a.model a.names p c).H
  later-next p (observe item time host v) = later-offers (offers_of a.model a.names (observe item time host v)) p
  later-next p (batch records host answers) =
      later-offers (offers_of a.model a.names (batch records host answers)) p
  later-next p (line text host) = later-offers (offers_of a.model a.names (line text host)) p
  later-next p (store_asset id content host) = go (store_answer a.model a.names p id content) (has_change a.model) refl
    where
      go : (x : Answer) (t : Bool) → has_change a.model ≡ t → Later p.H (store_next x a.model p id content host).H
      go (Ok n) true e = rw e (_, refl)
      go (Ok n) false e = rw e (later-self p.H)
      go (Err r) t e = later-self p.H
  later-next p (request text reply) = later-self p.H
  later-next p (body id) = later-self p.H

  pub later-after : (cs : List Call) (p : State) → Later p.H (reference_after a.model a.names p cs).H
  unfolding reference_after
  later-after [] p = later-self p.H
  later-after (c ∷ cs) p =
      later_trans p.H (reference_next a.model a.names p c).H (reference_after a.model a.names (reference_next a.model a.names p c) cs).H
      (later-next p c) (later-after cs (reference_next a.model a.names p c))

  -- what one call delivers is true of every later H
  quiet : (H : List Observation) (x : Answer) (q : Reading) (reply : List ℕ) → AllTrue H (window_of_reading q reply) → AllTrue H (window_of_answer x q reply)
  quiet H (Ok k) q reply h = h
  quiet H (Err r) q reply h = tt

  pub call-true : (p : State) (c : Call) (X : List Observation) → model_ok a.model a.names ≡ true → Numbered p.B p.H
      → suc (last_of p) ≡ p.B + length p.H → Numbered p.B (p.H ++ X)
      → AllTrue (p.H ++ X) (windows_of_call c (reference_output a.model a.names p c))
  unfolding windows_of_outputs Reference.reply reply_reading
  call-true p (observe item time host v) X right n l n' = tt
  call-true p (batch records host answers) X right n l n' = tt
  call-true p (line text host) X right n l n' = tt
  call-true p (store_asset id content host) X right n l n' = tt
  call-true p (request text reply) X right n l n' =
      rw right
      (each-append _ (window_of_answer (replied' (read_text text)).answer (read_text text) (replied' (read_text text)).reply) [] (go (read_text text)) tt)
    where
      replied' : Reading → Replied
      replied' q = reply_reading a.model a.names p reply q

      go : (q : Reading) → AllTrue (p.H ++ X) (window_of_answer (replied' q).answer q (replied' q).reply)
      go (unread r) = tt
      go (asked (sample path from count)) = sample-true path from count p X reply n n' l (replied' (asked (sample path from count))) refl
      go (asked (current path)) = quiet (p.H ++ X) (replied' (asked (current path))).answer (asked (current path)) (replied' (asked (current path))).reply tt
      go (asked (current_at path number)) = quiet (p.H ++ X) (replied' (asked (current_at path number))).answer (asked (current_at path number)) (replied' (asked (current_at path number))).reply tt
      go (asked (assets ids)) = quiet (p.H ++ X) (replied' (asked (assets ids))).answer (asked (assets ids)) (replied' (asked (assets ids))).reply tt
      go (asked all_assets) = quiet (p.H ++ X) (replied' (asked all_assets)).answer (asked all_assets) (replied' (asked all_assets)).reply tt
  call-true p (body id) X right n l n' = tt

  -- ---- windows that meet

  -- over equal selections
  abbrev pub SameItems : Option (List ℕ) → Option (List ℕ) → Type 0
  SameItems path other = selection a other ≡ selection a path

  pub meet : (path : Option (List ℕ)) (H : List Observation) (B f n : ℕ) (ws : List Window) → Numbered B H → f ≤ n → AllTrue H ws → Meets (SameItems path) n ws
      → matching_rows a path f n H ++ joined ws ≡ matching_rows a path f (last_next n ws) H
  unfolding joined last_next
  meet path H B f n [] k h t m = append-nil (matching_rows a path f n H)
  meet path H B f n (w ∷ ws) k h t m =
      let e : w.rows ≡ matching_rows a path n w.next H =
      t.0.0
      ∙ ap (λ (s : ℕ). map triple (matching s w.begin w.next H)) m.0
      ∙ ap (λ (x : ℕ). matching_rows a path x w.next H) m.1 in
      let l : n ≤ w.next = omega (arith, t.0.1, m.1) in
      ap (λ (r : List (List ℕ)). matching_rows a path f n H ++ (r ++ joined ws)) e
      ∙ sym (append_assoc (matching_rows a path f n H) (matching_rows a path n w.next H) (joined ws))
      ∙ ap (λ (r : List (List ℕ)). r ++ joined ws) (matching-join (selection a path) H B f n w.next k h l)
      ∙ meet path H B f w.next ws k (omega arith) t.1 m.2

  -- equal texts select equally
  pub same-items : (path : Option (List ℕ)) (n : ℕ) (ws : List Window) → Meets (λ other. other ≡ path) n ws → Meets (SameItems path) n ws
  same-items path n [] m = tt
  same-items path n (w ∷ ws) m = (ap (selection a) m.0, m.1, same-items path w.next ws m.2)
