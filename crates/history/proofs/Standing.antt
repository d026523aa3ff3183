-- What stands on a condition item, as the full history gives it: the entries' codes differ, eight are enough behind
-- 19; a code stands by the item's newest observation of it, where that is Warning or Fault and nothing cleared all
-- behind it; and the codes stand in the order in which they were added.
use mathlib.Core.Path.{◌≡◌, refl, sym, ap, ◌∙◌}
use mathlib.Core.Logic.{◌≢◌, ◌⊎◌, inl, inr, ◌↔◌}
use mathlib.Core.Bool.{Bool, true, false, cond, ◌&&◌, ◌||◌, not, true≢false, false≢true}
use Prim.Native.Nat.{ℕ, suc, ◌≤◌, ◌<◌}
use native.Mathlib.Omega.{arith}
use mathlib.Core.List.{List, [], ◌∷◌, ◌++◌, map, append-nil, append_assoc, nil≢cons}
use lib.Dec.{leb, ltb, eqb}
use lib.ListN.{length, get_or, length-append, length-map}
use lib.Seq.{get_or-append_seam}
use borrow.Author.Tests.{eqb-true, eqb-false, leb-false, eq-eqb, ltb-true, ltb-false}
use Rattle.std.specs.List.{AllByRecursion as Each}
use Rattle.history.specs.Reference.{Observation, nothing, keep, newest_or, newest}
use Rattle.history.specs.Standing.{raised, is_standing, of_code, stands_as, stands_in, with_entry, by_level, by_value}
use Rattle.history.specs.Standing.{step_value, standing_from, standing, found, shown, entries_of, nothing_stands}
use Rattle.history.specs.Standing.{crowded_standing}
use Rattle.spec.specs.declared.Level.TheVariants.{Normal, Warning, Fault}
use Rattle.spec.specs.declared.Value.{Value}
use Rattle.spec.specs.declared.Value.TheVariants.{Unavailable, Sample, Event, Condition}
use Rattle.spec.proofs.Elements.{each-imp, each-map, each-append, each-parts}
use Rattle.spec.proofs.Words.{and_left, and_right, by_cond, by-test}
use Rattle.history.proofs.Recorded.{keep_append}

-- ---- one code

-- a value stands as one code
pub one_code : (c d : ℕ) (v : Value) → stands_as c v ≡ true → stands_as d v ≡ true → c ≡ d
one_code c d Unavailable h g = absurd (false≢true h)
one_code c d (Sample x) h g = absurd (false≢true h)
one_code c d (Event e) h g = absurd (false≢true h)
one_code c d (Condition l e) h g =
    sym (eqb-true e c (and_right (raised l) _ h)) ∙ eqb-true e d (and_right (raised l) _ g)

pub other-code : (c d : ℕ) (v : Value) → c ≢ d → stands_as d v ≡ true → stands_as c v ≡ false
other-code c d v n h = by-test (stands_as c v) (λ e. absurd (n (one_code c d v e h))) (λ e. e)

-- what code c stands by in S
abbrev pub entry : ℕ → List Observation → List Observation
entry c S = keep (λ x. stands_as c x.value) S

-- no code stands twice
abbrev pub Differ : List Observation → Type 0
Differ S = (c : ℕ) → length (entry c S) ≤ 1

pub none_in : (c : ℕ) (S : List Observation) → length (entry c S) ≤ 0 → stands_in c S ≡ false
unfolding keep stands_in
none_in c [] h = refl
none_in c (x ∷ S) h =
    by-test (stands_as c x.value) (λ e. absurd (omega (arith, rw e at h))) (λ e. rw e (none_in c S (rw e at h)))

pub in-none : (c : ℕ) (S : List Observation) → stands_in c S ≡ false → entry c S ≡ []
unfolding keep stands_in
in-none c [] h = refl
in-none c (x ∷ S) h =
    by-test (stands_as c x.value) (λ e. absurd (true≢false (rw e at h))) (λ e. rw e (in-none c S (rw e at h)))

-- o in the place of code d's entry
abbrev pub swap : ℕ → Observation → Observation → Observation
swap d o x = cond (stands_as d x.value) o x

pub swap-none : (d : ℕ) (o : Observation) (S : List Observation) → stands_in d S ≡ false → map (swap d o) S ≡ S
unfolding stands_in
swap-none d o [] h = refl
swap-none d o (x ∷ S) h =
    by-test (stands_as d x.value) (λ e. absurd (true≢false (rw e at h))) (λ e. rw (e, swap-none d o S (rw e at h)))

module _ (d : ℕ) (o : Observation) (s : stands_as d o.value ≡ true) where
  swap-same : (S : List Observation) → length (entry d S) ≤ 1 → stands_in d S ≡ true
      → entry d (map (swap d o) S) ≡ o ∷ []
  unfolding keep stands_in
  swap-same [] l h = absurd (false≢true h)
  swap-same (x ∷ S) l h =
      by-test (stands_as d x.value)
      (λ e.
      let z : stands_in d S ≡ false = none_in d S (omega (arith, rw e at l)) in
      rw (e, s, swap-none d o S z, in-none d S z))
      (λ e. rw (e, e) (swap-same S (rw e at l) (rw e at h)))

  swap-other : (c : ℕ) → c ≢ d → (S : List Observation) → entry c (map (swap d o) S) ≡ entry c S
  unfolding keep
  swap-other c n [] = refl
  swap-other c n (x ∷ S) =
      by-test (stands_as d x.value)
      (λ e. rw (e, other-code c d o.value n s, other-code c d x.value n e) (swap-other c n S))
      (λ e. rw (e, swap-other c n S))

  -- what the codes stand by behind o
  with-same : (S : List Observation) → length (entry d S) ≤ 1 → entry d (with_entry d o S) ≡ o ∷ []
  unfolding with_entry keep
  with-same S l =
      by-test (stands_in d S)
      (λ e. rw e (swap-same S l e))
      (λ e. rw (e, keep_append (λ x. stands_as d x.value) S (o ∷ []), in-none d S e, s))

  with-other : (c : ℕ) → c ≢ d → (S : List Observation) → entry c (with_entry d o S) ≡ entry c S
  unfolding with_entry keep
  with-other c n S =
      by-test (stands_in d S)
      (λ e. rw e (swap-other c n S))
      (λ e. rw (e, keep_append (λ x. stands_as c x.value) S (o ∷ []), other-code c d o.value n s)
      (append-nil (entry c S)))

-- Normal d takes its entry out, and no other
without-same : (d : ℕ) (S : List Observation) → entry d (keep (λ x. not (stands_as d x.value)) S) ≡ []
unfolding keep
without-same d [] = refl
without-same d (x ∷ S) =
    by-test (stands_as d x.value) (λ e. rw e (without-same d S)) (λ e. rw (e, e) (without-same d S))

without_other : (c d : ℕ) (S : List Observation) → c ≢ d
    → entry c (keep (λ x. not (stands_as d x.value)) S) ≡ entry c S
unfolding keep
without_other c d [] n = refl
without_other c d (x ∷ S) n =
    by-test (stands_as d x.value)
    (λ e. rw (e, other-code c d x.value n e) (without_other c d S n))
    (λ e. rw (e, without_other c d S n))

-- ---- one step, code by code

-- Unavailable or Normal 0
abbrev pub clears_all : Value → Bool
clears_all Unavailable = true
clears_all (Sample x) = true
clears_all (Event c) = true
clears_all (Condition l c) = not (raised l) && eqb c 0

-- what c stands by behind o of value v, where it stood by E
abbrev pub next_entry : ℕ → List Observation → Observation → Value → List Observation
next_entry c E o v = cond (clears_all v) [] (cond (of_code c v) (cond (is_standing v) (o ∷ []) []) E)

module _ (c : ℕ) (S : List Observation) (o : Observation) (r : Differ S) where
  raise : (d : ℕ) → stands_as d o.value ≡ true → entry c (with_entry d o S) ≡ cond (eqb d c) (o ∷ []) (entry c S)
  raise d s =
      by-test (eqb d c)
      (λ e. let q : c ≡ d = sym (eqb-true d c e) in rw (e, q) (with-same d o s S (r d)))
      (λ e. rw e (with-other d o s c (λ q. eqb-false d c e (sym q)) S))

  clear : (d : ℕ) → entry c (by_level S o Normal d) ≡ cond (eqb d 0) [] (cond (eqb d c) [] (entry c S))
  unfolding keep
  clear d =
      by-test (eqb d 0)
      (λ z. rw z)
      (λ z.
      by-test (eqb d c)
      (λ e. let q : c ≡ d = sym (eqb-true d c e) in rw (z, e, q) (without-same d S))
      (λ e. rw (z, e) (without_other c d S (λ q. eqb-false d c e (sym q)))))

  entry-by : (v : Value) → o.value ≡ v → entry c (by_value S o v) ≡ next_entry c (entry c S) o v
  unfolding keep
  entry-by Unavailable e = refl
  entry-by (Sample x) e = refl
  entry-by (Event d) e = refl
  entry-by (Condition Normal d) e = clear d
  entry-by (Condition Warning d) e = raise d (rw e (eq-eqb d d refl))
  entry-by (Condition Fault d) e = raise d (rw e (eq-eqb d d refl))

-- each code by itself
pub entry-step : (c : ℕ) (S : List Observation) (o : Observation) → Differ S
    → entry c (step_value S o) ≡ next_entry c (entry c S) o o.value
entry-step c S o r = entry-by c S o r o.value refl

-- codes go on to differ
pub differ-step : (S : List Observation) (o : Observation) → Differ S → Differ (step_value S o)
differ-step S o r c =
    rw (entry-step c S o r)
    (by_cond (λ E. length E ≤ 1) (clears_all o.value) [] _ (λ e. omega arith)
    (λ e.
    by_cond (λ E. length E ≤ 1) (of_code c o.value) _ (entry c S)
    (λ f. by_cond (λ E. length E ≤ 1) (is_standing o.value) (o ∷ []) [] (λ g. omega arith) (λ g. omega arith))
    (λ f. r c)))

-- ---- one step, entry by entry

each_keep : (P : Observation → Type 0) (q : Observation → Bool) (S : List Observation) → Each P S → Each P (keep q S)
unfolding keep
each_keep P q [] h = tt
each_keep P q (x ∷ S) h =
    by_cond (Each P) (q x) _ _ (λ e. (h.0, each_keep P q S h.1)) (λ e. each_keep P q S h.1)

module _ (P : Observation → Type 0) (S : List Observation) (o : Observation) (h : Each P S) where
  each-with : (c : ℕ) → P o → Each P (with_entry c o S)
  unfolding with_entry
  each-with c p =
      by_cond (Each P) (stands_in c S) _ _
      (λ e. each-map P (swap c o) S (each-imp (λ x q. by_cond P (stands_as c x.value) o x (λ f. p) (λ f. q)) S h))
      (λ e. each-append P S (o ∷ []) h (p, tt))

  each-by : (v : Value) → (is_standing v ≡ true → P o) → Each P (by_value S o v)
  each-by Unavailable p = tt
  each-by (Sample x) p = tt
  each-by (Event c) p = tt
  each-by (Condition Normal c) p =
      by_cond (Each P) (eqb c 0) [] _ (λ e. tt) (λ e. each_keep P (λ x. not (stands_as c x.value)) S h)
  each-by (Condition Warning c) p = each-with c (p refl)
  each-by (Condition Fault c) p = each-with c (p refl)

-- ---- eight are enough

length-keep : (q : Observation → Bool) (S : List Observation) → length (keep q S) ≤ length S
unfolding keep
length-keep q [] = omega arith
length-keep q (x ∷ S) =
    by-test (q x) (λ e. rw e (omega (arith, length-keep q S))) (λ e. rw e (omega (arith, length-keep q S)))

module _ (S : List Observation) (o : Observation) (h : length S ≤ 8) where
  few-with : (c : ℕ) → not (stands_in c S) && leb 8 (length S) ≡ false → length (with_entry c o S) ≤ 8
  unfolding with_entry
  few-with c g =
      by-test (stands_in c S)
      (λ e. rw e (omega (arith, length-map S (swap c o))))
      (λ e. rw e (omega (arith, length-append S (o ∷ []), leb-false 8 (length S) (rw e at g))))

  few-by : (v : Value) → crowded_standing S v ≡ false → length (by_value S o v) ≤ 8
  few-by Unavailable g = omega arith
  few-by (Sample x) g = omega arith
  few-by (Event c) g = omega arith
  few-by (Condition Normal c) g =
      by-test (eqb c 0) (λ e. rw e (omega arith))
      (λ e. rw e (omega (arith, length-keep (λ x. not (stands_as c x.value)) S)))
  few-by (Condition Warning c) g = few-with c g
  few-by (Condition Fault c) g = few-with c g

-- what 19 lets through leaves at most eight
pub few-step : (S : List Observation) (o : Observation) → length S ≤ 8 → crowded_standing S o.value ≡ false
    → length (step_value S o) ≤ 8
few-step S o h g = few-by S o h o.value g

-- ---- an item's whole record

-- what each of item i's observations keeps holds of what stands and the newest
pub along : (P : List Observation → Observation → Type 0) (i : ℕ) (S : List Observation) (d : Observation)
    (H : List Observation)
    → ((k : ℕ) → k < length H → (get_or H k nothing).item ≡ i → (S : List Observation) (n : Observation) → P S n
    → P (step_value S (get_or H k nothing)) (get_or H k nothing))
    → P S d → P (standing_from S i H) (newest_or d i H)
unfolding standing_from newest_or
along P i S d [] f p = p
along P i S d (o ∷ H) f p =
    by-test (eqb o.item i)
    (λ e.
    rw e
    (along P i (step_value S o) o H (λ k h. f (suc k) (omega arith))
    (f 0 (omega arith) (eqb-true o.item i e) S d p)))
    (λ e. rw e (along P i S d H (λ k h. f (suc k) (omega arith)) p))

pub standing-append : (X Y S : List Observation) (i : ℕ)
    → standing_from S i (X ++ Y) ≡ standing_from (standing_from S i X) i Y
unfolding standing_from
standing-append [] Y S i = refl
standing-append (o ∷ X) Y S i = standing-append X Y (cond (eqb o.item i) (step_value S o) S) i

pub standing-snoc : (G : List Observation) (o : Observation) (i : ℕ)
    → standing i (G ++ (o ∷ [])) ≡ cond (eqb o.item i) (step_value (standing i G) o) (standing i G)
unfolding standing_from
standing-snoc G o i = standing-append G (o ∷ []) [] i

-- S stands and n, if there is one, is the newest: all keep Q, S holds Warnings and Faults, no code twice, none only if
-- n is neither, and none if n is Unavailable
pub record Sound (Q : Observation → Type 0) (S : List Observation) (n : Observation) : Type 0 where
  pub stand : Each (λ x. (is_standing x.value ≡ true) × Q x) S
  pub new : eqb n.number 0 ≡ false → Q n
  pub differ : Differ S
  pub quiet : nothing_stands S ≡ true → is_standing n.value ≡ false
  pub unavailable : n.value ≡ Unavailable → S ≡ []

pub with-some : (c : ℕ) (o : Observation) (S : List Observation) → nothing_stands (with_entry c o S) ≡ false
unfolding with_entry stands_in
with-some c o [] = refl
with-some c o (x ∷ S) =
    by-test (stands_in c (x ∷ S)) (λ e. rw e) (λ e. rw e)

quiet_by : (S : List Observation) (o : Observation) (v : Value) → nothing_stands (by_value S o v) ≡ true
    → is_standing v ≡ false
quiet_by S o Unavailable h = refl
quiet_by S o (Sample x) h = refl
quiet_by S o (Event c) h = refl
quiet_by S o (Condition Normal c) h = refl
quiet_by S o (Condition Warning c) h = absurd (false≢true (sym (with-some c o S) ∙ h))
quiet_by S o (Condition Fault c) h = absurd (false≢true (sym (with-some c o S) ∙ h))

pub sound-step : (Q : Observation → Type 0) (S : List Observation) (n o : Observation) → Q o → Sound Q S n
    → Sound Q (step_value S o) o
sound-step Q S n o q s =
    record {
      stand = each-by (λ x. (is_standing x.value ≡ true) × Q x) S o s.stand o.value (λ e. (e, q));
      new = λ e. q;
      differ = differ-step S o s.differ;
      quiet = quiet_by S o o.value;
      unavailable = λ e. ap (by_value S o) e;
    }

pub sound : (Q : Observation → Type 0) (i : ℕ) (H : List Observation)
    → ((k : ℕ) → k < length H → (get_or H k nothing).item ≡ i → Q (get_or H k nothing))
    → Sound Q (standing i H) (newest i H)
unfolding keep
sound Q i H f =
    along (Sound Q) i [] nothing H (λ k h e S n s. sound-step Q S n (get_or H k nothing) (f k h e) s)
    (record {
      stand = tt;
      new = λ e. absurd (true≢false e);
      differ = λ c. omega arith;
      quiet = λ e. refl;
      unavailable = λ e. refl;
    })

-- codes of the entries differ
pub codes-differ : (i : ℕ) (H : List Observation) → Differ (standing i H)
codes-differ i H = (sound (λ o. Unit {0}) i H (λ k h e. tt)).differ

-- with none standing the entries are the newest alone
pub none-standing : (i : ℕ) (H : List Observation) → standing i H ≡ [] → entries_of 2 i H ≡ found (newest i H)
unfolding entries_of
none-standing i H e = rw e

-- and some stand: those
pub some-standing : (i : ℕ) (H : List Observation) → nothing_stands (standing i H) ≡ false
    → entries_of 2 i H ≡ standing i H
unfolding entries_of
some-standing i H e = go (standing i H) e
  where
    go : (S : List Observation) → nothing_stands S ≡ false → shown S (newest i H) ≡ S
    go [] h = absurd (true≢false h)
    go (x ∷ S) h = refl

-- ---- a code stands by the newest observation of it

-- an observation of item i that clears all, or is of code c
abbrev pub touches : ℕ → ℕ → Observation → Bool
touches c i x = eqb x.item i && (clears_all x.value || of_code c x.value)

-- o is item i's newest of code c, Warning or Fault, and nothing behind it clears all
pub record Stands (c i : ℕ) (H : List Observation) (o : Observation) : Type 0 where
  pub before : List Observation
  pub behind : List Observation
  pub parts : H ≡ before ++ (o ∷ behind)
  pub item : o.item ≡ i
  pub level : stands_as c o.value ≡ true
  pub newest : Each (λ x. touches c i x ≡ false) behind

-- what c stands by behind H, where it stood by E
entry_from : ℕ → ℕ → List Observation → List Observation → List Observation
entry_from c i E [] = E
entry_from c i E (o ∷ H) = entry_from c i (cond (eqb o.item i) (next_entry c E o o.value) E) H

entry-from : (c i : ℕ) (S H : List Observation) → Differ S → entry c (standing_from S i H) ≡ entry_from c i (entry c S) H
unfolding standing_from entry_from
entry-from c i S [] r = refl
entry-from c i S (o ∷ H) r =
    by-test (eqb o.item i)
    (λ e. rw (e, sym (entry-step c S o r)) (entry-from c i (step_value S o) H (differ-step S o r)))
    (λ e. rw e (entry-from c i S H r))

-- an observation that touches c decides what it stands by, another leaves it
standing-keeps : (c : ℕ) (v : Value) → stands_as c v ≡ true
    → (clears_all v ≡ false) × (of_code c v ≡ true) × (is_standing v ≡ true)
standing-keeps c Unavailable h = absurd (false≢true h)
standing-keeps c (Sample x) h = absurd (false≢true h)
standing-keeps c (Event d) h = absurd (false≢true h)
standing-keeps c (Condition l d) h =
    let r : raised l ≡ true = and_left (raised l) _ h in
    (rw r, and_right (raised l) _ h, r)

module _ (c i : ℕ) (E : List Observation) (o : Observation) where
  untouched : touches c i o ≡ false → cond (eqb o.item i) (next_entry c E o o.value) E ≡ E
  untouched h =
      by-test (eqb o.item i)
      (λ e.
      by-test (clears_all o.value)
      (λ f. absurd (true≢false (rw (e, f) at h)))
      (λ f. by-test (of_code c o.value) (λ g. absurd (true≢false (rw (e, f, g) at h))) (λ g. rw (e, f, g))))
      (λ e. rw e)

  decided : o.item ≡ i → stands_as c o.value ≡ true → cond (eqb o.item i) (next_entry c E o o.value) E ≡ o ∷ []
  decided e s =
      let k = standing-keeps c o.value s in
      rw (eq-eqb o.item i e, k.0, k.1, k.2)

  -- and so back: what c stands by is o, or what it stood by
  decides : (x : Observation) → cond (eqb o.item i) (next_entry c E o o.value) E ≡ x ∷ []
      → ((o ≡ x) × (o.item ≡ i) × (stands_as c o.value ≡ true)) ⊎ ((E ≡ x ∷ []) × (touches c i o ≡ false))
  decides x h =
      by-test (eqb o.item i)
      (λ e.
      by-test (clears_all o.value)
      (λ f. absurd (nil≢cons (rw (e, f) at h)))
      (λ f.
      by-test (of_code c o.value)
      (λ g.
      by-test (is_standing o.value)
      (λ s. inl (head-is (rw (e, f, g, s) at h), eqb-true o.item i e, rw (s, g)))
      (λ s. absurd (nil≢cons (rw (e, f, g, s) at h))))
      (λ g. inr (rw (e, f, g) at h, rw (e, f, g)))))
      (λ e. inr (rw e at h, rw e))
    where
      head-is : ◌≡◌ {A = List Observation} (o ∷ []) (x ∷ []) → o ≡ x
      head-is q = cc

still : (c i : ℕ) (E H : List Observation) → Each (λ x. touches c i x ≡ false) H → entry_from c i E H ≡ E
unfolding entry_from
still c i E [] h = refl
still c i E (o ∷ H) h = rw (untouched c i E o h.0) (still c i E H h.1)

stands_from : (c i : ℕ) (E X : List Observation) (o : Observation) (Y : List Observation) → o.item ≡ i
    → stands_as c o.value ≡ true
    → Each (λ x. touches c i x ≡ false) Y → entry_from c i E (X ++ (o ∷ Y)) ≡ o ∷ []
unfolding entry_from
stands_from c i E [] o Y e s h =
    ap (λ (F : List Observation). entry_from c i F Y) (decided c i E o e s) ∙ still c i (o ∷ []) Y h
stands_from c i E (x ∷ X) o Y e s h =
    stands_from c i (cond (eqb x.item i) (next_entry c E x x.value) E) X o Y e s h

from-stands : (c i : ℕ) (E H : List Observation) (o : Observation) → entry_from c i E H ≡ o ∷ []
    → Stands c i H o ⊎ ((E ≡ o ∷ []) × Each (λ x. touches c i x ≡ false) H)
unfolding entry_from
from-stands c i E [] o h = inr (h, tt)
from-stands c i E (x ∷ H) o h = go (from-stands c i (cond (eqb x.item i) (next_entry c E x x.value) E) H o h)
  where
    go : Stands c i H o
        ⊎ ((cond (eqb x.item i) (next_entry c E x x.value) E ≡ o ∷ []) × Each (λ x. touches c i x ≡ false) H)
        → Stands c i (x ∷ H) o ⊎ ((E ≡ o ∷ []) × Each (λ x. touches c i x ≡ false) (x ∷ H))
    go (inl s) =
        inl
        (record {
          before = x ∷ s.before;
          behind = s.behind;
          parts = ap (λ (l : List Observation). x ∷ l) s.parts;
          item = s.item;
          level = s.level;
          newest = s.newest;
        })
    go (inr r) = last (decides c i E x o r.0)
      where
        last : ((x ≡ o) × (x.item ≡ i) × (stands_as c x.value ≡ true)) ⊎ ((E ≡ o ∷ []) × (touches c i x ≡ false))
            → Stands c i (x ∷ H) o ⊎ ((E ≡ o ∷ []) × Each (λ x. touches c i x ≡ false) (x ∷ H))
        last (inl q) =
            inl
            (record {
              before = [];
              behind = H;
              parts = ap (λ (y : Observation). y ∷ H) q.0;
              item = (rw q.0 at q).1;
              level = (rw q.0 at q).2;
              newest = r.1;
            })
        last (inr q) = inr (q.0, (q.1, r.1))

-- the entry of code c among those standing is o just where o is the newest of c, Warning or Fault, with no clearing
-- behind it
pub stands_by : (c i : ℕ) (H : List Observation) (o : Observation) → (entry c (standing i H) ≡ o ∷ []) ↔ Stands c i H o
unfolding keep
stands_by c i H o = (there, back)
  where
    is : entry c (standing i H) ≡ entry_from c i [] H
    is = entry-from c i [] H (λ d. omega arith)

    first : Stands c i H o ⊎ (([] ≡ o ∷ []) × Each (λ x. touches c i x ≡ false) H) → Stands c i H o
    first (inl s) = s
    first (inr r) = absurd (nil≢cons r.0)

    there : entry c (standing i H) ≡ o ∷ [] → Stands c i H o
    there h = first (from-stands c i [] H o (sym is ∙ h))

    back : Stands c i H o → entry c (standing i H) ≡ o ∷ []
    back s =
        is ∙ ap (entry_from c i []) s.parts ∙ stands_from c i [] s.before o s.behind s.item s.level
        s.newest

-- ---- in the order added

-- an observation of item i that clears code c: Unavailable, Normal 0 or Normal c
abbrev pub clears : ℕ → ℕ → Observation → Bool
clears c i x = eqb x.item i && (clears_all x.value || (of_code c x.value && not (is_standing x.value)))

-- behind `before`, where code c didn't stand, item i's `first` added it, and nothing behind that has cleared it
pub record Added (c i : ℕ) (H : List Observation) : Type 0 where
  pub before : List Observation
  pub first : Observation
  pub behind : List Observation
  pub parts : H ≡ before ++ (first ∷ behind)
  pub item : first.item ≡ i
  pub level : stands_as c first.value ≡ true
  pub new : stands_in c (standing i before) ≡ false
  pub kept : Each (λ x. clears c i x ≡ false) behind

-- c's entry is the first of those of c and d
unfoldable pub ahead : ℕ → ℕ → List Observation → Bool
ahead c d [] = false
ahead c d (x ∷ S) = stands_as c x.value || (not (stands_as d x.value) && ahead c d S)

-- what stands behind one observation more
abbrev next : ℕ → List Observation → Observation → List Observation
next i S o = cond (eqb o.item i) (step_value S o) S

in_entry : (c : ℕ) (S : List Observation) → stands_in c S ≡ not (nothing_stands (entry c S))
unfolding keep stands_in
in_entry c [] = refl
in_entry c (x ∷ S) = by-test (stands_as c x.value) (λ e. rw e) (λ e. rw e (in_entry c S))

module _ (c i : ℕ) (S : List Observation) (o : Observation) (r : Differ S) where
  in-next : stands_in c (next i S o)
      ≡ cond (eqb o.item i)
      (cond (clears_all o.value) false (cond (of_code c o.value) (is_standing o.value) (stands_in c S)))
      (stands_in c S)
  in-next =
      by-test (eqb o.item i)
      (λ e. rw (e, in_entry c (step_value S o), entry-step c S o r)
      (by-test (clears_all o.value)
      (λ f. rw f)
      (λ f. by-test (of_code c o.value)
      (λ g. by-test (is_standing o.value) (λ s. rw (f, g, s)) (λ s. rw (f, g, s)))
      (λ g. rw (f, g) (sym (in_entry c S))))))
      (λ e. rw e)

  -- c stands on unless it is cleared
  kept_in : clears c i o ≡ false → stands_in c S ≡ true → stands_in c (next i S o) ≡ true
  kept_in h b =
      rw in-next
      (by-test (eqb o.item i)
      (λ e.
      by-test (clears_all o.value)
      (λ f. absurd (true≢false (rw (e, f) at h)))
      (λ f.
      by-test (of_code c o.value)
      (λ g. by-test (is_standing o.value) (λ s. rw (e, f, g, s)) (λ s. absurd (true≢false (rw (e, f, g, s) at h))))
      (λ g. rw (e, f, g, b))))
      (λ e. rw (e, b)))

  -- and where it stands, o hasn't cleared it; where it didn't before, o has added it
  came-in : stands_in c (next i S o) ≡ true
      → (clears c i o ≡ false) × ((stands_in c S ≡ true) ⊎ ((o.item ≡ i) × (stands_as c o.value ≡ true)))
  came-in h =
      by-test (eqb o.item i)
      (λ e.
      by-test (clears_all o.value)
      (λ f. absurd (false≢true (rw (in-next, e, f) at h)))
      (λ f.
      by-test (of_code c o.value)
      (λ g.
      let s : is_standing o.value ≡ true = rw (in-next, e, f, g) at h in
      (rw (e, f, g, s), inr (eqb-true o.item i e, rw (s, g))))
      (λ g. (rw (e, f, g), inl (rw (in-next, e, f, g) at h)))))
      (λ e. (rw e, inl (rw (in-next, e) at h)))

  added-in : o.item ≡ i → stands_as c o.value ≡ true → stands_in c (next i S o) ≡ true
  added-in e s =
      let k = standing-keeps c o.value s in
      rw (in-next, eq-eqb o.item i e, k.0, k.1, k.2)

kept_from : (c i : ℕ) (S H : List Observation) → Differ S → Each (λ x. clears c i x ≡ false) H → stands_in c S ≡ true
    → stands_in c (standing_from S i H) ≡ true
unfolding standing_from
kept_from c i S [] r k h = h
kept_from c i S (o ∷ H) r k h =
    kept_from c i (next i S o) H
    (by_cond Differ (eqb o.item i) _ _ (λ e. differ-step S o r) (λ e. r))
    k.1 (kept_in c i S o r k.0 h)

by-snoc : (P : List Observation → Type 0) → P [] → ((G : List Observation) (o : Observation) → P G → P (G ++ (o ∷ [])))
    → (H : List Observation) → P H
by-snoc P z f H = go [] z H
  where
    go : (G : List Observation) → P G → (Z : List Observation) → P (G ++ Z)
    go G p [] = rw append-nil p
    go G p (o ∷ Z) = rw append_assoc at (go (G ++ (o ∷ [])) (f G o p) Z)

-- a code stands just where it was added and not cleared since
pub stands-added : (c i : ℕ) (H : List Observation) → (stands_in c (standing i H) ≡ true) ↔ Added c i H
unfolding standing_from stands_in
stands-added c i H = (by-snoc (λ H. stands_in c (standing i H) ≡ true → Added c i H) none more H, back)
  where
    none : stands_in c (standing i []) ≡ true → Added c i []
    none h = absurd (false≢true h)

    more : (G : List Observation) (o : Observation) → (stands_in c (standing i G) ≡ true → Added c i G)
        → stands_in c (standing i (G ++ (o ∷ []))) ≡ true → Added c i (G ++ (o ∷ []))
    more G o f h =
        let q = came-in c i (standing i G) o (codes-differ i G) (rw (standing-snoc G o i) at h) in
        by-test (stands_in c (standing i G))
        (λ b.
        let a = f b in
        record {
          before = a.before;
          first = a.first;
          behind = a.behind ++ (o ∷ []);
          parts =
              ap (λ (l : List Observation). l ++ (o ∷ [])) a.parts
              ∙ append_assoc a.before (a.first ∷ a.behind) (o ∷ []);
          item = a.item;
          level = a.level;
          new = a.new;
          kept = each-append (λ x. clears c i x ≡ false) a.behind (o ∷ []) a.kept (q.0, tt);
        })
        (λ b. fresh b q.1)
      where
        fresh : stands_in c (standing i G) ≡ false
            → ((stands_in c (standing i G) ≡ true) ⊎ ((o.item ≡ i) × (stands_as c o.value ≡ true)))
            → Added c i (G ++ (o ∷ []))
        fresh b (inl t) = absurd (true≢false (sym t ∙ b))
        fresh b (inr (e, s)) =
            record { before = G; first = o; behind = []; parts = refl; item = e; level = s; new = b; kept = tt }

    back : Added c i H → stands_in c (standing i H) ≡ true
    back a =
        let r = codes-differ i a.before in
        rw (a.parts, standing-append a.before (a.first ∷ a.behind) [] i)
        (kept_from c i (next i (standing i a.before) a.first) a.behind
        (by_cond Differ (eqb a.first.item i) _ _ (λ e. differ-step _ a.first r) (λ e. r))
        a.kept (added-in c i (standing i a.before) a.first r a.item a.level))

-- two values of one code are of the same codes
same_code : (c e : ℕ) (u v : Value) → stands_as e u ≡ true → stands_as e v ≡ true → stands_as c u ≡ stands_as c v
same_code c e u v h k =
    by-test (stands_as c u)
    (λ f. let q : c ≡ e = one_code c e u f h in rw (q, h, k))
    (λ f.
    by-test (stands_as c v)
    (λ g. let q : c ≡ e = one_code c e v g k in absurd (true≢false (sym h ∙ (rw q at f))))
    (λ g. rw (f, g)))

-- c stands on before d through what doesn't clear c
module _ (c d : ℕ) where
  ahead-map : (e : ℕ) (o : Observation) (S : List Observation) → stands_as e o.value ≡ true
      → ahead c d (map (swap e o) S) ≡ ahead c d S
  unfolding ahead
  ahead-map e o [] s = refl
  ahead-map e o (x ∷ S) s =
      by-test (stands_as e x.value)
      (λ f.
      rw (f, same_code c e o.value x.value s f, same_code d e o.value x.value s f, ahead-map e o S s))
      (λ f. rw (f, ahead-map e o S s))

  -- x is c's entry, or of neither
  here-or-behind : {A : Type 0} (x : Observation) (S : List Observation) → ahead c d (x ∷ S) ≡ true
      → (stands_as c x.value ≡ true → A)
      → (stands_as c x.value ≡ false → stands_as d x.value ≡ false → ahead c d S ≡ true → A) → A
  unfolding ahead
  here-or-behind x S h here behind =
      by-test (stands_as c x.value) here
      (λ f.
      by-test (stands_as d x.value)
      (λ g. absurd (false≢true (rw (f, g) at h)))
      (λ g. behind f g (rw (f, g) at h)))

  ahead-append : (S T : List Observation) → ahead c d S ≡ true → ahead c d (S ++ T) ≡ true
  unfolding ahead
  ahead-append [] T h = absurd (false≢true h)
  ahead-append (x ∷ S) T h = here-or-behind x S h (λ f. rw f) (λ f g k. rw (f, g) (ahead-append S T k))

  ahead-keep : (e : ℕ) → c ≢ e → (S : List Observation) → ahead c d S ≡ true
      → ahead c d (keep (λ x. not (stands_as e x.value)) S) ≡ true
  unfolding ahead keep
  ahead-keep e n [] h = absurd (false≢true h)
  ahead-keep e n (x ∷ S) h =
      here-or-behind x S h
      (λ f. rw (other-code e c x.value (λ q. n (sym q)) f, f))
      (λ f g k.
      let r = ahead-keep e n S k in
      by-test (stands_as e x.value) (λ s. rw s r) (λ s. rw (s, f, g) r))

  -- of two codes one is first
  ahead-one : (S : List Observation) → c ≢ d → ahead c d S ≡ true → ahead d c S ≡ false
  unfolding ahead
  ahead-one [] n h = refl
  ahead-one (x ∷ S) n h =
      here-or-behind x S h
      (λ f. rw (f, other-code d c x.value (λ q. n (sym q)) f))
      (λ f g k. rw (f, g) (ahead-one S n k))

  -- with c there and d not
  ahead-alone : (S : List Observation) → stands_in c S ≡ true → stands_in d S ≡ false → ahead c d S ≡ true
  unfolding ahead stands_in
  ahead-alone [] h k = absurd (false≢true h)
  ahead-alone (x ∷ S) h k =
      by-test (stands_as c x.value)
      (λ f. rw f)
      (λ f.
      by-test (stands_as d x.value)
      (λ g. absurd (true≢false (rw g at k)))
      (λ g. rw (f, g) (ahead-alone S (rw f at h) (rw g at k))))

  ahead-with : (e : ℕ) (o : Observation) (S : List Observation) → stands_as e o.value ≡ true → ahead c d S ≡ true
      → ahead c d (with_entry e o S) ≡ true
  unfolding with_entry
  ahead-with e o S s h =
      by-test (stands_in e S) (λ f. rw (f, ahead-map e o S s) h) (λ f. rw f (ahead-append S (o ∷ []) h))

  ahead-by : (S : List Observation) (o : Observation) (v : Value) → o.value ≡ v
      → clears_all v || (of_code c v && not (is_standing v)) ≡ false → ahead c d S ≡ true
      → ahead c d (by_value S o v) ≡ true
  ahead-by S o Unavailable q k h = absurd (true≢false k)
  ahead-by S o (Sample x) q k h = absurd (true≢false k)
  ahead-by S o (Event e) q k h = absurd (true≢false k)
  ahead-by S o (Condition Normal e) q k h =
      by-test (eqb e 0)
      (λ f. absurd (true≢false (rw f at k)))
      (λ f. rw f (ahead-keep e (λ p. absurd (true≢false (rw (f, eq-eqb e c (sym p)) at k))) S h))
  ahead-by S o (Condition Warning e) q k h = ahead-with e o S (rw q (eq-eqb e e refl)) h
  ahead-by S o (Condition Fault e) q k h = ahead-with e o S (rw q (eq-eqb e e refl)) h

  ahead-from : (i : ℕ) (S H : List Observation) → Each (λ x. clears c i x ≡ false) H → ahead c d S ≡ true
      → ahead c d (standing_from S i H) ≡ true
  unfolding standing_from
  ahead-from i S [] k h = h
  ahead-from i S (o ∷ H) k h =
      ahead-from i (next i S o) H k.1
      (by-test (eqb o.item i) (λ e. rw e (ahead-by S o o.value refl (rw e at k).0 h)) (λ e. rw e h))

-- of two parts of a list the shorter ends within the longer
between : {A : Type 0} (o p : Observation) (K L X Y : List Observation) → X ++ (o ∷ K) ≡ Y ++ (p ∷ L)
    → length X < length Y → ((M : List Observation) → Y ≡ X ++ (o ∷ M) → K ≡ M ++ (p ∷ L) → A) → A
between o p K L X [] q l f = absurd (omega arith)
between o p K L [] (y ∷ Y) q l f = f Y (cc) (cc)
between o p K L (x ∷ X) (y ∷ Y) q l f = between o p K L X Y (cc) (omega arith) (λ M h k. f M (cc) k)

module _ (c d i : ℕ) (H : List Observation) (a : Added c i H) (b : Added d i H) where
  earlier-ahead : length a.before < length b.before → ahead c d (standing i H) ≡ true
  earlier-ahead l =
      between a.first b.first a.behind b.behind a.before b.before (sym a.parts ∙ b.parts) l
      (λ M y u.
      let k = each-parts (λ x. clears c i x ≡ false) M (b.first ∷ b.behind) (rw u at a.kept) in
      let s : Added c i b.before =
      record {
        before = a.before;
        first = a.first;
        behind = M;
        parts = y;
        item = a.item;
        level = a.level;
        new = a.new;
        kept = k.0;
      } in
      rw (b.parts, standing-append b.before (b.first ∷ b.behind) [] i)
      (ahead-from c d i (standing i b.before) (b.first ∷ b.behind) k.1
      (ahead-alone c d (standing i b.before) ((stands-added c i b.before).1 s) b.new)))

-- of two codes that stand, the one added earlier stands before the other
pub in_order : (c d i : ℕ) (H : List Observation) → c ≢ d → (a : Added c i H) (b : Added d i H)
    → (ahead c d (standing i H) ≡ true) ↔ (length a.before < length b.before)
in_order c d i H n a b = (there, earlier-ahead c d i H a b)
  where
    same_first : length a.before ≡ length b.before → a.first ≡ b.first
    same_first l =
        sym (get_or-append_seam a.before a.first a.behind nothing)
        ∙ ap (λ (G : List Observation). get_or G (length a.before) nothing) (sym a.parts ∙ b.parts)
        ∙ rw l (get_or-append_seam b.before b.first b.behind nothing)

    there : ahead c d (standing i H) ≡ true → length a.before < length b.before
    there h =
        let m : ℕ = length a.before in
        let n' : ℕ = length b.before in
        by-test (ltb m n')
        (λ e. ltb-true m n' e)
        (λ e.
        by-test (ltb n' m)
        (λ f.
        absurd (true≢false (sym (earlier-ahead d c i H b a (ltb-true n' m f)) ∙ ahead-one c d (standing i H) n h)))
        (λ f.
        let q = same_first (omega (arith, ltb-false m n' e, ltb-false n' m f)) in
        absurd (n (one_code c d a.first.value a.level (rw q b.level)))))
