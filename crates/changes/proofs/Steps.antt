-- The change that eight marks give an observation, against the step of the entries that they are marks of.
use mathlib.Core.Path.{◌≡◌, refl, sym, ap, ◌∙◌}
use mathlib.Core.Bool.{true, false, ◌&&◌, not, true≢false, false≢true}
use Prim.Native.Nat.{ℕ, zero, suc, ◌≤◌, ◌<◌}
use native.Mathlib.Omega.{arith}
use mathlib.Core.List.{List, [], ◌∷◌, ◌++◌, map, map-append}
use lib.Dec.{leb, ltb, eqb}
use lib.ListN.{length, get_or, set, length-append, length-drop, length-set}
use lib.Seq.{set_out, length-take-le}
use Rattle.std.proofs.lemmas.List.{map-set}
use borrow.Author.Tests.{leb-true, leb-false, eqb-true, eqb-false, le-ltb, le-leb}
use Rattle.spec.specs.Entries.{active, active_as, normal, code_field, packed, any_entry, has_code, any_active}
use Rattle.spec.specs.Entries.{entered, cleared, or_alone, step_active, step}
use Rattle.spec.specs.Blocks.{padded, unused}
use Rattle.spec.proofs.Words.{by-test}
use Rattle.spec.proofs.Blocks.{length-padded}
use Rattle.spec.proofs.Steps.{Formed}
use Rattle.marks.specs.Marks.{key_in, key_of, place_of}
use Rattle.marks.specs.Marked.{Marked}
use Rattle.marks.proofs.Keys.{key-active}
use Rattle.marks.proofs.Places.{marked-length, mark-used, mark-free, place-free, place-used, marked-zeros}
use Rattle.marks.proofs.Places.{place-has, place_none, first-mark}
use Rattle.changes.specs.Changes.{cleared_for, change_for, ChangeFits, without, changed, is_full}
use Rattle.changes.specs.declared.Change.{Change}
use Rattle.changes.specs.declared.Change.TheVariants.{Put, Alone, Out, Stay, Full}
use Rattle.changes.proofs.Laws.{raised-cases, cleared-none, cleared-unused, cleared-last, cleared-out}

-- ---- a change of each word is the change of the words

map-without : {A B : Type 0} (f : A → B) (z : A) (j : ℕ) (l : List A)
    → map f (without z j l) ≡ without (f z) j (map f l)
map-without f z zero [] = refl
map-without f z (suc j) [] = refl
map-without f z zero (y ∷ l) = map-append f l (z ∷ [])
map-without f z (suc j) (y ∷ l) = ap (λ t. f y ∷ t) (map-without f z j l)

pub changed-map : {A B : Type 0} (f : A → B) (z : A) (c : Change) (x : A) (l : List A)
    → map f (changed z c x l) ≡ changed (f z) c (f x) (map f l)
changed-map f z (Put j) x l = map-set f l j x
changed-map f z Alone x l = refl
changed-map f z (Out j) x l = map-without f z j l
changed-map f z Stay x l = refl
changed-map f z Full x l = refl

-- eight stay eight
pub length-changed : {A : Type 0} (z : A) (c : Change) (x : A) (l : List A) → ChangeFits c → length l ≡ 8
    → length (changed z c x l) ≡ 8
length-changed z (Put j) x l f h = length-set l j x ∙ h
length-changed z Alone x l f h = refl
length-changed z (Out j) x l f h =
    simp (length-append, length-drop) (omega (arith, length-take-le j l (omega arith)))
length-changed z Stay x l f h = h
length-changed z Full x l f h = h

-- an entry's code, and the place of that
abbrev code_in : List ℕ → ℕ
code_in r = code_field (packed r)

abbrev place_for : List ℕ → List ℕ → ℕ
place_for r ms = place_of (suc (code_in r)) ms

-- ---- an entry put to its place, or behind the last

module _ (own : ℕ) (r : List ℕ) where
  entered-has : (es : List (List ℕ)) → has_code own (code_in r) es ≡ true → length (entered own r es) ≡ length es
  unfolding entered any_entry
  entered-has [] h = absurd (false≢true h)
  entered-has (e ∷ es) h =
      by-test (active_as own (code_in r) (packed e))
      (λ t. rw t)
      (λ t. rw t (ap suc (entered-has es (rw t at h))))

  entered-none : (es : List (List ℕ)) → has_code own (code_in r) es ≡ false → length (entered own r es) ≡ suc (length es)
  unfolding entered any_entry
  entered-none [] h = refl
  entered-none (e ∷ es) h =
      by-test (active_as own (code_in r) (packed e))
      (λ t. absurd (true≢false (rw t at h)))
      (λ t. rw t (ap suc (entered-none es (rw t at h))))

  -- rows with it at its place; a ninth has none
  set_entered : (es : List (List ℕ)) (ms : List ℕ) → Marked own es ms
      → set (padded (length ms) es) (place_for r ms) r ≡ padded (length ms) (entered own r es)
  unfolding entered padded
  set_entered [] [] m = refl
  set_entered [] (x ∷ xs) m = rw (place-free own (code_in r) x xs m)
  set_entered (e ∷ es) [] m = absurd m
  set_entered (e ∷ es) (x ∷ xs) m =
      by-test (active_as own (code_in r) (packed e))
      (λ t. rw (place-used own (code_in r) e x xs m.0 m.1, t))
      (λ t.
      rw (place-used own (code_in r) e x xs m.0 m.1, t) (ap (λ k. e ∷ k) (set_entered es xs m.2)))

  -- and its mark there
  marked-entered : (es : List (List ℕ)) (ms : List ℕ) (y : ℕ) → Marked own es ms
      → place_for r ms < length ms → 0 < y → key_in y ≡ key_of own (packed r)
      → Marked own (entered own r es) (set ms (place_for r ms) y)
  unfolding entered
  marked-entered [] [] y m h p k = absurd (omega arith)
  marked-entered [] (x ∷ xs) y m h p k = rw (place-free own (code_in r) x xs m) (p, k, m.1)
  marked-entered (e ∷ es) [] y m h p k = absurd m
  marked-entered (e ∷ es) (x ∷ xs) y m h p k =
      by-test (active_as own (code_in r) (packed e))
      (λ t. rw (place-used own (code_in r) e x xs m.0 m.1, t) (p, k, m.2))
      (λ t.
      let q : place_for r (x ∷ xs) ≡ suc (place_for r xs) =
      rw (place-used own (code_in r) e x xs m.0 m.1, t) in
      rw (q, t) (m.0, m.1, marked-entered es xs y m.2 (omega (arith, q)) p k))

-- ---- an entry taken out

padded-snoc : (n : ℕ) (es : List (List ℕ)) → length es ≤ n → padded n es ++ (unused ∷ []) ≡ padded (suc n) es
unfolding padded
padded-snoc zero [] h = refl
padded-snoc zero (e ∷ es) h = absurd (omega arith)
padded-snoc (suc n) [] h = ap (λ k. unused ∷ k) (padded-snoc n [] (omega arith))
padded-snoc (suc n) (e ∷ es) h = ap (λ k. e ∷ k) (padded-snoc n es (omega arith))

marked-snoc : (own : ℕ) (es : List (List ℕ)) (ms : List ℕ) → Marked own es ms → Marked own es (ms ++ (0 ∷ []))
marked-snoc own [] [] m = (refl, tt)
marked-snoc own [] (x ∷ xs) m = (m.0, marked-snoc own [] xs m.1)
marked-snoc own (e ∷ es) [] m = absurd m
marked-snoc own (e ∷ es) (x ∷ xs) m = (m.0, m.1, marked-snoc own es xs m.2)

module _ (own c : ℕ) where
  cleared-has : (es : List (List ℕ)) → has_code own c es ≡ true → suc (length (cleared own c es)) ≡ length es
  unfolding cleared any_entry
  cleared-has [] h = absurd (false≢true h)
  cleared-has (e ∷ es) h =
      by-test (active_as own c (packed e))
      (λ t. rw t)
      (λ t. rw t (ap suc (cleared-has es (rw t at h))))

  cleared-same : (es : List (List ℕ)) → has_code own c es ≡ false → cleared own c es ≡ es
  unfolding cleared any_entry
  cleared-same [] h = refl
  cleared-same (e ∷ es) h =
      by-test (active_as own c (packed e))
      (λ t. absurd (true≢false (rw t at h)))
      (λ t. rw t (ap (λ k. e ∷ k) (cleared-same es (rw t at h))))

  -- rows without it, and marks without its own
  without-cleared : (es : List (List ℕ)) (ms : List ℕ) → Marked own es ms → has_code own c es ≡ true
      → without unused (place_of (suc c) ms) (padded (length ms) es) ≡ padded (length ms) (cleared own c es)
  unfolding cleared any_entry padded
  without-cleared [] ms m h = absurd (false≢true h)
  without-cleared (e ∷ es) [] m h = absurd m
  without-cleared (e ∷ es) (x ∷ xs) m h =
      by-test (active_as own c (packed e))
      (λ t.
      rw (place-used own c e x xs m.0 m.1, t) (padded-snoc (length xs) es (marked-length own es xs m.2)))
      (λ t.
      rw (place-used own c e x xs m.0 m.1, t) (ap (λ k. e ∷ k) (without-cleared es xs m.2 (rw t at h))))

  marked-cleared : (es : List (List ℕ)) (ms : List ℕ) → Marked own es ms → has_code own c es ≡ true
      → Marked own (cleared own c es) (without 0 (place_of (suc c) ms) ms)
  unfolding cleared any_entry
  marked-cleared [] ms m h = absurd (false≢true h)
  marked-cleared (e ∷ es) [] m h = absurd m
  marked-cleared (e ∷ es) (x ∷ xs) m h =
      by-test (active_as own c (packed e))
      (λ t. rw (place-used own c e x xs m.0 m.1, t) (marked-snoc own es xs m.2))
      (λ t. rw (place-used own c e x xs m.0 m.1, t) (m.0, m.1, marked-cleared es xs m.2 (rw t at h)))

-- ---- the change and the step

alone-none : (r : List ℕ) (es : List (List ℕ)) → length es ≡ 0 → or_alone r es ≡ r ∷ []
alone-none r [] h = refl
alone-none r (e ∷ es) h = absurd (omega arith)

alone-some : (r : List ℕ) (es : List (List ℕ)) → 0 < length es → or_alone r es ≡ es
alone-some r [] h = absurd (omega arith)
alone-some r (e ∷ es) h = refl

some-active : (own : ℕ) (es : List (List ℕ)) → any_active own es ≡ true → 0 < length es
unfolding any_entry
some-active own [] h = absurd (false≢true h)
some-active own (e ∷ es) h = omega arith

-- where some are active, a Normal of code c
module _ (own c : ℕ) (es : List (List ℕ)) (ms : List ℕ) (r : List ℕ) (m : Marked own es ms) (l : length ms ≡ 8) where
  cleared-cases : (P : Change → List (List ℕ) → Type 0) → 0 < length es
      → P Alone (r ∷ [])
      → P Stay es
      → (has_code own c es ≡ true → P (Out (place_of (suc c) ms)) (cleared own c es))
      → P (cleared_for (suc c) ms) (or_alone r (cleared own c es))
  cleared-cases P s alone stay out = by-test (has_code own c es) there absent
    where
      room : length es ≤ 8
      room = omega (arith, marked-length own es ms m)

      there : has_code own c es ≡ true → P (cleared_for (suc c) ms) (or_alone r (cleared own c es))
      there h =
          let j = place_of (suc c) ms in
          let p = place-has own c es ms m h in
          let n = cleared-has own c es h in
          let a : j ≡ 8 → ⊥ = omega (arith, room) in
          let b : get_or ms j 0 ≡ 0 → ⊥ = omega (arith, mark-used own es ms j m p) in
          by-test (leb (length es) 1)
          (λ t.
          let q = leb-true (length es) 1 t in
          let d = mark-free own es ms 1 m q in
          rw (← cleared-last (suc c) ms refl a b d, alone-none r (cleared own c es) (omega arith)) alone)
          (λ t.
          let q = leb-false (length es) 1 t in
          let d : get_or ms 1 0 ≡ 0 → ⊥ = omega (arith, mark-used own es ms 1 m q) in
          rw (← cleared-out (suc c) ms refl a b d, alone-some r (cleared own c es) (omega arith)) (out h))

      absent : has_code own c es ≡ false → P (cleared_for (suc c) ms) (or_alone r (cleared own c es))
      absent h =
          let j = place_of (suc c) ms in
          let q : or_alone r (cleared own c es) ≡ es = rw (cleared-same own c es h) (alone-some r es s) in
          by-test (eqb j 8)
          (λ t. rw (← cleared-none (suc c) ms refl (eqb-true j 8 t), q) stay)
          (λ t.
          let z = mark-free own es ms j m (omega (arith, place_none own c es ms m h)) in
          rw (← cleared-unused (suc c) ms refl (eqb-false j 8 t) z, q) stay)

module _ (own : ℕ) (es : List (List ℕ)) (ms : List ℕ) (r : List ℕ)
    (f : Formed own es) (m : Marked own es ms) (l : length ms ≡ 8) where
  -- what a change and a step are together
  change-cases : (P : Change → List (List ℕ) → Type 0)
      → P Alone (r ∷ [])
      → (place_for r ms ≡ 8 → P Full (entered own r es))
      → (place_for r ms < 8 → P (Put (place_for r ms)) (entered own r es))
      → P Stay es
      → (has_code own (code_in r) es ≡ true → P (Out (place_for r ms)) (cleared own (code_in r) es))
      → P (change_for own ms (packed r)) (step own es r)
  unfolding change_for step step_active
  change-cases P alone full put stay out =
      by-test (any_active own es)
      (λ a.
      by-test (active own (packed r))
      (λ g. rw (room, first, a, g, key-active own (packed r) g)
      (raised-cases ms l (λ k. P k (entered own r es)) (suc (code_in r)) full put))
      (λ g.
      by-test (normal (packed r) && not (eqb (code_in r) 0))
      (λ k.
      rw (room, first, a, g, k)
      (cleared-cases own (code_in r) es ms r m l P (some-active own es a) alone stay out))
      (λ k. rw (room, first, a, g, k) alone)))
      (λ a. rw (room, first, a) alone)
    where
      room : ltb 8 (length es) ≡ false
      room = le-ltb 8 (length es) (omega (arith, marked-length own es ms m))

      first : eqb (key_in (get_or ms 0 0)) 0 ≡ not (any_active own es)
      first = first-mark own es ms f m

  -- a ninth entry
  pub change-full : is_full (change_for own ms (packed r)) ≡ not (leb (length (step own es r)) 8)
  change-full = change-cases (λ k e. is_full k ≡ not (leb (length e) 8)) refl full put stay out
    where
      full : place_for r ms ≡ 8 → true ≡ not (leb (length (entered own r es)) 8)
      full p =
          by-test (has_code own (code_in r) es)
          (λ h. absurd (omega (arith, place-has own (code_in r) es ms m h, marked-length own es ms m)))
          (λ h.
          let q : length (entered own r es) ≡ 9 =
          omega (arith, entered-none own r es h, place_none own (code_in r) es ms m h) in
          rw q)

      put : place_for r ms < 8 → false ≡ not (leb (length (entered own r es)) 8)
      put p =
          let q : length (entered own r es) ≤ 8 =
          by-test (has_code own (code_in r) es)
          (λ h. omega (arith, entered-has own r es h, marked-length own es ms m))
          (λ h. omega (arith, entered-none own r es h, place_none own (code_in r) es ms m h)) in
          rw (le-leb _ 8 q)

      stay : false ≡ not (leb (length es) 8)
      stay = rw (le-leb (length es) 8 (omega (arith, marked-length own es ms m)))

      out : has_code own (code_in r) es ≡ true → false ≡ not (leb (length (cleared own (code_in r) es)) 8)
      out h =
          let q : length (cleared own (code_in r) es) ≤ 8 =
          omega (arith, cleared-has own (code_in r) es h, marked-length own es ms m) in
          rw (le-leb _ 8 q)

  -- the rows of the entries behind the step
  pub change-steps : changed unused (change_for own ms (packed r)) r (padded 8 es) ≡ padded 8 (step own es r)
  unfolding padded
  change-steps =
      change-cases (λ k e. changed unused k r (padded 8 es) ≡ padded 8 e)
      refl
      (λ p. sym (set_out (padded 8 es) (place_for r ms) r (omega (arith, length-padded 8 es))) ∙ rows)
      (λ p. rows)
      refl
      (λ h. rw l at (without-cleared own (code_in r) es ms m h))
    where
      rows : set (padded 8 es) (place_for r ms) r ≡ padded 8 (entered own r es)
      rows = rw l at (set_entered own r es ms m)

  -- the marks of the entries behind the step
  pub marked-change : (y : ℕ) → is_full (change_for own ms (packed r)) ≡ false → 0 < y → key_in y ≡ key_of own (packed r)
      → Marked own (step own es r) (changed 0 (change_for own ms (packed r)) y ms)
  marked-change y n p k =
      change-cases (λ c e. is_full c ≡ false → Marked own e (changed 0 c y ms))
      (λ q. (p, k, marked-zeros own 7))
      (λ h q. absurd (true≢false q))
      (λ h q. marked-entered own r es ms y m (rw l h) p k)
      (λ q. m)
      (λ h q. marked-cleared own (code_in r) es ms m h)
      n
