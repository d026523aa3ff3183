-- The ring's fold over any store, damaged or not: nine entries along it, two runs, one pass for all items; and the count
-- of current's rows.
use mathlib.Core.Path.{◌≡◌, refl, sym, ap, ◌∙◌}
use mathlib.Core.Bool.{true, false, cond}
use Prim.Native.Nat.{ℕ, zero, suc, ◌+◌, ◌≤◌, ◌<◌}
use native.Mathlib.Omega.{arith}
use mathlib.Core.List.{List, [], ◌∷◌}
use lib.Dec.{leb, eqb}
use lib.ListN.{length, get_or, set, length-set}
use lib.Seq.{get_or-set_same, get_or-set_other}
use borrow.Author.Tests.{leb-true, eqb-true, eqb-false, eq-eqb, ne_eqb}
use Rattle.spec.specs.Words.{pick_rows, bit}
use Rattle.spec.specs.Blocks.{extra_rows}
use Rattle.spec.specs.Entries.{step, used_rows, form_ok}
use Rattle.history.specs.Observations.{item_at, numbered, newest_in, latest_at, item_rows, is_condition, entries_in}
use Rattle.history.specs.Observations.{if_used, latest_rows, current_rows, current_ok}
use Rattle.spec.proofs.Words.{and_left, every-at, by-test}
use Rattle.spec.proofs.Blocks.{flat-length}
use Rattle.spec.proofs.Steps.{nine-stays}

-- one test at the end of a fold tells whether there ever were nine
pub nine-ends : (N B : ℕ) (st : List ℕ) (i k s : ℕ) (es : List (List ℕ)) → 8 < length es
    → entries_in N B st i k s es ≡ es
unfolding entries_in
nine-ends N B st i zero s es h = refl
nine-ends N B st i (suc k) s es h =
    by-test (eqb (item_at N B st s) i)
    (λ e. rw (e, nine-stays i es (numbered N B st s) h) (nine-ends N B st i k (suc s) es h))
    (λ e. rw e (nine-ends N B st i k (suc s) es h))

-- two runs, one behind the other
pub entries-split : (N B : ℕ) (st : List ℕ) (i k l s : ℕ) (es : List (List ℕ))
    → entries_in N B st i (k + l) s es ≡ entries_in N B st i l (k + s) (entries_in N B st i k s es)
unfolding entries_in
entries-split N B st i zero l s es = let q : 0 + l ≡ l = omega arith in let q' : 0 + s ≡ s = omega arith in rw (q, q')
entries-split N B st i (suc k) l s es =
    let q : suc k + l ≡ suc (k + l) = omega arith in
    let q' : suc k + s ≡ k + suc s = omega arith in
    rw (q, q') (entries-split N B st i k l (suc s) (cond (eqb (item_at N B st s) i) (step i es (numbered N B st s)) es))

-- an item's entries behind a row of its own
abbrev pub step_item : (ℕ → ℕ) → ℕ → List (List ℕ) → List ℕ → List (List ℕ)
step_item cat i es r = cond (is_condition cat i) (step i es r) (r ∷ [])

-- one pass over k numbers from s on for all items; the i-th of l is item i's
pub pass_in : (ℕ → ℕ) → ℕ → ℕ → List ℕ → ℕ → ℕ → List (List (List ℕ)) → List (List (List ℕ))
pass_in cat N B st zero s l = l
pass_in cat N B st (suc k) s l =
    let i = item_at N B st s in
    pass_in cat N B st k (suc s) (set l i (step_item cat i (get_or l i []) (numbered N B st s)))

module _ (cat : ℕ → ℕ) (N B : ℕ) (st : List ℕ) (i : ℕ) where
  -- what one number does to item i's
  pass-one : (s : ℕ) (l : List (List (List ℕ))) → i < length l
      → get_or
      (set l (item_at N B st s) (step_item cat (item_at N B st s) (get_or l (item_at N B st s) []) (numbered N B st s))) i []
      ≡ cond (eqb (item_at N B st s) i) (step_item cat i (get_or l i []) (numbered N B st s)) (get_or l i [])
  pass-one s l h =
      by-test (eqb (item_at N B st s) i)
      (λ e.
      rw (eqb-true (item_at N B st s) i e, eq-eqb i i refl)
      (get_or-set_same l i (step_item cat i (get_or l i []) (numbered N B st s)) [] h))
      (λ e. rw e (get_or-set_other l (item_at N B st s) i _ [] (λ q. eqb-false (item_at N B st s) i e (sym q))))

  pass-length : (s : ℕ) (l : List (List (List ℕ))) → i < length l
      → i < length
      (set l (item_at N B st s) (step_item cat (item_at N B st s) (get_or l (item_at N B st s) []) (numbered N B st s)))
  pass-length s l h =
      rw (length-set l (item_at N B st s)
      (step_item cat (item_at N B st s) (get_or l (item_at N B st s) []) (numbered N B st s))) h

  pub pass-condition : is_condition cat i ≡ true → (k s : ℕ) (l : List (List (List ℕ))) → i < length l
      → get_or (pass_in cat N B st k s l) i [] ≡ entries_in N B st i k s (get_or l i [])
  unfolding pass_in entries_in
  pass-condition c zero s l h = refl
  pass-condition c (suc k) s l h =
      pass-condition c k (suc s) _ (pass-length s l h)
      ∙ ap (entries_in N B st i k (suc s)) (pass-one s l h ∙ rw c)

  pub pass-plain : is_condition cat i ≡ false → (k s : ℕ) (l : List (List (List ℕ))) (r : List ℕ) → i < length l → 1 ≤ s
      → get_or l i [] ≡ if_used r
      → get_or (pass_in cat N B st k s l) i [] ≡ if_used (newest_in N B st i k s r)
  unfolding pass_in newest_in
  pass-plain c zero s l r h p e = e
  pass-plain c (suc k) s l r h p e =
      pass-plain c k (suc s) _ (cond (eqb (item_at N B st s) i) (numbered N B st s) r) (pass-length s l h) (omega arith)
      (pass-one s l h
      ∙ by-test (eqb (item_at N B st s) i)
      (λ f. rw (f, c, ne_eqb s 0 (omega arith)))
      (λ f. rw f e))

-- current's count on any store that passes: a row for each selected item, and the condition items' used ones beyond
-- the first
pub current-count : (cat : ℕ → ℕ) (N m : ℕ) (st : List ℕ) (sel : ℕ) (w : ℕ → List ℕ) → current_ok cat N m st sel ≡ true
    → length (current_rows cat N m st sel)
    ≡ length (pick_rows (bit sel) w m 0) + extra_rows (bit sel) (latest_rows cat N m st) m 0
unfolding current_ok current_rows form_ok
current-count cat N m st sel w ok =
    flat-length (bit sel) (latest_rows cat N m st) w m 0
    (λ i l h b.
    by-test (is_condition cat i)
    (λ c.
    rw c
    (leb-true 1 _
    (and_left (leb 1 (length (used_rows (item_rows st (latest_at N) m i)))) _ (rw (b, c) at (every-at _ m 0 i ok l h)))))
    (λ c. rw c (omega arith)))
