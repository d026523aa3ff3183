-- The step over words is the step over observations, and so are Same and 19: packed words of a condition item are told
-- apart as their values are.
use mathlib.Core.Path.{◌≡◌, refl, sym, ap, ◌∙◌, subst}
use mathlib.Core.Bool.{Bool, true, false, ◌||◌, not, true≢false, false≢true, and-false, or-false, or-true}
use Prim.Native.Nat.{ℕ, suc, ◌+◌, ◌*◌, ◌^◌, ◌≤◌, ◌<◌}
use native.Mathlib.Omega.{arith}
use mathlib.Core.List.{List, [], ◌∷◌, ◌++◌, map}
use lib.Arith.{digits_div, digits_mod}
use lib.Dec.{leb, ltb, eqb}
use lib.ListN.{length, length-map}
use borrow.Author.Tests.{eq-eqb, ne_eqb, le-ltb, le-leb}
use Rattle.spec.specs.Value.{level_number, kind, low, pack, takes}
use Rattle.history.specs.Reference.{Observation, keep, triple, eq_value}
use Rattle.spec.specs.Blocks.{padded}
use Rattle.spec.specs.Entries.{kind_field, level_field, code_field, active, active_as, normal, packed, any_entry}
use Rattle.spec.specs.Entries.{holds, has_code, any_active, entered, cleared, or_alone, step_active, step, repeats_in}
use Rattle.spec.specs.Entries.{crowded, used_rows, codes_differ, form_ok}
use Rattle.history.specs.Standing.{raised, is_standing, stands_as, stands_in, with_entry, by_value, step_value, found}
use Rattle.history.specs.Standing.{shown, nothing_stands, level_stands, same_standing, crowded_standing}
use Rattle.spec.specs.declared.Level.{Level}
use Rattle.spec.specs.declared.Level.TheVariants.{Normal, Warning, Fault}
use Rattle.spec.specs.declared.Value.{Value}
use Rattle.spec.specs.declared.Value.TheVariants.{Unavailable, Sample, Event, Condition}
use Rattle.std.specs.List.{AllByRecursion as Each}
use Rattle.spec.proofs.Elements.{each-imp, each-map}
use Rattle.spec.proofs.Words.{by-test}
use Rattle.spec.proofs.Packing.{Coded, low-lt, kind-le, item-coded}
use Rattle.history.proofs.Compared.{compare-coded, eq_value-true}
use Rattle.history.proofs.Standing.{entry, swap, none_in, swap-none, with-some, Differ, Sound}
use Rattle.spec.proofs.Blocks.{Given, used-padded, padded-zeros}

-- ---- fields of packed words

pub kind-coded : (i : ℕ) (v : Value) → Coded v → kind_field (pack i v) ≡ kind v
kind-coded i v h =
    let e : pack i v ≡ (i * 256 + kind v) * 2 ^ 32 + low v = omega arith in
    rw (e, digits_div (i * 256 + kind v) (low-lt v h)) (digits_mod i (omega (arith, kind-le v)))

level-small : (l : Level) → level_number l < 256
level-small Normal = omega arith
level-small Warning = omega arith
level-small Fault = omega arith

module _ (i : ℕ) (l : Level) (c : ℕ) (h : c < 2 ^ 24) where
  fields : pack i (Condition l c) ≡ ((i * 256 + 3) * 256 + level_number l) * 2 ^ 24 + c
  fields = omega arith

  pub level-coded : level_field (pack i (Condition l c)) ≡ level_number l
  level-coded =
      rw (fields, digits_div ((i * 256 + 3) * 256 + level_number l) h) (digits_mod (i * 256 + 3) (level-small l))

  pub code-coded : code_field (pack i (Condition l c)) ≡ c
  code-coded = rw fields (digits_mod ((i * 256 + 3) * 256 + level_number l) h)

raised-number : (l : Level) → eqb (level_number l) 1 || eqb (level_number l) 2 ≡ raised l
raised-number Normal = refl
raised-number Warning = refl
raised-number Fault = refl

normal-number : (l : Level) → eqb (level_number l) 0 ≡ not (raised l)
normal-number Normal = refl
normal-number Warning = refl
normal-number Fault = refl

-- Normal
abbrev pub is_normal : Value → Bool
is_normal Unavailable = false
is_normal (Sample x) = false
is_normal (Event c) = false
is_normal (Condition l c) = not (raised l)

module _ (i : ℕ) where
  pub active-coded : (v : Value) → Coded v → active i (pack i v) ≡ is_standing v
  unfolding active
  active-coded Unavailable h = rw (item-coded i Unavailable h, kind-coded i Unavailable h) (and-false (eqb i i))
  active-coded (Sample x) h = rw (item-coded i (Sample x) h, kind-coded i (Sample x) h) (and-false (eqb i i))
  active-coded (Event c) h = rw (item-coded i (Event c) h, kind-coded i (Event c) h) (and-false (eqb i i))
  active-coded (Condition l c) h =
      rw (item-coded i (Condition l c) h, kind-coded i (Condition l c) h, level-coded i l c h, eq-eqb i i refl)
      (raised-number l)

  pub normal-coded : (v : Value) → Coded v → normal (pack i v) ≡ is_normal v
  unfolding normal
  normal-coded Unavailable h = rw (kind-coded i Unavailable h)
  normal-coded (Sample x) h = rw (kind-coded i (Sample x) h)
  normal-coded (Event c) h = rw (kind-coded i (Event c) h)
  normal-coded (Condition l c) h = rw (kind-coded i (Condition l c) h, level-coded i l c h) (normal-number l)

  pub stands-coded : (c : ℕ) (v : Value) → Coded v → active_as i c (pack i v) ≡ stands_as c v
  stands-coded c Unavailable h = rw (active-coded Unavailable h)
  stands-coded c (Sample x) h = rw (active-coded (Sample x) h)
  stands-coded c (Event d) h = rw (active-coded (Event d) h)
  stands-coded c (Condition l d) h = rw (active-coded (Condition l d) h, code-coded i l d h)

-- ---- entries

-- an observation of item i, with a number, whose fields fit its word
abbrev pub Own : ℕ → Observation → Type 0
Own i x = (x.item ≡ i) × Coded x.value × (0 < x.number)

module _ (i : ℕ) where
  own-standing : (S : List Observation) → Each (λ x. (is_standing x.value ≡ true) × Own i x) S → Each (Own i) S
  own-standing = each-imp (λ x t. t.1)

  own-active : (x : Observation) → Own i x → active i (packed (triple x)) ≡ is_standing x.value
  own-active x q = rw q.0 (active-coded i x.value q.1)

  own-stands : (c : ℕ) (x : Observation) → Own i x → active_as i c (packed (triple x)) ≡ stands_as c x.value
  own-stands c x q = rw q.0 (stands-coded i c x.value q.1)

  pub has-coded : (c : ℕ) (S : List Observation) → Each (Own i) S → has_code i c (map triple S) ≡ stands_in c S
  unfolding any_entry stands_in
  has-coded c [] q = refl
  has-coded c (x ∷ S) q = rw (own-stands c x q.0, has-coded c S q.1)

  -- a code's first entry replaced or taken out is each entry of that code: there is one at most
  entered-none : (c : ℕ) (o : Observation) (S : List Observation) → code_field (packed (triple o)) ≡ c → Each (Own i) S
      → stands_in c S ≡ false
      → entered i (triple o) (map triple S) ≡ map triple (S ++ (o ∷ []))
  unfolding entered stands_in
  entered-none c o [] k q e = refl
  entered-none c o (x ∷ S) k q e =
      by-test (stands_as c x.value)
      (λ f. absurd (true≢false (rw f at e)))
      (λ f. rw (k, own-stands c x q.0, f, entered-none c o S k q.1 (rw f at e)))

  entered-some : (c : ℕ) (o : Observation) (S : List Observation) → code_field (packed (triple o)) ≡ c → Each (Own i) S
      → length (entry c S) ≤ 1 → stands_in c S ≡ true
      → entered i (triple o) (map triple S) ≡ map triple (map (swap c o) S)
  unfolding entered stands_in keep
  entered-some c o [] k q l e = absurd (false≢true e)
  entered-some c o (x ∷ S) k q l e =
      by-test (stands_as c x.value)
      (λ f. rw (k, own-stands c x q.0, f, swap-none c o S (none_in c S (omega (arith, rw f at l)))))
      (λ f. rw (k, own-stands c x q.0, f, entered-some c o S k q.1 (rw f at l) (rw f at e)))

  pub entered-coded : (c : ℕ) (o : Observation) (S : List Observation) → code_field (packed (triple o)) ≡ c
      → Each (Own i) S
      → length (entry c S) ≤ 1 → entered i (triple o) (map triple S) ≡ map triple (with_entry c o S)
  unfolding with_entry
  entered-coded c o S k q l =
      by-test (stands_in c S) (λ e. rw e (entered-some c o S k q l e)) (λ e. rw e (entered-none c o S k q e))

  without-none : (c : ℕ) (S : List Observation) → stands_in c S ≡ false → keep (λ x. not (stands_as c x.value)) S ≡ S
  unfolding keep stands_in
  without-none c [] e = refl
  without-none c (x ∷ S) e =
      by-test (stands_as c x.value) (λ f. absurd (true≢false (rw f at e)))
      (λ f. rw (f, without-none c S (rw f at e)))

  pub cleared-coded : (c : ℕ) (S : List Observation) → Each (Own i) S → length (entry c S) ≤ 1
      → cleared i c (map triple S) ≡ map triple (keep (λ x. not (stands_as c x.value)) S)
  unfolding cleared keep
  cleared-coded c [] q l = refl
  cleared-coded c (x ∷ S) q l =
      by-test (stands_as c x.value)
      (λ f. rw (own-stands c x q.0, f, without-none c S (none_in c S (omega (arith, rw f at l)))))
      (λ f. rw (own-stands c x q.0, f, cleared-coded c S q.1 (rw f at l)))

-- ---- the step

or-alone : (o : Observation) (S : List Observation) → eqb o.number 0 ≡ false
    → or_alone (triple o) (map triple S) ≡ map triple (shown S o)
or-alone o [] e = rw e
or-alone o (x ∷ S) e = refl

-- o alone
alone : (o : Observation) → eqb o.number 0 ≡ false → triple o ∷ [] ≡ map triple (found o)
alone o e = rw e

some-shown : (S : List Observation) (o : Observation) → nothing_stands S ≡ false → shown S o ≡ S
some-shown [] o e = absurd (true≢false e)
some-shown (x ∷ S) o e = refl

module _ (i number time : ℕ) (p : 0 < number) where
  -- an observation of item i
  abbrev made : Value → Observation
  made v = record { number = number; item = i; time = time; value = v }

  given : eqb number 0 ≡ false
  given = ne_eqb number 0 (omega arith)

  -- where nothing stood
  fresh : (v : Value) → triple (made v) ∷ [] ≡ map triple (shown (by_value [] (made v) v) (made v))
  unfolding keep with_entry stands_in
  fresh Unavailable = alone (made Unavailable) given
  fresh (Sample x) = alone (made (Sample x)) given
  fresh (Event c) = alone (made (Event c)) given
  fresh (Condition Normal c) =
      by-test (eqb c 0) (λ e. rw e (alone (made (Condition Normal c)) given))
      (λ e. rw e (alone (made (Condition Normal c)) given))
  fresh (Condition Warning c) = refl
  fresh (Condition Fault c) = refl

  module _ (S : List Observation) (q : Each (Own i) S) (d : (c : ℕ) → length (entry c S) ≤ 1) where
    raise-active : (l : Level) (c : ℕ) → raised l ≡ true → c < 2 ^ 24
        → step_active i (map triple S) (triple (made (Condition l c)))
        ≡ map triple (shown (with_entry c (made (Condition l c)) S) (made (Condition l c)))
    unfolding step_active
    raise-active l c r h =
        rw (
          active-coded i (Condition l c) h,
          r,
          some-shown (with_entry c (made (Condition l c)) S)
              (made (Condition l c)) (with-some c (made (Condition l c)) S),
        )
        (entered-coded i c (made (Condition l c)) S (code-coded i l c h) q (d c))

    -- where some stood
    step-active : (v : Value) → Coded v
        → step_active i (map triple S) (triple (made v)) ≡ map triple (shown (by_value S (made v) v) (made v))
    unfolding step_active
    step-active Unavailable h =
        rw (active-coded i Unavailable h, normal-coded i Unavailable h) (alone (made Unavailable) given)
    step-active (Sample x) h =
        rw (active-coded i (Sample x) h, normal-coded i (Sample x) h) (alone (made (Sample x)) given)
    step-active (Event c) h =
        rw (active-coded i (Event c) h, normal-coded i (Event c) h) (alone (made (Event c)) given)
    step-active (Condition Normal c) h =
        rw (active-coded i (Condition Normal c) h, normal-coded i (Condition Normal c) h, code-coded i Normal c h)
        (by-test (eqb c 0)
        (λ e. rw e (alone (made (Condition Normal c)) given))
        (λ e.
        rw (e, cleared-coded i c S q (d c))
        (or-alone (made (Condition Normal c)) (keep (λ x. not (stands_as c x.value)) S) given)))
    step-active (Condition Warning c) h = raise-active Warning c refl h
    step-active (Condition Fault c) h = raise-active Fault c refl h

-- some are active where some stand
any-coded : (i : ℕ) (x : Observation) (S : List Observation) → is_standing x.value ≡ true → Own i x
    → any_active i (map triple (x ∷ S)) ≡ true
unfolding any_entry
any-coded i x S s q = rw (own-active i x q, s)

-- .. and the newest alone isn't
none-coded : (i : ℕ) (n : Observation) → is_standing n.value ≡ false → (eqb n.number 0 ≡ false → Own i n)
    → any_active i (map triple (found n)) ≡ false
unfolding any_entry
none-coded i n s q =
    by-test (eqb n.number 0) (λ e. rw e) (λ e. rw (e, own-active i n (q e), s))

found-few : (n : Observation) → ltb 8 (length (map triple (found n))) ≡ false
found-few n = by-test (eqb n.number 0) (λ e. rw e) (λ e. rw e)

step-made : (i number time : ℕ) (v : Value) (S : List Observation) (n : Observation) → 0 < number → Coded v
    → Sound (Own i) S n → length S ≤ 8
    → step i (map triple (shown S n)) (triple (record { number = number; item = i; time = time; value = v }))
    ≡ map triple
    (shown (step_value S (record { number = number; item = i; time = time; value = v }))
    (record { number = number; item = i; time = time; value = v }))
unfolding step
step-made i number time v [] n p h s l =
    rw (found-few n, none-coded i n (s.quiet refl) s.new) (fresh i number time p v)
step-made i number time v (x ∷ S) n p h s l =
    rw (
      le-ltb 8 (length (map triple (x ∷ S))) (omega (arith, length-map (x ∷ S) triple)),
      any-coded i x S s.stand.0.0 s.stand.0.1,
    )
    (step-active i number time p (x ∷ S)
    (own-standing i (x ∷ S) s.stand) s.differ v h)

-- the step over words is that over observations
pub step-triple : (i : ℕ) (S : List Observation) (n o : Observation) → Sound (Own i) S n → length S ≤ 8 → Own i o
    → step i (map triple (shown S n)) (triple o) ≡ map triple (shown (step_value S o) o)
step-triple i S n o s l q =
    subst
    (λ (j : ℕ). Sound (Own j) S n → step j (map triple (shown S n)) (triple o) ≡ map triple (shown (step_value S o) o))
    q.0
    (λ t. step-made o.item o.number o.time o.value S n q.2 q.1 t l) s

-- ---- Same, and 19

holds-coded : (i : ℕ) (v : Value) (S : List Observation) → Coded v → Each (Own i) S
    → holds (pack i v) (map triple S) ≡ level_stands v S
unfolding any_entry level_stands
holds-coded i v [] h q = refl
holds-coded i v (x ∷ S) h q =
    rw (q.0.0, compare-coded i x.value v q.0.1 h, holds-coded i v S h q.1)

-- a value that stands isn't one that does not
not-standing : (v w : Value) → is_standing v ≡ not (is_standing w) → eq_value v w ≡ false
not-standing v w e =
    by-test (eq_value v w)
    (λ f. absurd (apart (is_standing w) (sym (ap is_standing (eq_value-true v w f)) ∙ e)))
    (λ f. f)
  where
    apart : (t : Bool) → t ≡ not t → ⊥
    apart true g = true≢false g
    apart false g = false≢true g

none-unavailable : (S : List Observation) → Each (λ x. is_standing x.value ≡ true) S
    → level_stands Unavailable S ≡ false
unfolding level_stands
none-unavailable [] s = refl
none-unavailable (x ∷ S) s = rw (not-standing x.value Unavailable s.0, none-unavailable S s.1)

module _ (i : ℕ) (n : Observation) (q : Own i n) where
  alone-is : found n ≡ n ∷ []
  alone-is = rw (ne_eqb n.number 0 (omega (arith, q.2)))

  -- a value that stands isn't the newest's
  none-holds : (v : Value) → Coded v → is_standing n.value ≡ not (is_standing v)
      → holds (pack i v) (map triple (found n)) ≡ false
  unfolding level_stands
  none-holds v h s = rw (alone-is, holds-coded i v (n ∷ []) h (q, tt), not-standing n.value v s)

  -- where none stands, and where some do
  same_none : (v : Value) → Coded v → takes 2 v ≡ true → is_standing n.value ≡ false
      → repeats_in i (map triple (found n)) (pack i v) ≡ same_standing [] n.value v
  unfolding repeats_in level_stands stands_in
  same_none Unavailable h t s =
      rw (normal-coded i Unavailable h, alone-is, holds-coded i Unavailable (n ∷ []) h (q, tt))
      (or-false (eq_value n.value Unavailable))
  same_none (Sample x) h t s = absurd (false≢true t)
  same_none (Event c) h t s = absurd (false≢true t)
  same_none (Condition Normal c) h t s =
      rw (
        normal-coded i (Condition Normal c) h,
        code-coded i Normal c h,
        none-coded i n s (λ e. q),
        alone-is,
        holds-coded i Unavailable (n ∷ []) tt (q, tt),
        has-coded i c (n ∷ []) (q, tt),
        s,
        or-false (eq_value n.value Unavailable),
      )
  same_none (Condition Warning c) h t s =
      rw (normal-coded i (Condition Warning c) h, none-holds (Condition Warning c) h s)
  same_none (Condition Fault c) h t s =
      rw (normal-coded i (Condition Fault c) h, none-holds (Condition Fault c) h s)

module _ (i : ℕ) (x : Observation) (S : List Observation) (n : Observation) (s : Sound (Own i) (x ∷ S) n) where
  own : Each (Own i) (x ∷ S)
  own = own-standing i (x ∷ S) s.stand

  not-unavailable : eq_value n.value Unavailable ≡ false
  not-unavailable =
      by-test (eq_value n.value Unavailable)
      (λ e. absurd (some-there (s.unavailable (eq_value-true n.value Unavailable e))))
      (λ e. e)
    where
      some-there : ◌≡◌ {A = List Observation} (x ∷ S) [] → ⊥
      some-there e = let z : suc (length S) ≡ 0 = ap length e in omega arith

  same_some : (v : Value) → Coded v → takes 2 v ≡ true
      → repeats_in i (map triple (x ∷ S)) (pack i v) ≡ same_standing (x ∷ S) n.value v
  unfolding repeats_in
  same_some Unavailable h t =
      rw (
        normal-coded i Unavailable h,
        holds-coded i Unavailable (x ∷ S) h own,
        none-unavailable (x ∷ S)
            (each-imp {P = λ y. (is_standing y.value ≡ true) × Own i y} {Q = λ y. is_standing y.value ≡ true} (λ y u. u.0)
            (x ∷ S) s.stand),
        not-unavailable,
      )
  same_some (Sample y) h t = absurd (false≢true t)
  same_some (Event c) h t = absurd (false≢true t)
  same_some (Condition Normal c) h t =
      rw (
        normal-coded i (Condition Normal c) h,
        code-coded i Normal c h,
        any-coded i x S s.stand.0.0 s.stand.0.1,
        has-coded i c (x ∷ S) own,
      )
  same_some (Condition Warning c) h t =
      rw (normal-coded i (Condition Warning c) h, holds-coded i (Condition Warning c) (x ∷ S) h own)
  same_some (Condition Fault c) h t =
      rw (normal-coded i (Condition Fault c) h, holds-coded i (Condition Fault c) (x ∷ S) h own)

pub same-triple : (i : ℕ) (S : List Observation) (n : Observation) (v : Value) → Sound (Own i) S n → Own i n → Coded v
    → takes 2 v ≡ true
    → repeats_in i (map triple (shown S n)) (pack i v) ≡ same_standing S n.value v
same-triple i [] n v s q h t = same_none i n q v h t (s.quiet refl)
same-triple i (x ∷ S) n v s q h t = same_some i x S n s v h t

crowded-level : (i : ℕ) (S : List Observation) (n : Observation) (l : Level) (c : ℕ) → Sound (Own i) S n → c < 2 ^ 24
    → crowded i (map triple (shown S n)) (pack i (Condition l c)) ≡ crowded_standing S (Condition l c)
unfolding crowded
crowded-level i [] n l c s h =
    by-test (eqb n.number 0)
    (λ e.
    rw (
      active-coded i (Condition l c) h,
      e,
      and-false (not (has_code i (code_field (pack i (Condition l c))) [])),
      and-false (not (stands_in c [])),
    ))
    (λ e.
    rw (
      active-coded i (Condition l c) h,
      e,
      and-false (not (has_code i (code_field (pack i (Condition l c))) (triple n ∷ []))),
      and-false (not (stands_in c [])),
    ))
crowded-level i (x ∷ S) n l c s h =
    rw (
      active-coded i (Condition l c) h,
      code-coded i l c h,
      has-coded i c (x ∷ S) (own i x S n s),
      length-map (x ∷ S) triple,
    )

pub crowded-triple : (i : ℕ) (S : List Observation) (n : Observation) (v : Value) → Sound (Own i) S n → Coded v
    → crowded i (map triple (shown S n)) (pack i v) ≡ crowded_standing S v
unfolding crowded
crowded-triple i S n Unavailable s h = rw (active-coded i Unavailable h)
crowded-triple i S n (Sample x) s h = rw (active-coded i (Sample x) h)
crowded-triple i S n (Event c) s h = rw (active-coded i (Event c) h)
crowded-triple i S n (Condition l c) s h = crowded-level i S n l c s h

-- ---- the written form

-- the code of a value that stands
code-standing : (i : ℕ) (v : Value) → is_standing v ≡ true → Coded v → stands_as (code_field (pack i v)) v ≡ true
code-standing i Unavailable s h = absurd (false≢true s)
code-standing i (Sample x) s h = absurd (false≢true s)
code-standing i (Event c) s h = absurd (false≢true s)
code-standing i (Condition l c) s h = rw (code-coded i l c h, s) (eq-eqb c c refl)

entry-tail : (c : ℕ) (x : Observation) (S : List Observation) → length (entry c S) ≤ length (entry c (x ∷ S))
unfolding keep
entry-tail c x S = by-test (stands_as c x.value) (λ e. rw e (omega arith)) (λ e. rw e (omega arith))

differ-coded : (i : ℕ) (S : List Observation) → Each (λ x. (is_standing x.value ≡ true) × Own i x) S → Differ S
    → codes_differ i (map triple S) ≡ true
unfolding codes_differ keep
differ-coded i [] q d = refl
differ-coded i (x ∷ S) q d =
    let c : ℕ = code_field (packed (triple x)) in
    let e : stands_as c x.value ≡ true = rw q.0.1.0 (code-standing i x.value q.0.0 q.0.1.1) in
    let z : stands_in c S ≡ false = none_in c S (omega (arith, rw e at (d c))) in
    rw (
      own-active i x q.0.1,
      q.0.0,
      has-coded i c S (own-standing i S q.1),
      z,
    )
    (differ-coded i S q.1 (λ k. omega (arith, d k, entry-tail k x S)))

given-triples : (i : ℕ) (S : List Observation) → Each (Own i) S → Given (map triple S)
given-triples i S q = each-map _ triple S (each-imp {P = Own i} (λ x p. p.2) S q)

module _ (i : ℕ) (n : Observation) where
  shown-own : (S : List Observation) → Sound (Own i) S n → Each (Own i) (shown S n)
  shown-own [] s = by-test (eqb n.number 0) (λ e. rw e tt) (λ e. rw e (s.new e, tt))
  shown-own (x ∷ S) s = own i x S n s

  pub shown-few : (S : List Observation) → length S ≤ 8 → length (map triple (shown S n)) ≤ 8
  shown-few [] h = by-test (eqb n.number 0) (λ e. rw e (omega arith)) (λ e. rw e (omega arith))
  shown-few (x ∷ S) h = omega (arith, length-map (x ∷ S) triple)

  -- what an item's rows hold is what is used of them
  pub used-shown : (S : List Observation) → Sound (Own i) S n → length S ≤ 8
      → used_rows (padded 8 (map triple (shown S n))) ≡ map triple (shown S n)
  used-shown S s h =
      used-padded 8 (map triple (shown S n)) (given-triples i (shown S n) (shown-own S s)) (shown-few S h)

  one-or-differ : (S : List Observation) → Sound (Own i) S n
      → leb (length (map triple (shown S n))) 1 || codes_differ i (map triple (shown S n)) ≡ true
  one-or-differ [] s = by-test (eqb n.number 0) (λ e. rw e) (λ e. rw e)
  one-or-differ (x ∷ S) s =
      rw (differ-coded i (x ∷ S) s.stand s.differ) (or-true (leb (length (map triple (x ∷ S))) 1))

  -- and they have the written form
  pub form-shown : (least : ℕ) (S : List Observation) → Sound (Own i) S n → length S ≤ 8
      → least ≤ length (map triple (shown S n))
      → form_ok i least (padded 8 (map triple (shown S n))) ≡ true
  unfolding form_ok
  form-shown least S s h l =
      rw (used-shown S s h, le-leb least (length (map triple (shown S n))) l, padded-zeros 8 (map triple (shown S n)))
      (one-or-differ S s)
