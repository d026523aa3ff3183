-- The lists of a reply's rows: one row more before them, and the lines of a group's rows along them.
use Prim.Native.Nat.{ℕ, zero, suc, ◌+◌, ◌-◌, ◌≤◌, ◌<◌}
use mathlib.Core.Path.{◌≡◌, sym, ◌∙◌}
use mathlib.Core.List.{List, [], ◌∷◌, ◌++◌, map}
use native.Mathlib.Omega.{arith}
use borrow.Author.Tests.{eqb-true, eqb-false}
use lib.Dec.{eqb}
use lib.ListN.{length, get_or, set, take, replicate, length-set, get_or-replicate, length-replicate}
use lib.Seq.{length-sets, get_or-set_same, get_or-set_other}
use Rattle.spec.specs.Value.{item_of}
use Rattle.spec.specs.Model.{max_components, item_word, component_of, category_of}
use Rattle.spec.specs.Reply.{rows_of}
use Rattle.spec.proofs.Words.{by-test}
use Rattle.streams.specs.Streams.{row_in, group_of, row_component, row_group, groups, item_type, row_line}
use Rattle.streams.proofs.Rows.{row_at}
use Rattle.writer.specs.Puts.{Put, stop}
use Rattle.writer.specs.declared.Output.{Output}
use Rattle.row_groups.specs.Groups.{kept_text}
use Rattle.row_groups.specs.Lists.{few, reply_row, Stands, Leads, Listed}
use Rattle.row_groups.proofs.Laws.{line-none, line-put, pass-more}

-- ---- the lists of the rows from n on

module _ (model reply : List ℕ) where
  -- behind the last row nothing is there
  pub listed-none : (k : ℕ) → k ≡ get_or reply 0 0
      → Listed model reply k (replicate max_components (replicate groups k)) (replicate few 0)
  listed-none k e =
      record {
        len = length-replicate {A = List ℕ} max_components (replicate groups k);
        each = λ c h. rw (get_or-replicate max_components c (replicate groups k) [] h) (length-replicate groups k);
        room = length-replicate {A = ℕ} few 0;
        starts = λ c g h l.
            rw (get_or-replicate max_components c (replicate groups k) [] h, get_or-replicate groups g k 0 l)
            (record {
              above = omega arith;
              below = omega arith;
              own = λ q. absurd (omega arith);
              others = λ j p q s. absurd (omega arith);
            });
        follows = λ j p q. absurd (omega arith);
      }

  module _ (c g i : ℕ) where
    -- a row of its own leads from itself
    leads-own : i < get_or reply 0 0 → Stands model reply c g i → Leads model reply c g i i
    leads-own h s =
        record {
          above = omega arith;
          below = omega arith;
          own = λ q. s;
          others = λ j p q t. absurd (omega arith);
        }

    -- one of another component or group changes nothing
    leads-back : (at : ℕ) → Leads model reply c g (suc i) at → (Stands model reply c g i → ⊥)
        → Leads model reply c g i at
    leads-back at L n =
        record {
          above = omega (arith, L.above);
          below = L.below;
          own = L.own;
          others = λ j p q s.
              by-test (eqb j i)
              (λ t. n (rw (eqb-true j i t) at s))
              (λ t. let o = eqb-false j i t in L.others j (omega (arith, o)) q s);
        }

  -- the row before them joins
  module _ (i : ℕ) (h : i < get_or reply 0 0) (small : get_or reply 0 0 ≤ few) {first : List (List ℕ)} {next : List ℕ}
      (L : Listed model reply (suc i) first next) (c g : ℕ) (S : Stands model reply c g i) (lc : c < max_components)
      (lg : g < groups) where
    abbrev firsts : List (List ℕ)
    firsts = set first c (set (get_or first c []) g i)

    abbrev nexts : List ℕ
    nexts = set next i (get_or (get_or first c []) g 0)

    firsts-same : get_or firsts c [] ≡ set (get_or first c []) g i
    firsts-same = get_or-set_same first c _ [] (omega (arith, L.len))

    each_more : (d : ℕ) → d < max_components → length (get_or firsts d []) ≡ groups
    each_more d l =
        by-test (eqb c d)
        (λ t. rw (← eqb-true c d t, firsts-same) (length-set (get_or first c []) g i ∙ L.each c lc))
        (λ t. rw (get_or-set_other first c d _ [] (λ q. eqb-false c d t (sym q))) (L.each d l))

    starts_more : (d f : ℕ) → d < max_components → f < groups
        → Leads model reply d f i (get_or (get_or firsts d []) f 0)
    starts_more d f l m =
        by-test (eqb c d)
        (λ t. rw (← eqb-true c d t, firsts-same) (own (eqb-true c d t)))
        (λ t.
        rw (get_or-set_other first c d _ [] (λ q. eqb-false c d t (sym q)))
        (leads-back d f i _ (L.starts d f l m) (λ s. eqb-false c d t (sym S.component ∙ s.component))))
      where
        own : c ≡ d → Leads model reply c f i (get_or (set (get_or first c []) g i) f 0)
        own e =
            by-test (eqb g f)
            (λ t.
            rw (← eqb-true g f t, get_or-set_same (get_or first c []) g i 0 (omega (arith, L.each c lc)))
            (leads-own c g i h S))
            (λ t.
            rw (get_or-set_other (get_or first c []) g f i 0 (λ q. eqb-false g f t (sym q)))
            (leads-back c f i _ (L.starts c f lc m) (λ s. eqb-false g f t (sym S.group ∙ s.group))))

    follows_more : (j : ℕ) → i ≤ j → j < get_or reply 0 0
        → Leads model reply (row_component model (reply_row reply j)) (row_group model (reply_row reply j)) (suc j)
        (get_or nexts j 0)
    follows_more j p q =
        by-test (eqb i j)
        (λ t.
        rw (
          ← eqb-true i j t,
          S.component,
          S.group,
          get_or-set_same next i (get_or (get_or first c []) g 0) 0 (omega (arith, L.room)),
        )
        (L.starts c g lc lg))
        (λ t.
        let o = eqb-false i j t in
        rw (get_or-set_other next i j (get_or (get_or first c []) g 0) 0 (λ q. o (sym q)))
        (L.follows j (omega (arith, o)) q))

    pub listed_more : Listed model reply i firsts nexts
    listed_more =
        record {
          len = length-set first c _ ∙ L.len;
          each = each_more;
          room = length-set next i _ ∙ L.room;
          starts = starts_more;
          follows = follows_more;
        }

-- a turn of the loop that makes them
pub listing-more : (model reply : List ℕ) (i : ℕ) → 0 < i → i ≤ get_or reply 0 0 → get_or reply 0 0 ≤ few
    → {first : List (List ℕ)} {next : List ℕ} → Listed model reply i first next
    → (w c g : ℕ) → w ≡ item_word model (item_of (get_or (row_at reply (i - 1)) 2 0))
    → c ≡ component_of w → g ≡ group_of (category_of w) → c < max_components → g < groups
    → Listed model reply (i - 1) (set first c (set (get_or first c []) g (i - 1)))
    (set next (i - 1) (get_or (get_or first c []) g 0))
listing-more model reply zero p h small L w c g ew ec eg lc lg = absurd (omega arith)
listing-more model reply (suc i) p h small L w c g ew ec eg lc lg =
    let q : suc i - 1 ≡ i = omega arith in
    let fw : w ≡ item_word model (item_of (get_or (row_at reply i) 2 0)) = rw q at ew in
    let S : Stands model reply c g i =
    record { component = sym (rw fw at ec); group = sym (rw fw at eg) } in
    rw q (listed_more model reply i (omega arith) small L c g S lc lg)

-- ---- the lines along them

module _ (model names reply : List ℕ) (c g : ℕ) {l : Output} (h : length l.bytes.now ≤ stop) where
  -- what does not stand in the group puts nothing
  none-put : (j : ℕ) → (Stands model reply c g j → ⊥)
      → Put l (kept_text model names c g (row_in (row_at reply j) ∷ [])) l
  none-put j n = line-none model names c g (row_at reply j) (λ e f. n (record { component = e; group = f })) h

  skip-put : {o : Output} (d p : ℕ) → p + d ≤ get_or reply 0 0
      → ((j : ℕ) → p ≤ j → j < p + d → Stands model reply c g j → ⊥)
      → Put o (kept_text model names c g (map row_in (take p (rows_of reply)))) l
      → Put o (kept_text model names c g (map row_in (take (p + d) (rows_of reply)))) l
  skip-put zero p k n a = let e : p + 0 ≡ p = omega arith in rw e a
  skip-put (suc d) p k n a =
      let e : p + suc d ≡ suc (p + d) = omega arith in
      rw e
      (pass-more model names c g reply (p + d) (omega arith)
      (skip-put d p (omega arith) (λ j q r. n j q (omega arith)) a)
      (none-put (p + d) (n (p + d) (omega arith) (omega arith))))

-- what is put into has the length that it had
short-after : {s : List ℕ} {l l₁ : Output} → Put l s l₁ → length l₁.bytes.now ≤ stop
short-after {s} {l} b = rw b.stands (omega (arith, length-sets l.bytes.now l.at s, b.short))

-- the lines of the rows before i are put, and row i stands in the group, or there is none
pub record Reached (model names reply : List ℕ) (c g : ℕ) (o l : Output) (i : ℕ) : Type 0 where
  pub below : i ≤ get_or reply 0 0
  pub own : i < get_or reply 0 0 → Stands model reply c g i
  pub lines : Put o (kept_text model names c g (map row_in (take i (rows_of reply)))) l

module _ (model names reply : List ℕ) (c g : ℕ) {o : Output} where
  pub reach : {l : Output} (p at : ℕ) → length l.bytes.now ≤ stop → Leads model reply c g p at
      → Put o (kept_text model names c g (map row_in (take p (rows_of reply)))) l
      → Reached model names reply c g o l at
  reach p at h L a =
      let e : p + (at - p) ≡ at = omega (arith, L.above) in
      record {
        below = L.below;
        own = L.own;
        lines =
            rw e at (skip-put model names reply c g h (at - p) p (omega (arith, L.above, L.below))
            (λ j q r. L.others j q (omega (arith, L.above))) a);
      }

  -- one row further
  pub reach-more : {l l₁ : Output} {first : List (List ℕ)} {next : List ℕ} (i : ℕ) → i < get_or reply 0 0
      → Listed model reply 0 first next → Reached model names reply c g o l i
      → Put l (row_line g (item_type model names (reply_row reply i).item) (reply_row reply i) ++ 10 ∷ []) l₁
      → Reached model names reply c g o l₁ (get_or next i 0)
  reach-more {next = next} i k L r b =
      let S = r.own k in
      reach (suc i) (get_or next i 0) (short-after b)
      (rw (S.component, S.group) at (L.follows i (omega arith) k))
      (pass-more model names c g reply i k r.lines
      (line-put model names c g (row_at reply i) S.component S.group b))
