-- Start's loop: its invariant, what a turn asks and gives, by one row behind the eviction.
use Prim.Native.Nat.{ℕ, suc, ◌+◌, ◌-◌, ◌%◌, ◌≤◌, ◌<◌}
use mathlib.Core.Path.{◌≡◌, refl, ap, ◌∙◌}
use mathlib.Core.Bool.{true}
use mathlib.Core.List.{List, [], ◌∷◌, ◌++◌}
use native.Mathlib.Omega.{arith}
use native.Mathlib.Nat.{sub-zero, add-zero}
use native.Mathlib.Numerals.{add-one}
use lib.ListN.{length, length-append}
use borrow.Author.Tests.{ne_eqb}
use Rattle.spec.specs.Value.{pack}
use Rattle.spec.specs.Blocks.{padded}
use Rattle.history.specs.Observations.{latest_at, place, store_words, item_rows, evict, evict_ok, add, blank, add_all}
use Rattle.history.specs.Observations.{start_store}
use Rattle.history.specs.Reference.{Observation}
use Rattle.history.specs.Standing.{entries_of}
use Rattle.spec.specs.declared.Value.TheVariants.{Unavailable}
use Rattle.spec.proofs.Words.{one-more}
use Rattle.history.proofs.Added.{length-evict}
use Rattle.history.proofs.Kept.{Rep, next, entries-other, add-rep}
use Rattle.history.proofs.Rows.{evict-ok}
use Rattle.history.proofs.Start.{none_of, blank-rep}
use Rattle.plain.specs.Short.{put_number}
use Rattle.plain.proofs.Laws.{put-latest, numbered, newest-first}
use Rattle.evicting.specs.Writing.{Overwriting}
use Rattle.evicting.proofs.Laws.{evict-latest}
use Rattle.starting.specs.Start.{Starting}

-- start's loop: k items are added, as the reference model holds them, the others have no entry yet, and the rest
-- makes the whole
pub record Filling (cat : ℕ → ℕ) (n m b host k : ℕ) (st : List ℕ) : Type 0 where
  pub below : k ≤ m
  pub held : List Observation
  pub count : length held ≡ k
  pub rep : Rep cat n m b held st
  pub fresh : (i : ℕ) → k ≤ i → entries_of (cat i) i held ≡ []
  pub rest : add_all cat n m b host (m - k) (b + k) k st ≡ start_store cat n m b host

pub filling-none : (cat : ℕ → ℕ) (n m b host : ℕ) → Starting n m b → Filling cat n m b host 0 (blank n m b)
unfolding start_store
filling-none cat n m b host s =
    record {
      below = omega arith;
      held = [];
      count = refl;
      rep = blank-rep cat n m b s.n_pos s.b_pos;
      fresh = λ i h. none_of (cat i) i;
      rest = rw (sub-zero, add-zero b);
    }

one_more : (cat : ℕ → ℕ) (n m b host k : ℕ) (st : List ℕ) → k < m
    → add_all cat n m b host (m - (k + 1)) (b + (k + 1)) (k + 1) (add cat n m b (b + k) k host (pack k Unavailable) st)
    ≡ add_all cat n m b host (m - k) (b + k) k st
unfolding add_all
one_more cat n m b host k st l =
    let f : b + (k + 1) ≡ suc (b + k) = omega arith in
    rw (one-more k m l, f, add-one k)

-- the place of item k
pub place_of : (n b k : ℕ) → place n b (b + k) ≡ k % n
place_of n b k =
    let z : b + k - b ≡ k = omega arith in
    ap (λ x. x % n) z

module _ {cat : ℕ → ℕ} {n m b host k : ℕ} {st : List ℕ} (f : Filling cat n m b host k st) where
  at_count : evict_ok cat n m b (b + length f.held) st ≡ true
  at_count = evict-ok cat n m b f.held st f.rep

  -- what a turn's number asks, and what it gives
  pub filling-fits : Starting n m b → Overwriting cat n m b (b + k) st
  filling-fits s =
      record {
        ring = record { n_pos = s.n_pos; n_max = s.n_max; b_s = omega arith; len = f.rep.words };
        ok = rw f.count at at_count;
      }

  pub filling-words : {x : List ℕ} → x ≡ evict cat n m b (b + k) st → length x ≡ store_words n m
  filling-words e = rw e (length-evict cat n m b (b + k) st ∙ f.rep.words)

  -- one row behind the eviction is the addition
  filling-row : (x e : List ℕ) (w h p : ℕ) → Starting n m b → k < m → h ≡ m → (p ≡ place n b (b + k)) × (p < n)
      → x ≡ evict cat n m b (b + k) st → e ≡ put_number n h p k (b + k) host w x
      → e ≡ add cat n m b (b + k) k host w st
  filling-row x e w h p s l eh at ex q =
      let u : item_rows st (latest_at n) m k ≡ padded 8 [] = rw (f.fresh k (omega arith)) at (f.rep.latest k l) in
      let v : item_rows x (latest_at n) m k ≡ padded 8 [] =
      rw ex (evict-latest cat n m b (b + k) st (filling-fits s) k l ∙ u) in
      numbered cat n m b (b + k) k host w p st x e ex at.0
      (newest-first _ (latest_at n) m k _ l (put-latest n m x p host w k at.1 l ∙ v) cat refl)
      (rw eh at q)

  -- a turn
  pub filling-more : {x e : List ℕ} {w h p : ℕ} → Starting n m b → k < m → h ≡ m → w ≡ pack k Unavailable
      → (p ≡ place n b (b + k)) × (p < n) → x ≡ evict cat n m b (b + k) st
      → e ≡ put_number n h p k (b + k) host w x → Filling cat n m b host (k + 1) e
  filling-more {x} {e} {w} {h} {p} s l eh ew at ex en =
      let a : e ≡ add cat n m b (b + length f.held) k host (pack k Unavailable) st =
      filling-row x e w h p s l eh at ex en ∙ rw (ew, f.count) in
      let o = next b f.held k host Unavailable in
      record {
        below = omega arith;
        held = f.held ++ (o ∷ []);
        count = length-append f.held (o ∷ []) ∙ omega (arith, f.count);
        rep = rw a (add-rep cat n m b f.held st k host Unavailable f.rep l tt (λ c. refl));
        fresh =
            λ i h.
            entries-other (cat i) i f.held o (ne_eqb k i (omega arith)) ∙ f.fresh i (omega arith);
        rest = rw (a, f.count) (one_more cat n m b host k st l ∙ f.rest);
      }

  pub filling-all : m ≤ k → st ≡ start_store cat n m b host
  unfolding add_all
  filling-all l =
      let e : m - k ≡ 0 = omega (arith, f.below) in
      rw e at f.rest
