-- What is found in a condition item's latest, what is new, and what is observed then.
use Prim.Native.Nat.{ℕ, ◌*◌}
use mathlib.Core.Path.{◌≡◌}
use mathlib.Core.Bool.{true}
use mathlib.Core.List.{List}
use borrow.Author.Tests.{eq-eqb}
use Rattle.spec.specs.Blocks.{table_rows}
use Rattle.history.specs.Observations.{ring_size, latest_at, latest_ok, repeats_at, crowded_at}
use Rattle.history.specs.Calls.{not_observed, room_for, observe_by}
use Rattle.spec.proofs.Words.{by-test}
use Rattle.judging.specs.Findings.{judged}
use Rattle.judging.specs.declared.Judged.{Judged}
use Rattle.judging.specs.declared.Judged.TheVariants.{Repeated, New}
use Rattle.std.specs.Prelude.{Result, Ok, Err}
use Rattle.spec.specs.declared.Refusal.{Refusal}
use Rattle.spec.specs.declared.Refusal.TheVariants.{Store}
use Rattle.spec.specs.declared.Noted.TheVariants.{Same}
use Rattle.short_way.specs.Found.{found, observed_by}
use Rattle.short_way.proofs.Laws.{by-found}

module _ (cat : ℕ → ℕ) (n m : ℕ) (st : List ℕ) (item word : ℕ) where
  -- a condition item's entries, in the latest table
  pub found-entries : {r : Result Judged Refusal} (w t : ℕ) → w ≡ 8 * m → t ≡ latest_at n → cat item ≡ 2
      → r ≡ judged item (table_rows st t w 8 (8 * item)) word → r ≡ found cat n m st item word
  unfolding found judged latest_ok repeats_at crowded_at
  found-entries w t ew et c e = rw (e, et, ew, eq-eqb (cat item) 2 c)

  -- what is new has a latest in its form
  pub new-latest : Ok New ≡ found cat n m st item word → latest_ok cat n m st item ≡ true
  unfolding found
  new-latest e =
      by-test (latest_ok cat n m st item) (λ t. t)
      (λ t. absurd (let b : ◌≡◌ {A = Result Judged Refusal} (Ok New) (Err Store) = rw t at e in (cc)))

-- what is found decides
module _ (cat : ℕ → ℕ) (m : ℕ) (st : List ℕ) (item time word : ℕ) where
  pub broken-observed : (r : Refusal) → Err r ≡ found cat (ring_size st) m st item word
      → observed_by cat m st item time word ≡ not_observed r st
  broken-observed r e = by-found cat m st item time word (Err r) e

  pub repeated-observed : Ok Repeated ≡ found cat (ring_size st) m st item word
      → observed_by cat m st item time word ≡ record { answer = Ok Same; observations = st }
  repeated-observed e = by-found cat m st item time word (Ok Repeated) e

  pub new-observed : Ok New ≡ found cat (ring_size st) m st item word
      → observed_by cat m st item time word ≡ observe_by (room_for cat m st) cat m st item time word
  new-observed e = by-found cat m st item time word (Ok New) e

pub ruleset found_ways = (new-latest, broken-observed, repeated-observed, new-observed)
