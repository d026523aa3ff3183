-- Numbers that both layers have, each in its own words, so that one misreading in both would let `history` stand, and
-- a test that only a store of other origin than start meets: by computation, at the last value that passes and the
-- first that doesn't. Whole calls at the same bounds are worked in cases.
use Prim.Native.Nat.{ℕ}
use mathlib.Core.Path.{◌≡◌, refl}
use mathlib.Core.Bool.{true, false}
use mathlib.Core.List.{List, [], ◌∷◌, ◌++◌, map}
use lib.ListN.{replicate}
use Rattle.std.specs.Prelude.{Err}
use Rattle.spec.specs.Bytes.{pad}
use Rattle.spec.specs.Answers.{answer_number, observe_word}
use Rattle.lines.specs.declared.LineError.TheVariants.{Malformed, BadStamp}
use Rattle.spec.specs.declared.Value.TheVariants.{Unavailable}
use Rattle.spec.specs.declared.Refusal.TheVariants.{Late, Early}
use Rattle.std.specs.Prelude.{Ok, Err}
use Rattle.spec.proofs.Opened.{opened}
use Rattle.history.specs.Observations.{latest_ok}
use Rattle.history.specs.Calls
use Rattle.history.specs.Standing.{entries_of, entries_rows}
use Rattle.history.specs.Reference
use Rattle.history.specs.Reference.{State, keep, last_or}

-- ---- start, refusal 3: N 1..131,072; A 1..128

-- the tests of both layers
pub sizes-tested :
    ((Calls.start_ok 1 131072 1 1 262196 546 ∷ Calls.start_ok 1 131073 1 1 262198 546
    ∷ Calls.start_ok 1 1 128 1 54 69634 ∷ Calls.start_ok 1 1 129 1 54 70178 ∷ [])
    ≡ true ∷ false ∷ true ∷ false ∷ [])
    × ((Reference.size_wrong 1 131072 1 1 262196 546 ∷ Reference.size_wrong 1 131073 1 1 262198 546
    ∷ Reference.size_wrong 1 1 128 1 54 69634 ∷ Reference.size_wrong 1 1 129 1 54 70178 ∷ [])
    ≡ false ∷ true ∷ false ∷ true ∷ [])
unfolding Calls.start_ok Reference.size_wrong
sizes-tested = (refl, refl)

-- ---- sample: a count that isn't given is 100

-- the reference model with ring size N and number l only
abbrev lastly : ℕ → ℕ → State
lastly N l =
    record {
      N = N;
      A = 1;
      B = 1;
      H = record { number = l; item = 0; time = 0; value = Unavailable } ∷ [];
      T = [];
    }

-- the end of the numbers considered from 1 on, where last is 99, 100 and 101; and with a count of 101
pub default-ends :
    ((Calls.end_of 1 0 99 ∷ Calls.end_of 1 0 100 ∷ Calls.end_of 1 0 101 ∷ Calls.end_of 1 101 101 ∷ [])
    ≡ 100 ∷ 101 ∷ 101 ∷ 102 ∷ [])
    × (map (λ l. Reference.sample_end (lastly 101 l) 1 0) (99 ∷ 100 ∷ 101 ∷ []) ≡ 100 ∷ 101 ∷ 101 ∷ [])
unfolding last_or
default-ends = (refl, refl)

-- ---- from and at: first is 2, last is 4; below 17, above 18 (document 02, Req 04)

-- `from` 0 is first, and 1 is not moved up
pub starts-tested :
    (map (Calls.start_of 2) (0 ∷ 1 ∷ 2 ∷ []) ≡ 2 ∷ 1 ∷ 2 ∷ [])
    × (map (Reference.sample_start (lastly 3 4)) (0 ∷ 1 ∷ 2 ∷ []) ≡ 2 ∷ 1 ∷ 2 ∷ [])
unfolding last_or
starts-tested = (refl, refl)

-- of the numbers 2 to 5, and of the reference model's sample and current with `at` by their answers
pub ranges-tested :
    (map (Calls.in_range 2 5) (1 ∷ 2 ∷ 5 ∷ 6 ∷ []) ≡ Err Late ∷ Ok tt ∷ Ok tt ∷ Err Early ∷ [])
    × (map (λ f. answer_number (Reference.sample_for (lastly 3 4) 0 f f (replicate 4 7)).answer) (1 ∷ 2 ∷ 5 ∷ 6 ∷ [])
    ≡ 17 ∷ 0 ∷ 0 ∷ 18 ∷ [])
    × (map (λ n. answer_number (Reference.at_for (λ i. 0) 1 (lastly 3 4) 0 n (replicate 4 7)).answer)
    (1 ∷ 2 ∷ 4 ∷ 5 ∷ [])
    ≡ 17 ∷ 0 ∷ 0 ∷ 18 ∷ [])
unfolding opened keep last_or Calls.in_range Reference.sample_for Reference.at_for entries_of entries_rows
ranges-tested = (refl, refl, refl)

-- ---- observe, refusal 2: the form of a condition item's latest (document 02, Req 05)

-- one item's latest of these numbers and words
abbrev latest : List ℕ → List ℕ → List ℕ
latest ns ws = 1 ∷ 1 ∷ 1 ∷ 1 ∷ 0 ∷ 0 ∷ (pad 8 ns ++ (replicate 8 0 ++ (pad 8 ws ++ replicate 24 0)))

-- none; Unavailable; Warning 1 and Fault 2; Warning 1 twice. Another item's isn't tested
pub forms-asked :
    map (λ c. map (λ st. latest_ok (λ i. c) 1 1 st 0)
    (latest [] [] ∷ latest (1 ∷ []) [] ∷ latest (1 ∷ 2 ∷ []) (12901679105 ∷ 12918456322 ∷ [])
    ∷ latest (1 ∷ 2 ∷ []) (12901679105 ∷ 12901679105 ∷ []) ∷ []))
    (2 ∷ 0 ∷ [])
    ≡ (false ∷ true ∷ true ∷ false ∷ []) ∷ replicate 4 true ∷ []
unfolding opened latest_ok
forms-asked = refl

-- ---- read-line: 20, 21 (document 02, Req 06)

pub lines-told :
    (map (λ l. observe_word (Calls.observe_reading l [] [] 0).answer) (Err Malformed ∷ Err BadStamp ∷ [])
    ≡ 9223372036854775828 ∷ 9223372036854775829 ∷ [])
    × (map (λ l. observe_word (Reference.reading_answer l [] [] (lastly 1 1))) (Err Malformed ∷ Err BadStamp ∷ [])
    ≡ 9223372036854775828 ∷ 9223372036854775829 ∷ [])
lines-told = (refl, refl)
