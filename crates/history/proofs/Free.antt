-- Outputs that are not refusal k, as a host sees them: neither a number nor a word, of an accepted batch none of its
-- records' words.
use mathlib.Core.Path.{◌≡◌, refl, ap}
use mathlib.Core.Logic.{◌≢◌}
use mathlib.Core.Bool.{Bool, true, false, ◌&&◌, not, false≢true}
use Prim.Native.Nat.{ℕ, ◌+◌, ◌^◌, ◌≤◌, ◌<◌}
use native.Mathlib.Omega.{arith}
use mathlib.Core.List.{List}
use lib.Dec.{eqb}
use lib.ListN.{length, take, drop}
use lib.Seq.{take_at}
use borrow.Author.Tests.{eqb-false, ne_eqb}
use Rattle.spec.specs.Bytes.{all}
use Rattle.history.specs.Observations.{max_number}
use Rattle.spec.specs.Reply.{over}
use Rattle.spec.specs.Answers.{refusal_number, answer_number, answer_count, observe_word, store_word}
use Rattle.history.specs.History.{Output}
use Rattle.history.specs.History.Output.{started, observed, batched, stored, replied, returned}
use Rattle.spec.specs.declared.Refusal.{Refusal}
use Rattle.std.specs.Prelude.{Ok, Err}
use Rattle.std.specs.List.{AllByRecursion as Each}
use Rattle.spec.specs.Answers.{Answer, ObserveAnswer}
use Rattle.spec.specs.declared.Noted.TheVariants.{Recorded, Same}
use Rattle.std.proofs.lemmas.Bool.{and_from}

abbrev pub number_free : ℕ → ℕ → Bool
number_free k n = not (eqb n k)

abbrev pub word_free : ℕ → ℕ → Bool
word_free k w = not (eqb w (2 ^ 63 + k))

abbrev pub output_free : ℕ → Output → Bool
output_free k (started x) = number_free k (answer_number x)
output_free k (observed x) = word_free k (observe_word x)
output_free k (batched x words) = number_free k (answer_number x) && all (word_free k) (take (answer_count x) words)
output_free k (stored x) = word_free k (store_word x)
output_free k (replied x reply) = number_free k (answer_number x)
output_free k (returned bs) = true

abbrev pub Free : ℕ → List Output → Type 0
Free k = Each (λ o. output_free k o ≡ true)

abbrev pub AllFree : ℕ → List (List Output) → Type 0
AllFree k = Each (Free k)

module _ (k : ℕ) where
  abbrev RefusalFree : Refusal → Type 0
  RefusalFree r = number_free k (refusal_number r) ≡ true

  -- a refusal's word is that of its number alone
  refusal-word : (r : Refusal) → RefusalFree r → word_free k (2 ^ 63 + refusal_number r) ≡ true
  refusal-word r h = go (eqb (refusal_number r) k) refl h
    where
      go : (t : Bool) → eqb (refusal_number r) k ≡ t → not t ≡ true → word_free k (2 ^ 63 + refusal_number r) ≡ true
      go true e q = absurd (false≢true q)
      go false e q =
          let n : refusal_number r ≢ k = eqb-false (refusal_number r) k e in
          ap not (ne_eqb (2 ^ 63 + refusal_number r) (2 ^ 63 + k) (omega arith))

  -- a number below 2^63 is no refusal's word
  low-word : (n : ℕ) → n ≤ max_number → word_free k n ≡ true
  low-word n h = ap not (ne_eqb n (2 ^ 63 + k) (omega arith))

  -- an observe's answer that isn't k, and whose number is one
  abbrev pub Sound : ObserveAnswer → Type 0
  Sound (Ok (Recorded n)) = n ≤ max_number
  Sound (Ok Same) = Unit {0}
  Sound (Err r) = RefusalFree r

  pub sound-word : (x : ObserveAnswer) → Sound x → word_free k (observe_word x) ≡ true
  sound-word (Ok (Recorded n)) h = low-word n h
  sound-word (Ok Same) h = low-word 0 (omega arith)
  sound-word (Err r) h = refusal-word r h

  -- the same of store-asset's, whose cell is a number too
  abbrev pub SoundCell : Answer → Type 0
  SoundCell (Ok c) = c ≤ max_number
  SoundCell (Err r) = RefusalFree r

  pub sound-cell : (x : Answer) → SoundCell x → word_free k (store_word x) ≡ true
  sound-cell (Ok c) h = low-word c h
  sound-cell (Err r) h = refusal-word r h

  -- an accepted batch's words stand at the front of its buffer
  pub batched-free : (n : ℕ) (ws answers : List ℕ) → 0 < k → length ws ≡ n → all (word_free k) ws ≡ true
      → output_free k (batched (Ok n) (over ws answers)) ≡ true
  batched-free n ws answers pos l h =
      and_from _ _ (ap not (ne_eqb 0 k (λ e. omega arith))) (rw (take_at ws (drop (length ws) answers) n l) h)
