-- A client that polls from its next number: document 02, Req 04, as a statement about every list of calls behind a
-- start. The calls are counted from 0.
use Rattle.std.specs.Prelude.{ℕ, ◌≤◌, ◌<◌, ◌≡◌, ◌⊎◌, Bool, true, false, cond, List, [], ◌∷◌, ltb, get_or, take}
use Rattle.std.specs.Prelude.{Ok, Option, Some, None, slice_get}
use Rattle.spec.specs.Text.{Reading, read_text}
use Rattle.spec.specs.Text.Request.{sample, current, current_at, assets, all_assets}
use Rattle.spec.specs.Text.Reading.{unread, asked}
use Rattle.spec.specs.Path.{select}
use Rattle.spec.specs.Answers.{Answer, answer_number}
use Rattle.history.specs.Reference.{State, first_of}
use Rattle.history.specs.History.{Call, Start, call_outputs, reference_after}
use Rattle.history.specs.History.Call.{request}
use Rattle.history.specs.History.Output.{replied}

-- call i of cs is a request with this text; it is answered x, and `words` is its buffer afterwards
pub record Asks (a : Start) (cs : List Call) (i : ℕ) (text : List ℕ) (x : Answer) (words : List ℕ) : Type 0 where
  pub buffer : List ℕ
  pub call : slice_get cs i ≡ Some (request text buffer)
  pub output : slice_get (call_outputs a cs) i ≡ Some (replied x words ∷ [])

-- a sample, and a current with `at` or without: an accepted one gives a next number
abbrev pub gives_next : Reading → Bool
gives_next (unread r) = false
gives_next (asked (sample path from count)) = true
gives_next (asked (current path)) = true
gives_next (asked (current_at path number)) = true
gives_next (asked (assets ids)) = false
gives_next (asked all_assets) = false

-- call i is such a request and was accepted with the next number n, word 3 of its reply
pub record Gave (a : Start) (cs : List Call) (i n : ℕ) : Type 0 where
  pub text : List ℕ
  pub k : ℕ
  pub words : List ℕ
  pub asks : Asks a cs i text (Ok k) words
  pub gives : gives_next (read_text text) ≡ true
  pub next : get_or words 3 0 ≡ n

-- call j is a sample from n, whatever its path and count, and is answered x
pub record Polls (a : Start) (cs : List Call) (j n : ℕ) (x : Answer) : Type 0 where
  pub text : List ℕ
  pub words : List ℕ
  pub path : Option (List ℕ)
  pub count : ℕ
  pub asks : Asks a cs j text x words
  pub from : read_text text ≡ asked (sample path n count)

-- the reference model's state before call j
abbrev pub state_before : Start → State → List Call → ℕ → State
state_before a p cs j = reference_after a.model a.names p (take j cs)

-- what comes before a sample's number is looked at: 10 by its count, 11 by its path; n where both pass
abbrev pub path_or : Option ℕ → ℕ → ℕ
path_or None n = 11
path_or (Some selection) n = n

abbrev pub checked_or : Start → State → Option (List ℕ) → ℕ → ℕ → ℕ
checked_or a s path count n = cond (ltb s.N count) 10 (path_or (select a.model a.names path) n)

-- ---- the statement

-- For a start whose reference model is in state p, and the calls cs behind it: call i gave the next number n, and
-- call j behind it polls from n, in state s. `late`: where n is below first by then, the answer is 17, but for 10 and
-- 11, which come before it; of the others that do, 7, 8 and 9 are out because the text was read, 1 and 2 because the
-- start was accepted. `kept_up`: where n is not below first, the poll is accepted or has too small a buffer, again but
-- for 10 and 11; so it is neither late nor early.
pub record Told (a : Start) (p : State) (cs : List Call) : Type 0 where
  pub late : (i j n : ℕ) (x : Answer) → i < j → Gave a cs i n → (q : Polls a cs j n x)
      → let s = state_before a p cs j in
      n < first_of s → answer_number x ≡ checked_or a s q.path q.count 17
  pub kept_up : (i j n : ℕ) (x : Answer) → i < j → Gave a cs i n → (q : Polls a cs j n x)
      → let s = state_before a p cs j in
      first_of s ≤ n
      → (answer_number x ≡ checked_or a s q.path q.count 0)
      ⊎ (answer_number x ≡ checked_or a s q.path q.count 15)
