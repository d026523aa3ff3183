-- How many of the reply buffer's words are the reply's: document 01, "Reply words". Only an asset reply has 0 as its
-- fourth word: an observation reply has next there, which is at least 1.
use Rattle.std.specs.Prelude.{ℕ, ◌+◌, ◌*◌, cond, List, eqb, get_or, Ok, Err}
use Rattle.spec.specs.Answers.{Answer}

-- the four sizes and k rows, by the fourth size
abbrev pub words_of : ℕ → ℕ → ℕ
words_of next k = cond (eqb next 0) (4 + 2 * k) (4 + 3 * k)

-- none behind a refusal
abbrev pub reply_length : Answer → List ℕ → ℕ
reply_length (Ok k) reply = words_of (get_or reply 3 0) k
reply_length (Err r) reply = 0
