-- The sizes of a reply, written where the words behind them fit.
use Rattle.std.specs.Prelude.{ℕ, ◌+◌, ◌≡◌, Bool, cond, List, leb, length}
use Rattle.std.proofs.lemmas.List.Edits.{sets}

-- t says whether w words fit the reply behind its four sizes; x is the reply, with these at its front where they do
pub record Fitted (reply : List ℕ) (w : ℕ) (sizes : List ℕ) (t : Bool) (x : List ℕ) : Type 0 where
  pub told : t ≡ leb (4 + w) (length reply)
  pub sized : x ≡ cond t (sets reply 0 sizes) reply
