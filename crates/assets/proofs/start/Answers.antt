-- Zeros everywhere, then A.
use borrow.Author.Rules.{rules}
use Rattle.assets.proofs.Laws.{start_is}
use Rattle.assets.proofs.start.Goals as goal

pub returns : goal.returns
returns c =
    start_is _ _ c.args.a c.requires.bs_len (search rules)
