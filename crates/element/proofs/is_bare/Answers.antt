use borrow.Author.Rules.{rules}
use Rattle.element.proofs.Laws.{bare_is}
use Rattle.element.proofs.is_bare.Goals as goal

pub returns : goal.returns
returns c = bare_is _ c.first_sign.ensures (search rules)
