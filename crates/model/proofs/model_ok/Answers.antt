-- The first test gives the sizes that the words want.
use borrow.Author.Rules.{rules}
use Rattle.spec.proofs.Model.{sizes-of}
use Rattle.model.proofs.model_ok.Goals as goal

pub of-words-requires : goal.of-words-requires
of-words-requires c = sizes-of _ (search rules)
