-- The head's four words over zeros.
use Rattle.observations.proofs.Laws.{blank-words}
use Rattle.observations.proofs.make_blank.Goals as goal

pub returns : goal.returns
returns c =
    rw (c.fill.ensures.after (λ y e. e)) (blank-words _ _ _ _ c.requires.st_len)
