-- The kind and the level of a Normal are the 16 bits in front of its code.
use Rattle.marks.proofs.Laws.{normal-is}
use Rattle.marks.proofs.is_normal.Goals as goal

pub returns : goal.returns
returns c =
    normal-is c.args.word
