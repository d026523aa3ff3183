use Rattle.eights.proofs.Laws.{moved-down}
use Rattle.eights.proofs.take_out.Goals as goal

pub returns : goal.returns
returns c =
    let z = c.args in
    let q = moved-down z.words.now z.j c.told-words c.requires in
    rw c.copy_within.ensures.after (rw c.told-words q)
