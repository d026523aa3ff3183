-- Each state has its element.
use Rattle.row_text.proofs.put_state.Goals as goal

pub returns-in-Unavailable : goal.returns-in-Unavailable
returns-in-Unavailable c =
    rw c.in-Unavailable.is c.put_bytes.ensures
