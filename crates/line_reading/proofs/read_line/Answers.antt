-- The head was tested.
use Rattle.history.proofs.Observations.{head}
use Rattle.line_reading.proofs.read_line.Goals as goal

pub observe_reading-requires : goal.observe_reading-requires
observe_reading-requires c =
    let k = rw c.in_ok-checked.was at c.checked-2.ensures in
    record { head = head _ _ (rw c.items.ensures.0 at k.1) }
