-- Each level has its word.
use Rattle.figures.proofs.put_level.Goals as goal

pub returns-in-Normal : goal.returns-in-Normal
returns-in-Normal c =
    rw c.in-Normal.is c.put_bytes.ensures

pub returns-in-Warning : goal.returns-in-Warning
returns-in-Warning c =
    rw c.in-Warning.is c.put_bytes-in-Warning.ensures

pub returns-in-Fault : goal.returns-in-Fault
returns-in-Fault c =
    rw c.in-Fault.is c.put_bytes-in-Fault.ensures
