-- The place of f is below n, so the ring's end is n less that place away.
use native.Mathlib.Omega.{arith}
use Rattle.rows.proofs.Ranges.{two-runs}
use Rattle.rows.proofs.runs.Goals as goal

pub returns : goal.returns
returns c =
    let p = c.place-place.ensures in
    two-runs _ _ _ _ _ _ (omega arith) (omega arith) p.is p.low (omega arith) (omega arith)
