-- The number, and the two words at its place.
use mathlib.Core.Path.{refl}
use Rattle.spec.specs.Words.{row}
use Rattle.observations.proofs.store.Store.ring_row.Goals as goal

pub returns : goal.returns
unfolding row
returns c =
    let r = c.ring_row.ensures in
    rw (r.number, r.time, r.packed, c.place.ensures.is, c.ring_size.ensures.is, ← c.self.view_is) refl
