-- The invariant: the used entries before the j-th are written, the next is row done + j.
use Prim.Native.Nat.{◌+◌}
use Rattle.spec.specs.Entries.{used_rows}
use Rattle.rows.proofs.Flat.{Left}
use Rattle.latest.proofs.Laws.{used_from}
use Rattle.latest.proofs.write_entries.Given as goal

abbrev pub invariant-loop-j : goal.invariant-loop-j
invariant-loop-j l =
    Left (used_rows l.entries) l.k l.done l.initial.out l.out (l.done + l.j) (used_from l.entries l.j)
