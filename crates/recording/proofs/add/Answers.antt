-- The next number is written, as the head has it.
use native.Mathlib.Numerals.{add-one}
use Rattle.recording.proofs.Laws.{next_fits, latest-form, latest-in}
use Rattle.recording.proofs.add.Goals as goal

pub write-requires : goal.write-requires
write-requires c =
    let n = rw c.of_model-before.ensures.0 at c.ring_size-n.ensures.is in
    let b = rw c.of_model-before.ensures.0 at c.base-b.ensures in
    let l = rw c.of_model-before.ensures.0 at c.last.ensures.is in
    let o = next_fits n b l c.requires.head c.requires.st_value in
    let f = latest-form _ _ _ _ _ c.requires.item_value in
    record { overwriting = o; in_table = latest-in o c.requires.item_bound (rw n f) }

pub returns : goal.returns
returns c =
    record {
      value = rw (c.last.ensures.is, c.of_model-before.ensures.0) (add-one _);
      st_after = rw (c.write.ensures, c.ring_size-n.ensures.is, c.base-b.ensures, c.last.ensures.is, c.of_model-before.ensures.0, add-one);
    }
