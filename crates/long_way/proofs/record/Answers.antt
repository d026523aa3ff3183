-- The verdict decides; room for a number is what an addition needs.
use mathlib.Core.Path.{refl, sym}
use Rattle.spec.proofs.Refused.{handed-on}
use Rattle.long_way.proofs.record.Goals as goal

pub add-requires : goal.add-requires
add-requires c =
    record {
      head = c.requires.head;
      st_value = rw c.of_model-before.ensures.0 at (sym c.in_ok-room_for.ensures);
      item_bound = c.requires.item_bound;
      item_value = c.requires.item_value;
    }

pub returns-in_err-room_for : goal.returns-in_err-room_for
returns-in_err-room_for c =
    rw (rw c.of_model-before.ensures.0 at (sym c.in_err-room_for.ensures), handed-on _ c.from_residual.ensures.1 refl) (refl, refl)

pub returns : goal.returns
returns c =
    rw (rw c.of_model-before.ensures.0 at (sym c.in_ok-room_for.ensures), c.add.ensures.value, c.add.ensures.st_after) (refl, refl)
