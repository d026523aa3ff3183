-- The verdict decides; the cell is below the largest capacity, so that it is an event code.
use native.Mathlib.Omega.{arith}
use mathlib.Core.Path.{refl, ap}
use Rattle.std.specs.Prelude.{Ok}
use Rattle.spec.proofs.Refused.{handed-on}
use Rattle.spec.proofs.Words.{told}
use Rattle.storing.proofs.Laws.{cell_below, change-latest, event-added}
use Rattle.storing.proofs.keep_changed.Goals as goal

pub pack-word-requires : goal.pack-word-requires
pack-word-requires c =
    omega (arith, c.slice.ensures.sizes.m_max, c.requires.change_value.1)

pub store-cell-requires : goal.store-cell-requires
store-cell-requires c =
    record { asset_head = c.requires.asset_head; body_value = c.requires.body_value }

pub overflow_cast-cell : goal.overflow_cast-cell
overflow_cast-cell c =
    let h = cell_below c.args.id.now c.args.assets.now c.requires.asset_head in
    record { fits = omega arith }

pub add-requires : goal.add-requires
add-requires c =
    let room = told (rw c.of_model-before.ensures.0 at c.room_for.ensures) c.in_ok-room_for.was in
    record {
      head = c.requires.head;
      st_value = room;
      item_bound = c.requires.change_value.1;
      item_value = change-latest _ _ _ _ c.requires.change_value.0 c.requires.change_value.1;
    }

pub returns-in_err-room_for : goal.returns-in_err-room_for
returns-in_err-room_for c =
    rw (handed-on _ c.from_residual.ensures.1 refl, told (rw c.of_model-before.ensures.0 at c.room_for.ensures) c.in_err-room_for.was) (refl, refl, refl)

pub returns : goal.returns
returns c =
    let e =
    event-added _ _ c.args.host c.args.observations.now _ c.requires.change_value.0 c.store-cell.ensures.value
    c.pack-word.ensures c.add.ensures.st_after in
    rw (told (rw c.of_model-before.ensures.0 at c.room_for.ensures) c.in_ok-room_for.was)
    (ap Ok c.store-cell.ensures.value, e, c.store-cell.ensures.bs_after)
