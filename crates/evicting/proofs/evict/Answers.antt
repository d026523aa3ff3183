-- The entry that is there goes to its item's checkpoint, which takes it, since evict_ok holds.
use mathlib.Core.Path.{sym, ◌∙◌}
use Rattle.observations.proofs.Laws.{none-overwritten, some-overwritten}
use Rattle.plain.proofs.Laws.{evicted, not-evicted}
use Rattle.evicting.proofs.Laws.{goes_in}
use Rattle.evicting.proofs.evict.Goals as goal

pub set_newest-requires : goal.set_newest-requires
set_newest-requires c =
    let there = some-overwritten _ _ _ _ _ (sym c.in-Some.is ∙ c.overwritten.ensures) in
    record {
      in_table = rw (c.checkpoint_at-checkpoint.ensures, c.items.ensures.0)
          (goes_in _ _ _ _ _ _ _ _ c.requires.p_value.0 there.1.1.1 _ c.item_of-item.ensures there.0
          c.requires.overwriting);
    }

pub returns-in-Some : goal.returns-in-Some
returns-in-Some c =
    let there = some-overwritten _ _ _ _ _ (sym c.in-Some.is ∙ c.overwritten.ensures) in
    evicted _ _ _ _ _ _ _ _ c.requires.p_value.0 there.1.1.1 _ c.item_of-item.ensures there.0 _ _ _ there.1.0 there.1.1.0
    (rw (c.checkpoint_at-checkpoint.ensures, c.items.ensures.0) at c.set_newest.ensures)

pub returns-in_default : goal.returns-in_default
returns-in_default c =
    not-evicted _ _ _ _ _ _ (none-overwritten _ _ _ _ _ (sym c.in_default.is ∙ c.overwritten.ensures))
