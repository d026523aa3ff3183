-- Eviction, ring, latest and last are written in the definition's order.
use Rattle.plain.proofs.Laws.{written}
use Rattle.recording.proofs.Laws.{still-in}
use Rattle.recording.proofs.write.Goals as goal

pub set_newest-requires : goal.set_newest-requires
set_newest-requires c =
    record {
      in_table = still-in _ _ _ _ _ _ c.requires.overwriting _ _ _ _ _ _ _ c.evict.ensures c.place-p.ensures.low
          c.put_ring.ensures c.latest_at-latest.ensures c.requires.in_table;
    }

pub returns : goal.returns
returns c =
    written _ _ _ _ _ _ _ _ _ _ _ _ _ _ _ c.evict.ensures c.place-p.ensures.is c.put_ring.ensures
    c.latest_at-latest.ensures c.set_newest.ensures c.set_last.ensures
