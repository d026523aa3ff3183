-- The sizes decide, and behind their test both stores are written.
use mathlib.Core.Path.{refl}
use Rattle.history.specs.Calls.{start_both}
use Rattle.starting.proofs.Laws.{begins, start-told, store-sizes}
use Rattle.starting.proofs.start_both.Goals as goal

pub returns-then-not-start_ok : goal.returns-then-not-start_ok
unfolding start_both
returns-then-not-start_ok c =
    rw (start-told _ _ _ _ _ c.items-m.ensures.0 c.start_ok.ensures c.if-not-start_ok.true)
    (refl, refl, refl)

pub start_store-requires : goal.start_store-requires
start_store-requires c =
    let b = begins _ _ _ _ _ _ c.start_ok.ensures c.if-not-start_ok.false in
    let whole = store-sizes c.items-m.ensures.0 b in
    record { starting = whole.0; st_len = whole.1 }

pub start-requires : goal.start-requires
start-requires c =
    let b = begins _ _ _ _ _ _ c.start_ok.ensures c.if-not-start_ok.false in
    record { le_a = (b.A-low, b.A-high); bs_len = b.size_is }

pub returns : goal.returns
unfolding start_both
returns c =
    rw (start-told _ _ _ _ _ c.items-m.ensures.0 c.start_ok.ensures c.if-not-start_ok.false)
    (refl, c.start_store.ensures, c.start.ensures)
