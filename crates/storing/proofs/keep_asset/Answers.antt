-- The tests decide, and behind them the stage answers.
use mathlib.Core.Path.{refl, ap}
use Rattle.history.specs.Calls.{keep_asset}
use Rattle.std.specs.Prelude.{Ok}
use Rattle.spec.proofs.Words.{told}
use Rattle.storing.proofs.Laws.{no_change, change}
use Rattle.storing.proofs.keep_asset.Goals as goal

pub returns-then-not-asset_ok : goal.returns-then-not-asset_ok
unfolding keep_asset
returns-then-not-asset_ok c =
    rw (told c.asset_ok.ensures c.if-not-asset_ok.true) (refl, refl, refl)

pub store-requires : goal.store-requires
store-requires c =
    record { asset_head = c.requires.asset_head; body_value = told c.asset_ok.ensures c.if-not-asset_ok.false }

pub returns-in_default : goal.returns-in_default
unfolding keep_asset
returns-in_default c =
    rw (told c.asset_ok.ensures c.if-not-asset_ok.false, no_change _ c.in_default.ensures.0)
    (ap Ok c.store.ensures.value, refl, c.store.ensures.bs_after)

pub keep_changed-requires : goal.keep_changed-requires
keep_changed-requires c =
    let ok = told c.asset_ok.ensures c.if-not-asset_ok.false in
    let f = (change _ c.in-Some.ensures.0).1 in
    record {
      head = c.requires.head;
      asset_head = c.requires.asset_head;
      body_value = ok;
      change_value = f;
    }

pub returns : goal.returns
unfolding keep_asset
returns c =
    rw (
      told c.asset_ok.ensures c.if-not-asset_ok.false,
      (change _ c.in-Some.ensures.0).0,
    )
    c.keep_changed.ensures
