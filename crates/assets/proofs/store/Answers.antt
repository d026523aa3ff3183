-- The cell given up, and the cells used then, by whether one is given up.
use mathlib.Core.Path.{sym, ap, ◌∙◌}
use Prim.Native.Nat.{ℕ}
use mathlib.Core.List.{List}
use Rattle.spec.specs.Found.{found_below}
use Rattle.spec.specs.Assets.{used, out_for}
use Rattle.spec.proofs.Assets.{id-max, asset-id, body-max}
use Rattle.assets.proofs.Laws.{Renewal, some-given, none-given, store_is, cell-for-is}
use Rattle.assets.proofs.store.Goals.{in-Some, in-None}
use Rattle.assets.proofs.store.Goals as goal

pub put_asset-requires-clause-id_len_bound : goal.put_asset-requires-clause-id_len_bound
put_asset-requires-clause-id_len_bound c =
    let z = c.args in (
      id-max z.id.now (asset-id z.id.now z.body.now c.requires.body_value),
      body-max z.id.now z.body.now c.requires.body_value,
    )

pub returns : goal.returns
returns c =
    let z = c.args in
    let o = c.of-before.ensures in
    let u = c.used-u.ensures.value ∙ ap used o in
    let f = c.out_for.ensures ∙ ap (λ (l : List ℕ). found_below (used l) (out_for z.id.now l)) o in
    let r : Renewal z.bs.now z.id.now c.match-out_for.out.0 c.match-out_for.out.1 =
    elim c.match-out_for.branch [
      | in-Some w ↦ rw w.out-is (some-given u (sym w.in-Some.is ∙ f))
      | in-None w ↦ rw w.out-is (none-given c.requires.asset_head u (sym w.in-None.is ∙ f))
    ] in record {
      bs_after = store_is _ _ _ _ _ _ r c.put_asset.ensures;
      value = cell-for-is _ _ _ _ r;
    }
