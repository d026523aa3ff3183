-- The asset change item, its event, and the cell that the event names.
use Prim.Native.Nat.{ℕ, ◌<◌}
use mathlib.Core.Path.{◌≡◌}
use mathlib.Core.Bool.{true, false}
use mathlib.Core.List.{List}
use native.Mathlib.Omega.{arith}
use borrow.Author.Tests.{eqb-true, lt-ltb, le-ltb}
use Rattle.spec.specs.Model.{items, category, asset_change, is_change, change_item, has_change}
use Rattle.spec.specs.Found.{found_below}
use Rattle.spec.specs.Value.{pack}
use Rattle.std.specs.Prelude.{Some, None}
use Rattle.spec.specs.Assets.{AssetHead, max_assets, capacity, used, find, out_for, cell_for}
use Rattle.history.specs.Observations.{latest_ok}
use Rattle.history.specs.Calls.{added}
use Rattle.spec.specs.declared.Value.TheVariants.{Event}
use Rattle.spec.proofs.Words.{first_holds}
use Rattle.spec.proofs.Found.{found-is, found-not}
use Rattle.spec.proofs.Assets.{given-up-room, given-up-max, used-after-max}

-- the cell of an asset is below the largest capacity
pub cell_below : (id bs : List ℕ) → AssetHead bs → cell_for id bs < max_assets
unfolding cell_for
cell_below id bs h =
    let r = given-up-room (capacity bs) (used bs) (find bs id) h.a_pos h.u_max in
    let k = given-up-max (capacity bs) (used bs) (find bs id) h.a_pos h.u_max in
    let u = used-after-max (capacity bs) (used bs) (out_for id bs) r k h.u_max in
    omega arith

module _ (model : List ℕ) where
  pub no_change : None ≡ found_below (items model) (change_item model) → has_change model ≡ false
  no_change e = le-ltb _ _ (found-not (items model) e)

  -- the item that was found is the asset change item, and one of the model's
  pub change : {i : ℕ} → Some i ≡ found_below (items model) (change_item model)
      → (has_change model ≡ true) × ((i ≡ change_item model) × (i < items model))
  change e = let f = found-is (items model) e in (lt-ltb _ _ f.1, (f.0, rw f.0 f.1))

-- the item that is found is of its category, and so no condition item, whose latest would have a form
pub change-latest : (model st : List ℕ) (n i : ℕ) → i ≡ change_item model → i < items model
    → latest_ok (category model) n (items model) st i ≡ true
unfolding change_item latest_ok
change-latest model st n i e l =
    let k : category model i ≡ asset_change =
    rw e (eqb-true _ _ (first_holds (is_change model) (items model) 0 (omega arith))) in
    rw k

-- the event of the cell, added by the number that the accessor gave
pub event-added : {i j cell c word : ℕ} (cat : ℕ → ℕ) (m host : ℕ) (st y : List ℕ) → i ≡ j → cell ≡ c
    → word ≡ pack i (Event cell) → y ≡ added cat m st i host word → y ≡ added cat m st j host (pack j (Event c))
event-added cat m host st y ei ec ew ey = rw (ey, ew, ec, ei)
