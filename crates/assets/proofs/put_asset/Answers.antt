-- Both runs of cells renewed, one behind the other, and then u.
use Prim.Native.Nat.{ℕ, ◌/◌, ◌%◌}
use mathlib.Core.Path.{◌≡◌, ap, ◌∙◌}
use mathlib.Core.List.{List, [], ◌∷◌}
use lib.ListN.{length}
use Rattle.spec.specs.Assets.{bodies_at, capacity}
use Rattle.assets.proofs.Laws.{with-asset-is, length-bytes}
use Rattle.assets.proofs.put_asset.Goals as goal

pub returns : goal.returns
returns c =
    let z = c.args in
    let head : c.to_be_bytes-head.result ≡ (length z.body.now / 256) ∷ (length z.body.now % 256) ∷ [] =
    c.to_be_bytes-head.ensures ∙ length-bytes _ c.requires.id_len_bound.1 in
    with-asset-is z.out z.n _ z.id.now z.body.now z.bs.now _ _
    (c.bodies_at-bodies.ensures ∙ ap (λ (l : List ℕ). bodies_at (capacity l)) c.of.ensures) c.renew_cells.ensures
    (rw head at c.renew_cells-2.ensures)
