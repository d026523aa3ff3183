-- The cells behind the one given up and the last one are one run; where they begin wants products.
use mathlib.Core.List.{◌++◌}
use mathlib.Core.Path.{◌∙◌}
use native.Mathlib.Omega.{arith}
use lib.ListN.{length-append}
use Rattle.spec.specs.Bytes.{pad}
use Rattle.cells.proofs.Laws.{places, renew-is, padded-length}
use Rattle.cells.proofs.renew_cells.Goals as goal

pub renew_at-requires : goal.renew_at-requires
renew_at-requires c =
    let z = c.args in
    let p = places z.w z.out z.n (omega arith) in record { moved_in_bounds = omega arith; s_len_bound = omega arith }

pub returns : goal.returns
returns c =
    let z = c.args in
    let cell = z.head.now ++ z.s.now in
    let e = length-append z.head.now z.s.now in
    c.renew_at.ensures ∙ renew-is z.w z.b z.out z.n (pad z.w cell) z.bs.now
    (omega arith) (omega arith) (padded-length z.w cell (omega arith))
