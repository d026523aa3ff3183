-- What follows T is cut at both ends.
use Rattle.paths.proofs.Laws.{unopened, closed}
use Rattle.paths.proofs.item_type.Goals as goal

pub returns-in_err-quoted : goal.returns-in_err-quoted
returns-in_err-quoted c = rw c.from_residual.ensures (unopened _ c.in_err-quoted.ensures.cases)

pub returns : goal.returns
returns c =
    let g = c.in_ok-quoted.ensures.cases in
    closed c.args.rest.now _ g.0 g.1 g.2 _ c.strip_suffix.ensures.cases
