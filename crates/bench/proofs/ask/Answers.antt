-- The stores that prepare leaves are the bench case's, and a request's words fit its buffer.
use borrow.Author.Rules.{rules}
use Rattle.bench.proofs.Laws.{bench-asked}
use Rattle.bench.proofs.ask.Goals as goal

pub returns : goal.returns
returns c =
    let whole = bench-asked _ _ c.model-model.ensures c.names-names.ensures c.prepare.ensures.observations_after
    c.prepare.ensures.assets_after (search rules) c.request.ensures.0 c.request.ensures.1 in
    record { fact = whole.0; reply_bound = whole.1 }
