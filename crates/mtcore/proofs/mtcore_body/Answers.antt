-- The place that was found is the definition's; start and length are its fields.
use Rattle.mtcore.proofs.Laws.{place-names}
use Rattle.mtcore.proofs.mtcore_body.Goals as goal

pub returns : goal.returns
returns c =
    let e = c.part_of.ensures in
    rw (e.start_value, e.length_value) (place-names c.args.assets.now c.args.id.now _ c.body_place-place.ensures.value)
