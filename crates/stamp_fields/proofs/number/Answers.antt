-- Few bytes spell few digits.
use Rattle.stamp_fields.proofs.Laws.{few-fit}
use Rattle.stamp_fields.proofs.number.Goals as goal

pub value-requires : goal.value-requires
value-requires c = few-fit c.args.s.now c.requires c.type_inv.s
