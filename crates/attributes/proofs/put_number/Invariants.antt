-- What the closure puts.
use Rattle.spec.specs.Bytes.{decimal}
use Rattle.attributes.specs.contracts.fn.put_number.put_attribute as closure
use Rattle.attributes.proofs.put_number.Given as goal

abbrev pub ghost-put_attribute : goal.ghost-put_attribute
ghost-put_attribute a = decimal (closure.captures a.put).n
