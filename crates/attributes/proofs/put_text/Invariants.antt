-- What the closure puts.
use Rattle.attributes.specs.contracts.fn.put_text.put_attribute as closure
use Rattle.attributes.proofs.put_text.Given as goal

abbrev pub ghost-put_attribute : goal.ghost-put_attribute
ghost-put_attribute a = (closure.captures a.put).text.now
