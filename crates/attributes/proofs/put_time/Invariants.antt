-- What the closure puts.
use Rattle.lines.specs.Stamps.{stamp_text}
use Rattle.attributes.specs.contracts.fn.put_time.put_attribute as closure
use Rattle.attributes.proofs.put_time.Given as goal

abbrev pub ghost-put_attribute : goal.ghost-put_attribute
ghost-put_attribute a = stamp_text (closure.captures a.put).t
