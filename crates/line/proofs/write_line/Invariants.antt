-- The line that the closure puts.
use Rattle.lines.specs.Lines.{line_of}
use Rattle.line.specs.contracts.fn.write_line.write_whole as closure
use Rattle.line.proofs.write_line.Given as goal

abbrev pub ghost-write_whole : goal.ghost-write_whole
ghost-write_whole a =
    let k = closure.captures a.put in
    line_of k.item k.time k.v
