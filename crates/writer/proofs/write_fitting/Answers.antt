-- Written from the start on.
use mathlib.Core.Path.{◌∙◌, ap}
use native.Mathlib.Omega.{arith}
use borrow.Author.Rules.{rules}
use Rattle.std.specs.Prelude.{Ok}
use Rattle.writer.proofs.Whole.{fitting}
use Rattle.writer.proofs.write_fitting.Goals as goal

pub returns-clause-text_after : goal.returns-clause-text_after
returns-clause-text_after g c =
    let p = c.requires.1.1.0 _ _ c.put.ensures in
    let q =
    (fitting _ c.args.text.now c.requires.1.1.1 (omega arith) c.new-out.ensures.bytes c.new-out.ensures.at p).0 in
    search rules

pub returns-clause-value : goal.returns-clause-value
returns-clause-value g c =
    let p = c.requires.1.1.0 _ _ c.put.ensures in
    ap Ok c.len.ensures
    ∙ (fitting _ c.args.text.now c.requires.1.1.1 (omega arith) c.new-out.ensures.bytes c.new-out.ensures.at p).1
