use Rattle.std.proofs.Common.{◌≡◌, ◌∙◌, rules, tests}
use Rattle.spec.specs.Bytes.{all}
use Rattle.scan.proofs.Laws.{all_of}
use Rattle.names.specs.Cells.{cell_byte}
use Rattle.names.proofs.CellLaws.{all-bytes}
use Rattle.names.proofs.few_ok.Goals as goal

pub returns : goal.returns
returns c =
    let every : c.all.result ≡ all cell_byte c.args.s.now =
    all_of cell_byte _ c.all.ensures.ran (λ x b q k. search (rules, tests)) cc in
    every ∙ all-bytes c.args.s.now
