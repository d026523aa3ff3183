-- Behind the length the bytes decide.
use Rattle.std.proofs.Common.{rules, tests, ◌≡◌}
use Rattle.spec.specs.Bytes.{id_byte, all}
use Rattle.spec.specs.Assets.{id_ok}
use Rattle.scan.proofs.Laws.{all_of}
use Rattle.assets.proofs.id_ok.Goals as goal

pub returns-then-contains : goal.returns-then-contains
unfolding id_ok
returns-then-contains c =
    let every : c.all.result ≡ all id_byte c.args.id.now =
    all_of id_byte _ c.all.ensures.ran (λ x b q k. search (rules, tests)) cc in
    search rules
