use borrow.Author.Rules.{rules, lives}
use Rattle.line.proofs.write_line.Goals as goal

pub write_whole-requires : goal.write_whole-requires
write_whole-requires c κs within =
    let item = within.0 in
    let time = within.1.0 in
    let value = within.1.1.0 in
    (search lives depth 12, (search rules, λ a b p. search rules))
