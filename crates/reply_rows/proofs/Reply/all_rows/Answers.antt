-- The library tests the rows' places, each by its row's words.
use Rattle.std.proofs.Common.{refl, rules, tests, arith, ◌∙◌}
use Rattle.std.proofs.lemmas.Iterator.{YieldsList-from_range}
use Rattle.std.proofs.lemmas.Iterator.Search.{all_from_yields_List}
use Rattle.streams.proofs.Rows.{row_at}
use Rattle.reply_rows.proofs.Laws.{tested, rows-all}
use Rattle.reply_rows.proofs.Reply.all_rows.Goals as goal

pub returns : goal.returns
returns g c =
    let reply = c.args.self.now in
    let tells = c.requires.1.1 in
    all_from_yields_List (λ i. tested g.p (row_at reply i)) _ _ c.all.result c.all.ensures.ran
    (YieldsList-from_range 0 _ c.rows.result refl (omega arith)) (λ x b q k. search (rules, tests, tells))
    ∙ rows-all (tested g.p) reply c.rows.result c.rows.ensures.0
