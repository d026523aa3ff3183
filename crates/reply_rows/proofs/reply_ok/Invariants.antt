-- A row's packed word is tested.
use Rattle.streams.specs.Streams.{packed_ok}
use Rattle.reply_rows.specs.contracts.fn.reply_ok.all_rows as closure
use Rattle.reply_rows.proofs.reply_ok.Given as goal

abbrev pub ghost-all_rows : goal.ghost-all_rows
ghost-all_rows a = λ n t w. packed_ok (closure.captures a.test).model.now w
