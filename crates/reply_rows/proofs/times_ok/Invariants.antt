-- A row's time is tested.
use lib.Dec.{leb}
use Rattle.lines.specs.Stamps.{max_time}
use Rattle.reply_rows.proofs.times_ok.Given as goal

abbrev pub ghost-all_rows : goal.ghost-all_rows
ghost-all_rows a = λ n t w. leb t max_time
