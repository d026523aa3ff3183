-- The numbers stand behind the first four words, and the pairs behind the numbers.
use native.Mathlib.Omega.{arith}
use Rattle.reply_rows.proofs.Laws.{number_at, time-at, packed-at}
use Rattle.reply_rows.proofs.Reply.row_at.Goals as goal

pub returns : goal.returns
returns c =
    let words = c.self.inside.words.now in
    let there = rw (← c.self.view_is) at c.requires in
    let k = rw (← c.self.view_is) at c.rows.ensures.0 in
    record {
      number = rw (← c.self.view_is) (number_at words _ _ there (omega arith));
      time = rw (← c.self.view_is) (time-at words _ _ there (omega (arith, k)));
      packed = rw (← c.self.view_is) (packed-at words _ _ there (omega (arith, k)));
    }
