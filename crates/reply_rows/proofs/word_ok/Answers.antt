-- The kind decides; a condition's level is left.
use native.Mathlib.Omega.{arith}
use borrow.Author.Rules.{rules}
use Rattle.reply_rows.proofs.Laws.{word_none, word-kind, word-level}
use Rattle.reply_rows.proofs.word_ok.Goals as goal

pub returns-then-word-eq0 : goal.returns-then-word-eq0
returns-then-word-eq0 c = word_none _ _ c.if-word-eq0.true

pub returns-in-Samples : goal.returns-in-Samples
returns-in-Samples c = word-kind _ _ 0 c.in-Samples.ensures (omega arith) c.if-word-eq0.false

pub returns-in-Events : goal.returns-in-Events
returns-in-Events c = word-kind _ _ 1 c.in-Events.ensures (omega arith) c.if-word-eq0.false

pub returns-in-Condition : goal.returns-in-Condition
returns-in-Condition c = word-level _ _ c.in-Condition.ensures c.if-word-eq0.false (search rules)
