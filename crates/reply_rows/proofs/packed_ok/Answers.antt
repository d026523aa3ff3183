-- The item is tested first, and its category then tests the value.
use borrow.Author.Rules.{rules}
use Rattle.reply_rows.proofs.Laws.{category-tested}
use Rattle.reply_rows.proofs.packed_ok.Goals as goal

pub returns : goal.returns
returns c =
    category-tested _ _ _ c.item_of.ensures _ c.category_at.ensures _ _ c.is_some_and.ensures (λ k h. search rules)
