use Rattle.model.proofs.Laws.{items-start, item-at, items-no, items-end, change-more}
use Rattle.spec.specs.Words.{count_below}
use Rattle.spec.proofs.Words.{every-no, every-yes, every-end}
use native.Mathlib.Omega.{arith}
use mathlib.Core.Path.{refl}
use Rattle.model.proofs.checks.items_ok.Goals as goal

pub loop-j-init : goal.loop-j-init
unfolding count_below
loop-j-init c = record {
  few = omega arith;
  rest = items-start c.args.model.now _ _ c.components-c.ensures.0 _ c.items-j-end.ensures.0;
  count = refl;
}

pub returns-then-not-item_ok : goal.returns-then-not-item_ok
returns-then-not-item_ok c =
    let l = c.loop-j in
    items-no _ _
    (every-no _ _ _ _ l.invariant.rest (omega arith)
    (item-at c.args.model.now _ _ c.components-c.ensures.0 l.j _ _ _ c.item_ok.ensures
    c.item_word-word.ensures c.if-not-item_ok.true))

pub loop-j-preserved : goal.loop-j-preserved
loop-j-preserved c =
    let l = c.loop-j in record {
      few = omega arith;
      rest = every-yes _ _ _ _ l.invariant.rest (omega arith)
          (item-at c.args.model.now _ _ c.components-c.ensures.0 l.j _ _ _ c.item_ok.ensures c.item_word-word.ensures
          c.if-not-item_ok.false);
      count = change-more c.args.model.now l.j _ _ _ c.item_word-word.ensures l.invariant.count
          c.one_if_change-changes.ensures.0;
    }

pub returns : goal.returns
returns c =
    let i = c.loop-j.invariant in
    items-end _ _ _ _ (omega arith) (every-end _ _ _ _ i.rest (omega arith)) i.count
