-- The mark says it; behind the marks there is no component.
use borrow.Author.Rules.{rules}
use native.Mathlib.Omega.{arith}
use Rattle.row_groups.proofs.Laws.{number-small, kept-within, marks-tell}
use Rattle.row_groups.proofs.Document.is_marked.Goals as goal

pub returns : goal.returns
returns c =
    let i = c.self.invariant in
    let found = c.get.ensures.lookup in
    let told =
    marks-tell _ _ _ i.documented.checked i.documented.accepted i.marked c.args.c _ (number-small c.args.g) _ _ _
    found.0 (found.4 (omega arith)) c.is_some_and.ensures (λ x h. search rules) in
    record {
      value = rw (← c.self.view_is) told;
      within = λ e. kept-within _ _ _ i.documented.checked i.documented.accepted c.args.c _ told e;
    }
