-- The rows that the marks hold are written behind the sizes; they are as many as was counted.
use Prim.Native.Nat.{◌+◌}
use mathlib.Core.Path.{refl, sym, ap, ◌∙◌}
use Rattle.std.specs.Prelude.{is_ok, is_some}
use native.Mathlib.Omega.{arith}
use Rattle.reply.proofs.Laws.{lends, both, refused, none-refused}
use Rattle.observation_reply.proofs.Laws.{in-ring, at-broken, at-short, at-whole, held-many}
use borrow.Author.Rules.{rules}
use Rattle.observation_reply.proofs.reply_at.Goals as goal

pub hold-requires : goal.hold-requires
hold-requires c =
    let f = c.first-first in
    let r = in-ring c.args.source.store.now f.result (c.args.number + 1) (omega (arith, f.ensures.is)) (omega arith) in
    record {
      st_bound = (r.0, (omega (arith, f.ensures.is), r.1));
      marks_value = search rules;
    }

pub returns-in_err-ok_or : goal.returns-in_err-ok_or
returns-in_err-ok_or c =
    none-refused c.hold.result _ c.from_residual.ensures.1 c.ok_or.ensures.value c.in_err-ok_or.was
    (λ n.
    at-broken _ _ c.args.source.store.now c.args.selection c.args.number _ c.args.reply.now
    c.first-first.ensures.is c.hold.ensures.result_value (sym (ap is_some n)))

pub returns-in_err-fit_rows : goal.returns-in_err-fit_rows
returns-in_err-fit_rows c =
    let w = c.in_err-fit_rows.was in
    refused _ c.from_residual-in_err-fit_rows.ensures.1 (c.fit_rows.ensures.refused _ w)
    (at-short _ _ c.args.source.store.now c.args.selection c.args.number _ c.args.reply.now
    c.first-first.ensures.is c.hold.ensures.result_value (ap is_some c.in_ok-ok_or.ensures.ok_part) c.hold.ensures.fact
    (held-many (c.items.ensures.0 ∙ c.args.source.agree) _ _ _ _ _ c.count-k.ensures.0) refl
    (rw (← c.first-first.ensures.is, c.last-next.ensures.is) at c.fit_rows.ensures.fitted) (ap is_ok w))

pub write_held-requires : goal.write_held-requires
write_held-requires c =
    let k = held-many c.items.ensures.0 c.args.source.store.now _ _ _ _ c.count-k.ensures.0 in
    let y = (ap is_ok c.in_ok-fit_rows.was) in
    record {
      st_bound = (c.first-first.ensures.low, omega (arith, c.first-first.ensures.high));
      k_value = (k, lends c.fit_rows.ensures.fitted y _ (omega arith));
    }

pub returns : goal.returns
returns c =
    both _
    (at-whole _ _ c.args.source.store.now c.args.selection c.args.number _ c.args.reply.now
    c.first-first.ensures.is c.hold.ensures.result_value (ap is_some c.in_ok-ok_or.ensures.ok_part) c.hold.ensures.fact
    (held-many (c.items.ensures.0 ∙ c.args.source.agree) _ _ _ _ _ c.count-k.ensures.0) refl
    (rw (← c.first-first.ensures.is, c.last-next.ensures.is) at c.fit_rows.ensures.fitted) _ (ap is_ok c.in_ok-fit_rows.was) (rw c.args.source.agree at c.write_held.ensures))
