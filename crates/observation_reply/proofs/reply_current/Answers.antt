-- A row for each of the selected items, and the further ones that were counted, are written behind the sizes.
use mathlib.Core.Path.{refl, sym, ap, ◌∙◌}
use native.Mathlib.Omega.{arith}
use Rattle.std.specs.Prelude.{is_ok}
use Rattle.reply.proofs.Laws.{lends, both, refused, none-refused}
use Rattle.observation_reply.proofs.Laws.{current-broken, current-many, current-short, current-whole}
use Rattle.observation_reply.proofs.reply_current.Goals as goal

pub returns-in_err-extra : goal.returns-in_err-extra
returns-in_err-extra c =
    none-refused c.extra.result _ c.from_residual.ensures.1 c.ok_or.ensures.value c.in_err-extra.was
    (λ n. current-broken _ _ c.args.source.store.now c.args.selection c.args.reply.now (n ∙ c.extra.ensures))

pub returns-in_err-fit_rows : goal.returns-in_err-fit_rows
returns-in_err-fit_rows c =
    let n = sym c.in_ok-extra.ensures.ok_part ∙ c.extra.ensures in
    let w = c.in_err-fit_rows.was in
    refused _ c.from_residual-in_err-fit_rows.ensures.1 (c.fit_rows.ensures.refused _ w)
    (current-short _ _ c.args.source.store.now c.args.selection c.args.reply.now n c.requires.selection_bound
    c.count.ensures.0 refl refl (rw c.last.ensures.is at c.fit_rows.ensures.fitted) (ap is_ok w))

pub write_latest-requires : goal.write_latest-requires
write_latest-requires c =
    let n = sym c.in_ok-extra.ensures.ok_part ∙ c.extra.ensures in
    record {
      k_value = current-many _ _ c.args.source.store.now c.args.selection c.args.reply.now n c.requires.selection_bound
          c.count.ensures.0;
      k_in_bounds = lends c.fit_rows.ensures.fitted (ap is_ok c.in_ok-fit_rows.was) _ (omega arith);
    }

pub returns : goal.returns
returns c =
    let n = sym c.in_ok-extra.ensures.ok_part ∙ c.extra.ensures in
    both _
    (current-whole _ _ c.args.source.store.now c.args.selection c.args.reply.now n c.requires.selection_bound
    c.count.ensures.0 refl refl (rw c.last.ensures.is at c.fit_rows.ensures.fitted) _
    (ap is_ok c.in_ok-fit_rows.was) c.write_latest.ensures)
