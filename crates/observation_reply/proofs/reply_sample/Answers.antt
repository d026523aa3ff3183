-- The rows that were counted are written behind the sizes.
use mathlib.Core.Path.{refl, sym, ap, ◌∙◌}
use native.Mathlib.Omega.{arith}
use Rattle.std.specs.Prelude.{is_ok}
use Rattle.history.specs.Observations.{item_count}
use Rattle.rows.proofs.Laws.{counted-count}
use Rattle.reply.proofs.Laws.{lends, both, refused, none-refused}
use Rattle.observation_reply.proofs.Laws.{in-ring, in-ring-few, sample-broken, sample-short, sample-whole}
use Rattle.observation_reply.proofs.reply_sample.Goals as goal

pub count_rows-requires : goal.count_rows-requires
count_rows-requires c =
    let r = in-ring c.args.st.now c.args.f c.args.e c.requires.st_bound.0 c.requires.st_bound.1.1 in
    record { st_bound = (r.0, (c.requires.st_bound.1.0, r.1)) }

pub returns-in_err-k : goal.returns-in_err-k
returns-in_err-k c =
    none-refused c.count_rows.result _ c.from_residual.ensures.1 c.ok_or.ensures.value c.in_err-k.was
    (λ n.
    sample-broken (item_count c.args.st.now) c.args.st.now c.args.selection c.args.f c.args.e
    c.args.reply.now (n ∙ c.count_rows.ensures))

pub fit_rows-requires : goal.fit_rows-requires
fit_rows-requires c =
    let n = sym c.in_ok-k.ensures.ok_part ∙ c.count_rows.ensures in
    omega (arith, in-ring-few _ _ _ _ _ c.slice.ensures.head.head c.requires.st_bound.0 c.requires.st_bound.1.1 n)

pub returns-in_err-fit_rows : goal.returns-in_err-fit_rows
returns-in_err-fit_rows c =
    let n = sym c.in_ok-k.ensures.ok_part ∙ c.count_rows.ensures in
    let w = c.in_err-fit_rows.was in
    refused _ c.from_residual-in_err-fit_rows.ensures.1 (c.fit_rows.ensures.refused _ w)
    (sample-short (item_count c.args.st.now) c.args.st.now c.args.selection c.args.f c.args.e
    c.args.reply.now n refl refl c.fit_rows.ensures.fitted (ap is_ok w))

pub write_rows-requires : goal.write_rows-requires
write_rows-requires c =
    let r = in-ring c.args.st.now c.args.f c.args.e c.requires.st_bound.0 c.requires.st_bound.1.1 in
    let g = counted-count (item_count c.args.st.now) c.args.st.now c.args.selection c.args.f c.args.e
    (sym c.in_ok-k.ensures.ok_part ∙ c.count_rows.ensures) in
    let y = (ap is_ok c.in_ok-fit_rows.was) in
    record {
      st_bound = (r.0, (c.requires.st_bound.1.0, r.1));
      e_value = g.0;
      k_value = (g.1, lends c.fit_rows.ensures.fitted y _ (omega arith));
    }

pub returns : goal.returns
returns c =
    let n = sym c.in_ok-k.ensures.ok_part ∙ c.count_rows.ensures in
    both _
    (sample-whole (item_count c.args.st.now) c.args.st.now c.args.selection c.args.f c.args.e
    c.args.reply.now n refl refl c.fit_rows.ensures.fitted _
    (ap is_ok c.in_ok-fit_rows.was) c.write_rows.ensures)
