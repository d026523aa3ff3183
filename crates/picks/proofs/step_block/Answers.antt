use mathlib.Core.Path.{sym, ap, ◌∙◌}
use mathlib.Core.Bool.{false≢true}
use Rattle.std.specs.Prelude.{is_some}
use Rattle.history.specs.Observations.{item_count}
use Rattle.picks.proofs.Gathers.{block-broken, block-picks, block-passed}
use Rattle.picks.proofs.step_block.Goals as goal

pub returns-in_err-picked : goal.returns-in_err-picked
returns-in_err-picked c =
    rw c.from_residual.ensures
    (block-broken c.args.steps (item_count c.args.st.now) c.args.st.now c.args.f c.args.run
    c.args.marks.now c.gather.ensures.value (ap is_some c.in_err-picked.was))

pub step_picks-requires-clause-each : goal.step_picks-requires-clause-each
step_picks-requires-clause-each c =
    let y = ap is_some c.in_ok-picked.was in
    block-picks c.args.steps (item_count c.args.st.now) c.args.st.now c.args.f c.args.run c.gather.ensures.value y
    (c.gather.ensures.gathered y) c.requires.part

pub returns-in_err-step_picks : goal.returns-in_err-step_picks
returns-in_err-step_picks c =
    let y = ap is_some c.in_ok-picked.was in
    let z = ap is_some c.in_err-step_picks.was in
    rw c.from_residual-in_err-step_picks.ensures
    (block-passed c.args.steps (item_count c.args.st.now) c.args.st.now c.args.f c.args.run c.gather.ensures.value y
    (c.gather.ensures.gathered y) c.args.marks.now (sym z ∙ c.step_picks.ensures.value)
    (λ n. absurd (false≢true n)))

pub returns : goal.returns
returns c =
    let y = ap is_some c.in_ok-picked.was in
    let z = ap is_some c.in_ok-step_picks.was in
    block-passed c.args.steps (item_count c.args.st.now) c.args.st.now c.args.f c.args.run c.gather.ensures.value y
    (c.gather.ensures.gathered y) c.args.marks.now (sym z ∙ c.step_picks.ensures.value)
    (λ _. c.step_picks.ensures.marks_after z)
