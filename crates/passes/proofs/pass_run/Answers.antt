use Prim.Native.Nat.{◌+◌, ◌-◌, ◌≤◌}
use mathlib.Core.Path.{ap}
use native.Mathlib.Omega.{arith}
use Rattle.std.specs.Prelude.{is_some}
use Rattle.history.specs.Observations.{item_count}
use Rattle.passes.proofs.Laws.{Passing, one_turn, passing-no, passing-block, passing-end, run-to}
use Rattle.passes.proofs.pass_run.Goals as goal
use Rattle.passes.proofs.pass_run.Goals.{After-min}

-- a turn up to the block, which begins where the run of items that aren't stepped stops
turn : (c : After-min) → let st = c.args.st.now in
    let rest = c.loop-rest.rest in
    let stop = c.skip_plain-stop.result in
    Passing c.args.steps (item_count st) st c.args.f c.args.run.from rest.to c.args.marks.now c.loop-rest.marks
    c.args.seen.now c.skip_plain-stop.new.seen stop (rest.place + (stop - rest.from))
    × (stop + c.min.result ≤ rest.to)
turn c =
    let p = c.skip_plain-stop.ensures in
    one_turn c.loop-rest.invariant.state p.bounds p.skipped (rw c.split.ensures.behind at c.min.ensures)

pub step_block-requires-clause-part : goal.step_block-requires-clause-part
step_block-requires-clause-part c =
    let v = c.loop-rest.invariant in
    let w = turn (goal.at.step_block-requires-clause-part c).After-min in
    rw (c.split-in-loop-rest.ensures.before, c.split.ensures.behind) (record {
      ordered = omega arith;
      run = run-to w.0.run (omega arith) w.1;
      from = w.0.from;
      near = omega (arith, w.1, v.end, c.requires.near);
    })

pub returns-in_err-picked : goal.returns-in_err-picked
returns-in_err-picked c =
    let v = c.loop-rest.invariant in
    let w = turn (goal.at.returns-in_err-picked c).After-min in
    let b = rw (c.split-in-loop-rest.ensures.before, c.split.ensures.behind) at c.step_block.ensures in
    rw (c.from_residual.ensures, ← v.end) (passing-no w.0 (omega arith) w.1 b (ap is_some c.in_err-picked.was))

pub loop-rest-preserved : goal.loop-rest-preserved
loop-rest-preserved c =
    let v = c.loop-rest.invariant in
    let w = turn (goal.at.loop-rest-preserved c).After-min in
    let b = rw (c.split-in-loop-rest.ensures.before, c.split.ensures.behind) at c.step_block.ensures in
    rw (c.split-in-loop-rest.ensures.behind, c.split.ensures.behind) (record {
      state = passing-block w.0 (omega arith) w.1 b (ap is_some c.in_ok-picked.was);
      end = v.end;
    })

pub returns : goal.returns
returns c =
    let v = c.loop-rest.invariant in
    rw (← v.end) (passing-end v.state c.loop-rest-test.false)
