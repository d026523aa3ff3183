-- The rows of two runs, one behind the other, are the rows of all the numbers.
use Rattle.history.specs.Observations.{item_count}
use Rattle.rows.proofs.Laws.{front-ok, back-ok, front_fits, back_fits, as_long, both-written}
use Rattle.rows.proofs.write_rows.Goals as goal

pub write_run-done-requires-clause-e_value : goal.write_run-done-requires-clause-e_value
write_run-done-requires-clause-e_value c =
    let r = c.runs.ensures in
    rw r.begins (front-ok (item_count c.args.st.now) c.args.st.now _ _ _ r.low r.high c.requires.e_value)

pub write_run-done-requires-clause-e_bound : goal.write_run-done-requires-clause-e_bound
write_run-done-requires-clause-e_bound c =
    let r = c.runs.ensures in
    rw r.begins (front_fits c.args.st.now c.args.selection _ _ _ _ r.low r.high c.requires.k_value.0, c.requires.k_value.1)

pub write_run-requires-clause-e_value : goal.write_run-requires-clause-e_value
write_run-requires-clause-e_value c =
    let r = c.runs.ensures in
    rw (r.meets, r.ends) (back-ok (item_count c.args.st.now) c.args.st.now _ _ _ r.low r.high c.requires.e_value)

pub write_run-requires-clause-e_bound : goal.write_run-requires-clause-e_bound
write_run-requires-clause-e_bound c =
    let r = c.runs.ensures in
    let x = rw r.begins at c.write_run-done.ensures.value in
    rw (r.meets, r.ends) (
      back_fits c.args.st.now c.args.selection _ _ _ _ r.low r.high c.requires.k_value.0 x,
      as_long _ _ _ _ _ _ c.write_run-done.ensures.out_after c.requires.k_value.1,
    )

pub returns : goal.returns
returns c =
    let r = c.runs.ensures in
    let x = rw r.begins at c.write_run-done.ensures.value in
    let y = rw r.begins at c.write_run-done.ensures.out_after in
    let z = rw (r.meets, r.ends) at c.write_run.ensures.out_after in
    both-written c.args.st.now c.args.selection _ _ _ _ r.low r.high c.requires.k_value.0 x c.args.out.now _ _ y z
