use Rattle.spec.specs.Model.{items, category}
use Rattle.snapshots.proofs.Ends.{hold-broken, hold-answers, hold-rows, seen-marks}
use mathlib.Core.Bool.{false≢true}
use Rattle.std.specs.Prelude.{is_some}
use native.Mathlib.Omega.{arith}
use Prim.Native.Nat.{◌-◌}
use mathlib.Core.Path.{refl, sym, ap, ◌∙◌}
use Rattle.snapshots.proofs.hold.Goals as goal

pub returns-in_err-begin : goal.returns-in_err-begin
returns-in_err-begin c =
    let model = c.args.source.model.now in
    rw c.from_residual.ensures (record {
      result_value = hold-broken (category model) c.args.selection (items model) c.args.source.store.now c.args.f (c.args.e -
          c.args.f) (omega (arith, c.slice.ensures.head.few, c.args.source.agree)) c.args.source.agree c.steps_of-steps.ensures c.begin.ensures.value
          (ap is_some c.in_err-begin.was);
      fact = λ z. absurd (false≢true z);
    })

pub returns-in_err-pass : goal.returns-in_err-pass
returns-in_err-pass c =
    let model = c.args.source.model.now in
    let y = ap is_some c.in_ok-begin.was in
    rw c.from_residual-in_err-pass.ensures (record {
      result_value = sym (ap is_some c.in_err-pass.was) ∙ hold-answers (category model) c.args.selection (items model)
          c.args.source.store.now c.args.f (c.args.e - c.args.f) (omega (arith, c.slice.ensures.head.few, c.args.source.agree)) c.args.source.agree
          c.steps_of-steps.ensures c.begin.ensures.value y c.requires.marks_value (c.begin.ensures.marks_after y)
          c.pass.ensures.ok;
      fact = λ z. absurd (false≢true z);
    })

pub settle-requires : goal.settle-requires
settle-requires c =
    let z = ap is_some c.in_ok-pass.was in
    seen-marks _ _ c.args.f (c.args.e - c.args.f) c.slice.ensures.head.head c.requires.st_bound.1.1 refl
    (c.pass.ensures.behind z).1

pub returns : goal.returns
returns c =
    let model = c.args.source.model.now in
    let y = ap is_some c.in_ok-begin.was in
    let z = ap is_some c.in_ok-pass.was in
    let w = c.pass.ensures.behind z in record {
      result_value = sym z ∙ hold-answers (category model) c.args.selection (items model) c.args.source.store.now c.args.f
          (c.args.e - c.args.f) (omega (arith, c.slice.ensures.head.few, c.args.source.agree)) c.args.source.agree c.steps_of-steps.ensures
          c.begin.ensures.value y c.requires.marks_value (c.begin.ensures.marks_after y) c.pass.ensures.ok;
      fact = λ _.
          hold-rows (category model) c.args.selection (items model) c.args.source.store.now c.args.f (c.args.e -
          c.args.f) (omega (arith, c.slice.ensures.head.few, c.args.source.agree)) c.args.source.agree c.steps_of-steps.ensures c.begin.ensures.value y
          c.requires.marks_value (c.begin.ensures.marks_after y) c.pass.ensures.ok
          z (omega (arith, c.slice.ensures.head.head.b_pos))
          w.0 refl w.1 c.settle.ensures;
    }
