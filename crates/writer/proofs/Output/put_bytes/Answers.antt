-- All of s, or what there is room for; behind the buffer nothing changes.
use mathlib.Core.Path.{refl, sym}
use native.Mathlib.Omega.{arith}
use Rattle.spec.proofs.Written.{part-set}
use Rattle.writer.proofs.Laws.{sets-out}
use Rattle.writer.proofs.Output.put_bytes.Goals as goal
use Rattle.writer.proofs.Output.put_bytes.Goals.{then-self+else-s-self, else-self}

pub returns-then-s-self : goal.returns-then-s-self
returns-then-s-self c =
    record {
      same = refl;
      short = omega arith;
      stands = part-set _ _ _ _ _ c.copy_from_slice.ensures.after (omega arith) (omega arith);
      place = omega arith;
    }

pub returns : goal.returns
returns c =
    let a = c.args.self.now in
    let s = c.args.s.now in
    elim c.if-self.branch [
      | then-self+else-s-self w ↦
          let e = rw w.self-is at c.onward-self.ensures in
          let f = w.fill_up.ensures in
          rw w.self-is (record { same = f.same; short = omega arith; stands = f.bytes; place = rw f.at at e })
      | else-self w ↦
          let e = rw w.self-is at c.onward-self.ensures in
          rw w.self-is (record {
            same = refl;
            short = omega arith;
            stands = sym (sets-out a.bytes.now a.at s (omega arith));
            place = e;
          })
    ]
