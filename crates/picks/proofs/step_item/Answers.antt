-- Each way out is one way through the definition.
use Rattle.picks.proofs.Eights.{raise-fits, raise-step, first_fits, idle-fits, change-step}
use mathlib.Core.Path.{refl}
use Rattle.picks.proofs.step_item.Goals as goal
use Rattle.picks.proofs.step_item.Goals.{else-key-ne0-via-then-key-ne0+else-key_in-ne0, else-key-ne0-via-else-key-ne0}

pub returns-then-key_in-ne0 : goal.returns-then-key_in-ne0
returns-then-key_in-ne0 c =
    let z = c.args in
    let key = c.key_of-key.ensures.0 in
    let first = c.key_in.ensures.0 in
    record {
      value = raise-fits z.i z.place z.word z.marks.now key c.if-key-ne0.true first c.if-key_in-ne0.true
          c.raise.ensures.value;
      marks_after = λ t. raise-step z.i z.place z.word z.marks.now key c.if-key-ne0.true first c.if-key_in-ne0.true
          c.mark_of.ensures (c.raise.ensures.marks_after t);
    }

pub returns : goal.returns
returns c =
    let z = c.args in
    let key = c.key_of-key.ensures.0 in
    record {
      value = elim c.else-key-ne0.branch [
        | else-key-ne0-via-then-key-ne0+else-key_in-ne0 w ↦
            first_fits z.i z.place z.word z.marks.now w.key_in.ensures.0 w.if-key_in-ne0.false
        | else-key-ne0-via-else-key-ne0 w ↦ idle-fits z.i z.place z.word z.marks.now key w.if-key-ne0.false
      ];
      marks_after = λ t. change-step z.i z.place z.word z.marks.now refl c.mark_of-2.ensures key c.change_marks.ensures;
    }
