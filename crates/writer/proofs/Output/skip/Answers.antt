-- Behind the buffer nothing changes.
use mathlib.Core.Path.{refl, sym}
use Rattle.writer.proofs.Laws.{sets-out}
use Rattle.writer.proofs.Output.skip.Goals as goal

pub returns : goal.returns
returns c s e =
    let a = c.args.self.now in
    record {
      same = refl;
      short = c.requires.short;
      stands = sym (sets-out a.bytes.now a.at s c.requires.full);
      place = rw e at c.onward-self.ensures;
    }
