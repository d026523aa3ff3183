-- The sizes are written where the words fit.
use mathlib.Core.Path.{◌≡◌, refl, sym}
use native.Mathlib.Omega.{arith}
use borrow.Author.Tests.{lt-leb, le-leb}
use lib.ListN.{length}
use Rattle.reply.proofs.Laws.{sets-front}
use Rattle.reply.proofs.fit_sizes.Goals as goal

pub returns-then-reply-w-clause-fitted : goal.returns-then-reply-w-clause-fitted
returns-then-reply-w-clause-fitted c =
    record { told = sym (lt-leb _ _ c.if-reply-w.true); sized = refl }

pub returns-clause-fitted : goal.returns-clause-fitted
returns-clause-fitted c =
    let n : length c.args.sizes ≡ 4 = omega arith in
    record {
      told = sym (le-leb _ _ c.if-reply-w.false);
      sized = sets-front c.args.reply.now c.args.sizes n (omega arith) c.copy_from_slice.ensures.after;
    }
