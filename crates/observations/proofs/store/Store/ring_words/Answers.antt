-- Word i of the part is word i behind the part's begin.
use Prim.Native.Nat.{◌+◌, ◌-◌, ◌<◌}
use mathlib.Core.Path.{◌≡◌, refl, ◌∙◌}
use native.Mathlib.Omega.{arith}
use lib.ListN.{drop}
use Rattle.std.proofs.lemmas.List.{get_or-take, get_or-drop}
use Rattle.spec.specs.Words.{row}
use Rattle.observations.proofs.store.Store.ring_words.Goals as goal

pub returns-clause-each : goal.returns-clause-each
unfolding row
returns-clause-each c i h =
    let words = c.self.inside.words.now in
    let at = 4 + c.ring_size.result + c.args.p in
    let e : at + i ≡ 4 + c.ring_size.result + (c.args.p + i) = omega arith in
    let room : i < at + c.args.k - at = omega arith in
    get_or-take (at + c.args.k - at) (drop at words) i 0 room
    ∙ get_or-drop at words i 0
    ∙ rw (c.self.view_is, e, c.ring_size.ensures.is) refl
