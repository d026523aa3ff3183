-- A turn writes a byte, or passes one that parts words.
use mathlib.Core.Path.{sym, ◌∙◌}
use native.Mathlib.Omega.{arith}
use borrow.Author.Rules.{rules}
use Rattle.element.proofs.Laws.{unlettered, t-before, named-parted, named-more, named-all}
use Rattle.element.proofs.element_of.Goals.{then-is_bare, else-is_bare, then-not-parts, else-not-parts}
use Rattle.element.proofs.element_of.Goals as goal

pub loop-x-init : goal.loop-x-init
loop-x-init c =
    let s = c.args.s.now in
    elim c.if-is_bare.branch [
      | then-is_bare w ↦ rw (w.name-is, w.push.ensures.items, c.new-name.ensures)
          (t-before s c.requires (sym c.is_bare.ensures ∙ w.if-is_bare.true))
      | else-is_bare w ↦ rw (w.name-is, c.new-name.ensures)
          (unlettered s c.requires (sym c.is_bare.ensures ∙ w.if-is_bare.false))
    ]

pub loop-x-preserved : goal.loop-x-preserved
loop-x-preserved c =
    let n = c.loop-x.invariant in
    elim c.if-not-parts.branch [
      | then-not-parts w ↦ rw (w.name-is, w.begins-is, w.push-then-not-parts.ensures.items)
          (named-more n (omega arith) (search rules) w.cased.ensures)
      | else-not-parts w ↦ rw (w.name-is, w.begins-is) (named-parted n (omega arith) (search rules))
    ]

pub returns : goal.returns
returns c = named-all c.loop-x.invariant (omega arith)
