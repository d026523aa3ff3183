-- A turn counts the first word that the iterator gives; at its end none is left.
use Rattle.std.proofs.Common.{rules, tests}
use Rattle.std.proofs.iter.Serving.{serving}
use Rattle.spec.specs.Bytes.{split}
use Rattle.spec.proofs.Given.{split-given, given-next, given-none}
use Rattle.element.proofs.Laws.{counted-none, counted-next, counted-all}
use Rattle.element.proofs.element_length.Goals as goal

pub loop-word-init : goal.loop-word-init
loop-word-init c =
    let s = c.args.s.now in (
      grind serving,
      (
        search rules,
        (
          split 95 s,
          (
            split-given _ 95 s (search rules) (search rules) (search rules) (λ x b q k. search (rules, tests)),
            counted-none s c.requires (rw c.is_bare.ensures at c.from-n.ensures),
          ),
        ),
      ),
    )

pub loop-word-preserved : goal.loop-word-preserved
loop-word-preserved c =
    let i = c.loop-word.invariant.1.1 in
    let n = given-next {t = c.next.new.self} i.0 i.1.0 c.in-Some.word (rw c.in-Some.is at c.next.ensures.steps) in
    (search rules, (search rules, (n.0, (n.1.1, counted-next i.1.1 {more = n.0} n.1.0))))

pub returns : goal.returns
returns c =
    let i = c.loop-word.invariant.1.1 in
    counted-all i.1.1 (given-none {t = c.next.new.self} i.0 i.1.0 (rw c.in-None.is at c.next.ensures.steps))
