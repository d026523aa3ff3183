-- A turn finds the first id that the iterator gives; at its end none is left, and the cells found are replied.
use mathlib.Core.Path.{◌≡◌}
use Rattle.std.proofs.Common.{rules, tests, arith}
use Rattle.std.proofs.iter.Serving.{serving}
use Rattle.std.proofs.lemmas.Result.{err_from_is_err_and}
use Rattle.spec.specs.Bytes.{split}
use Rattle.spec.proofs.Given.{split-given, given-next, given-none}
use Rattle.reply.proofs.Laws.{both, passed}
use Rattle.named_reply.proofs.Laws.{finding-none, finding-room, finding-missing, finding-more, finding-last}
use Rattle.named_reply.proofs.Laws.{named-missing, named-found}
use Rattle.named_reply.proofs.reply_named.Goals as goal

pub loop-id-init : goal.loop-id-init
loop-id-init c =
    let ids = c.args.ids.now in (
      grind serving,
      (
        search rules,
        (
          split 59 ids,
          (
            split-given _ 59 ids (search rules) (search rules) (search rules) (λ x b q k. search (rules, tests)),
            finding-none _ _ _ c.requires.ids_length c.new-found.ensures c.requires.ids_value,
          ),
        ),
      ),
    )

pub returns-in_err-cell : goal.returns-in_err-cell
returns-in_err-cell c =
    let i = c.loop-id.invariant.1.1 in
    let n = given-next {t = c.next.new.self} i.0 i.1.0 c.in-Some.id (rw c.in-Some.is at c.next.ensures.steps) in
    let e = c.in_err-cell.ensures in
    let p = err_from_is_err_and c.from_residual.result c.from_residual.ensures.1 in
    rw (p.1, p.2, e.0) (both _ (named-missing _ _ _ (finding-missing i.1.1 n.1.0 e.1)))

pub push-requires : goal.push-requires
push-requires c =
    let i = c.loop-id.invariant.1.1 in
    let n = given-next {t = c.next.new.self} i.0 i.1.0 c.in-Some.id (rw c.in-Some.is at c.next.ensures.steps) in
    let r = finding-room i.1.1 n.1.0 in
    (omega arith, r)

pub loop-id-preserved : goal.loop-id-preserved
loop-id-preserved c =
    let i = c.loop-id.invariant.1.1 in
    let n = given-next {t = c.next.new.self} i.0 i.1.0 c.in-Some.id (rw c.in-Some.is at c.next.ensures.steps) in
    let e = c.in_ok-cell.ensures in (
      search rules,
      (
        search rules,
        (n.0, (n.1.1, rw c.push.ensures.items (finding-more i.1.1 n.1.0 e.0 e.1 e.2))),
      ),
    )

pub reply_cells-requires : goal.reply_cells-requires
reply_cells-requires c =
    let i = c.loop-id.invariant.1.1 in
    let f = finding-last i.1.1 (given-none {t = c.next.new.self} i.0 i.1.0 (rw c.in-None.is at c.next.ensures.steps)) in
    let e : c.deref.result.now ≡ c.loop-id.found.items = search rules in
    rw e f.0

pub returns : goal.returns
returns c =
    let i = c.loop-id.invariant.1.1 in
    let f = finding-last i.1.1 (given-none {t = c.next.new.self} i.0 i.1.0 (rw c.in-None.is at c.next.ensures.steps)) in
    let e : c.deref.result.now ≡ c.loop-id.found.items = search rules in
    passed _ _ (named-found _ _ c.args.reply.now _ f.1.0 f.1.1) (rw e at c.reply_cells.ensures)
