use mathlib.Core.Path.{sym, ◌∙◌}
use native.Mathlib.Omega.{arith}
use Rattle.starting.proofs.Filling.{filling-none, filling-fits, filling-words, filling-more, filling-all, place_of}
use Rattle.starting.proofs.Turns.{turning-none, turn, turns-end}
use Rattle.starting.proofs.start_store.Goals as goal

pub loop-item-init : goal.loop-item-init
loop-item-init c =
    let e = c.zip-item-items.ensures in
    let z = c.into_iter-item-iterator.ensures.into_iter_gives in
    let t =
    turning-none c.args.n _ _ c.cycle.result c.into_iter-item-iterator.result c.items-m.ensures.0
    c.cycle.ensures.start c.cycle.ensures.source (rw z e.first) (rw z e.second) in (
      (tt, (tt, (λ j h. tt), (tt, tt))),
      tt,
      t.0,
      rw (t.1, c.make_blank.ensures, c.items-m.ensures.0) (filling-none _ _ _ _ _ c.requires.starting),
    )

pub overflow_add-row : goal.overflow_add-row
overflow_add-row c =
    let t = turn c.loop-item.invariant.2 c.next.new.self c.in-Some.is c.next.ensures.steps in
    omega (arith, t.1, c.requires.starting.b_max)

pub pack-requires : goal.pack-requires
pack-requires c =
    let t = turn c.loop-item.invariant.2 c.next.new.self c.in-Some.is c.next.ensures.steps in
    omega (arith, t.1)

pub evict-requires : goal.evict-requires
evict-requires c =
    let t = turn c.loop-item.invariant.2 c.next.new.self c.in-Some.is c.next.ensures.steps in
    let f = rw (← t.0) at c.loop-item.invariant.3 in
    record {
      overwriting = filling-fits f c.requires.starting;
      p_value = (t.2 ∙ sym (place_of c.args.n c.args.b c.in-Some.item), t.3);
    }

pub put_number-requires : goal.put_number-requires
put_number-requires c =
    let t = turn c.loop-item.invariant.2 c.next.new.self c.in-Some.is c.next.ensures.steps in
    let f = rw (← t.0) at c.loop-item.invariant.3 in
    record {
      p_lt_n = (t.3, c.requires.starting.n_max);
      item_lt_m = (omega (arith, t.1, c.items-m.ensures.0), omega arith);
      st_len = rw c.items-m.ensures.0 (filling-words f c.evict.ensures);
    }

pub loop-item-preserved : goal.loop-item-preserved
loop-item-preserved c =
    let t = turn c.loop-item.invariant.2 c.next.new.self c.in-Some.is c.next.ensures.steps in
    let f = rw (← t.0) at c.loop-item.invariant.3 in (
      (tt, (tt, (λ j h. tt), (tt, tt))),
      tt,
      t.5,
      rw t.4
          (filling-more f c.requires.starting t.1 c.items-m.ensures.0 c.pack.ensures
          (t.2 ∙ sym (place_of c.args.n c.args.b c.in-Some.item), t.3) c.evict.ensures c.put_number.ensures),
    )

pub returns : goal.returns
returns c =
    filling-all c.loop-item.invariant.3
    (turns-end c.loop-item.invariant.2 c.next.new.self c.requires.starting.n_pos c.in-None.is c.next.ensures.steps)
