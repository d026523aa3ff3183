-- A Warning or a Fault of the item has one of two numbers in front of its code.
use native.Mathlib.Omega.{arith}
use mathlib.Core.Path.{◌≡◌, refl, sym}
use mathlib.Core.Bool.{true}
use Prim.Native.Nat.{◌+◌, ◌*◌, ◌/◌, ◌^◌}
use lib.Dec.{eqb}
use borrow.Author.Tests.{eqb-true, eqb-false}
use Rattle.spec.specs.Entries.{active}
use Rattle.spec.proofs.Words.{by-test}
use Rattle.marks.proofs.Keys.{key-active, key-idle}
use Rattle.marks.proofs.Laws.{active-level, active-neither}
use Rattle.marks.proofs.key_of.Goals as goal

pub returns-then-front-own-le1 : goal.returns-then-front-own-le1
returns-then-front-own-le1 c =
    let z = c.args in
    let h = c.if-front-own-le1.true in
    let a : active z.own z.word ≡ true =
    by-test (eqb (z.word / 2 ^ 24) (z.own * 65536 + 769))
    (λ e. active-level z.own z.word 1 (omega arith) (omega (arith, eqb-true _ _ e)) refl)
    (λ e.
    let n = eqb-false (z.word / 2 ^ 24) (z.own * 65536 + 769) e in
    active-level z.own z.word 2 (omega arith) (omega (arith, h, c.requires, n)) refl) in
    (omega (arith, key-active z.own z.word a), omega arith)

pub returns-else-front-own-le1 : goal.returns-else-front-own-le1
returns-else-front-own-le1 c =
    let z = c.args in
    let h = c.if-front-own-le1.false in
    let a = active-neither z.own z.word (λ e. omega (arith, h, e)) (λ e. omega (arith, h, e)) in
    (sym (key-idle z.own z.word a), omega arith)
