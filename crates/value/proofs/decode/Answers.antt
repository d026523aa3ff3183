-- Each kind has its own clause of the definition.
use mathlib.Core.Path.{◌≡◌, sym, ◌∙◌}
use borrow.Author.Rules.{rules}
use mir.Syntax.{w32}
use mir.Val.{to_z, of_z}
use Rattle.spec.specs.Value.{decode}
use Rattle.value.proofs.Laws.{sample_read, by_kind, by-none}
use Rattle.value.proofs.decode.Goals as goal

pub returns-then-word-eq0 : goal.returns-then-word-eq0
unfolding decode
returns-then-word-eq0 c =
    rw c.if-word-eq0.true

pub returns-in-1 : goal.returns-in-1
returns-in-1 c =
    let x = c.cast_signed.result in
    let e : to_z w32 (of_z w32 x) ≡ x = search rules in
    rw (e, c.cast_signed.ensures, sample_read) (sym (by_kind _ c.in-1.is))

pub returns-in-2 : goal.returns-in-2
returns-in-2 c =
    sym (by_kind _ c.in-2.is)

pub returns-in-3 : goal.returns-in-3
returns-in-3 c =
    c.condition_of.ensures ∙ sym (by_kind _ c.in-3.is)

pub returns-in_default : goal.returns-in_default
returns-in_default c =
    by-none _ c.if-word-eq0.false (search rules) (search rules) (search rules)
