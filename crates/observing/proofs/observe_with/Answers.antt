-- One law to each way out.
use mathlib.Core.Path.{refl, sym, ◌∙◌}
use Rattle.spec.proofs.Refused.{handed-on, none-of}
use Rattle.observing.proofs.Laws.{item_refused, kind-refused, taken-none, taken-on}
use Rattle.observing.proofs.observe_with.Goals as goal

pub returns-in_err-category : goal.returns-in_err-category
returns-in_err-category g c = λ v p.
    let z = c.args in
    let n = c.in_err-category.ensures.ok_part in
    let o = item_refused z.model.now z.observations.now z.item z.time v (rw n at c.category_at.ensures) in
    let k = none-of c.category_at.result c.ok_or.ensures.value c.in_err-category.was in
    rw (o, handed-on _ c.from_residual.ensures.1 k.1) (refl, refl)

pub returns-in_err-word : goal.returns-in_err-word
returns-in_err-word g c = λ v p.
    let z = c.args in
    let n = c.in_err-word.ensures.ok_part in
    let i = rw c.in_ok-category.ensures.ok_part at c.category_at.ensures in
    let e = p c.packed.result i.1 (rw i.0 at c.packed.ensures) in
    let f = taken-none _ z.item v (sym n ∙ e) in
    let k = none-of c.packed.result c.ok_or-2.ensures.value c.in_err-word.was in
    let o = kind-refused z.model.now z.observations.now z.item z.time v i.1 _ refl refl f in
    rw (o, handed-on _ c.from_residual-in_err-word.ensures.1 k.1) (refl, refl)

pub returns : goal.returns
returns g c = λ v p.
    let i = rw c.in_ok-category.ensures.ok_part at c.category_at.ensures in
    let e = p c.packed.result i.1 (rw i.0 at c.packed.ensures) in
    rw (taken-on _ _ _ _ v i.1 _ refl (sym c.in_ok-word.ensures.ok_part ∙ e)) c.observe_taken.ensures
