-- What a reading's observe refuses.
use Prim.Native.Nat.{ℕ, ◌<◌}
use mathlib.Core.Path.{◌≡◌, refl, sym, ap, ◌∙◌}
use mathlib.Core.Bool.{and-false}
use mathlib.Core.List.{List}
use Rattle.spec.specs.Value.{no_value, takes}
use Rattle.spec.specs.Model.{items, category}
use Rattle.lines.specs.Lines.{value_for}
use Rattle.lines.specs.declared.Form.{Form}
use Rattle.spec.specs.declared.Refusal.TheVariants.{Kind}
use Rattle.history.specs.Calls.{not_observed, observe_item}
use Rattle.observing.proofs.Laws.{item_refused, kind-refused}

-- a number that is too large for its kind
pub too-large : (model st : List ℕ) (item time : ℕ) (form : Form) → item < items model
    → no_value ≡ value_for (category model item) form
    → observe_item model st item time (value_for (category model item) form) ≡ not_observed Kind st
too-large model st item time form h e =
    let k = category model item in
    kind-refused model st item time (value_for k form) h k refl
    (sym (ap (takes k) (sym e) ∙ and-false _)) refl

pub ruleset refused = (item_refused, too-large)
