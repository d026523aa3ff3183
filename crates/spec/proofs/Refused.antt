-- A refusal that `?` hands on.
use mathlib.Core.Path.{◌≡◌, refl, ap, ◌∙◌}
use Rattle.std.specs.Prelude.{Option, Some, None, Result, Ok, Err, IsErrAnd}
use Rattle.std.specs.Option.{ok_or}
use Rattle.std.proofs.lemmas.Result.{err_from_is_err_and}
use Rattle.spec.specs.declared.Refusal.{Refusal}

-- it is the refusal that the test gave
pub handed-on : {A : Type 0} {d e : Refusal} (r : Result A Refusal) → IsErrAnd r (λ z. z ≡ d) → d ≡ e → r ≡ Err e
handed-on r h g = let p = err_from_is_err_and r h in p.1 ∙ ap Err (p.2 ∙ g)

-- where a refusal stands in for a value that may be missing: none was there, or the one that is handed on
pub none-of : {A : Type 0} (o : Option A) {e d : Refusal} {r : Result A Refusal} → r ≡ ok_or o e → r ≡ Err d
    → (None ≡ o) × (d ≡ e)
none-of None h g = (refl, cc)
none-of (Some x) h g = cc

pub some-of : {A : Type 0} (o : Option A) (e : Refusal) {x : A} {r : Result A Refusal} → r ≡ ok_or o e → r ≡ Ok x
    → Some x ≡ o
some-of None e h g = cc
some-of (Some y) e h g = cc

-- what holds of that refusal where none was there holds of what `?` hands on
pub none-handed : {A B : Type 0} (P : Result B Refusal → Type 0) (o : Option A) {e d : Refusal} {q : Result A Refusal}
    (r : Result B Refusal) → IsErrAnd r (λ z. z ≡ d) → q ≡ ok_or o e → q ≡ Err d → (None ≡ o → P (Err e)) → P r
none-handed P o r h g was w = let n = none-of o g was in rw (handed-on r h n.1) (w n.0)
