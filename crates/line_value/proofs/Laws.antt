-- The word of a value, and of none.
use mathlib.Core.Path.{◌≡◌, refl}
use Rattle.spec.specs.Value.{no_value, value_word, decode}
use Rattle.spec.specs.declared.Value.{Value}
use Rattle.spec.proofs.Packing.{Coded, decode-coded}

-- decode-coded, by a name that an attribute of the code can write
pub word_of : (v : Value) → Coded v → decode (value_word v) ≡ v
word_of = decode-coded

pub no_word : decode 17179869184 ≡ no_value
unfolding decode
no_word = refl
