-- What observe finds in an item's latest rows.
use Rattle.std.specs.Prelude.{ℕ, Bool, cond, List, [], eqb, get_or, Result, Ok, Err}
use Rattle.spec.specs.Entries.{packed, used_rows, form_ok, repeats_in, crowded}
use Rattle.spec.specs.declared.Refusal.{Refusal}
use Rattle.spec.specs.declared.Refusal.TheVariants.{Store, Crowded}
use Rattle.marks.specs.Marks.{place_of}
use Rattle.judging.specs.declared.Judged.{Judged}
use Rattle.judging.specs.declared.Judged.TheVariants.{Repeated, New}

-- Same where a test says so
abbrev pub repeated_if : Bool → Judged
repeated_if test = cond test Repeated New

-- by eight rows and their marks: of a Warning or Fault with this key; of a Normal of one code
unfoldable pub raised_judged : List (List ℕ) → List ℕ → ℕ → ℕ → Result Judged Refusal
raised_judged rs ms key word =
    let j = place_of key ms in
    cond (eqb j 8) (Err Crowded)
    (cond (eqb (get_or ms j 0) 0) (Ok New) (Ok (repeated_if (eqb (packed (get_or rs j [])) word))))

unfoldable pub cleared_judged : List ℕ → ℕ → Judged
cleared_judged ms key =
    let j = place_of key ms in
    cond (eqb j 8) Repeated (repeated_if (eqb (get_or ms j 0) 0))

-- what observe finds in an item's latest rows, of a packed word: Store, Same, Crowded, or none of them
unfoldable pub judged : ℕ → List (List ℕ) → ℕ → Result Judged Refusal
judged own rs word =
    cond (form_ok own 1 rs)
    (cond (repeats_in own (used_rows rs) word) (Ok Repeated)
    (cond (crowded own (used_rows rs) word) (Err Crowded) (Ok New)))
    (Err Store)
