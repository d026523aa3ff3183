-- What a form with the names says of a path.
use Rattle.std.specs.Prelude.{ℕ, ◌+◌, ◌-◌, ◌≤◌, cond, ◌&&◌, List, leb, length, take, drop, Option, Some, None}
use Rattle.spec.specs.Bytes.{same}
use Rattle.spec.specs.Path.{Form, subtree, typed, other_form, root_bytes, opening_bytes, closing_bytes, around_bytes}
use Rattle.spec.specs.Path.{opening, closing}
use Rattle.paths.specs.declared.PathForm.{PathForm}
use Rattle.std.proofs.Common.{Bor}

-- the form with these names
abbrev pub form_by : List ℕ → Option (Bor (List ℕ)) → Form
form_by t None = subtree t
form_by t (Some y) = typed t y.now

-- the form of the definitions
abbrev pub meaning : Option PathForm → Form
meaning (Some f) = form_by f.t.now f.y
meaning None = other_form

-- what an item type takes of a path
abbrev pub type_bytes : Option (Bor (List ℕ)) → ℕ
type_bytes None = 0
type_bytes (Some y) = opening_bytes + length y.now

-- the names are within a path of l bytes
abbrev pub NamesFit : Option PathForm → ℕ → Type 0
NamesFit (Some f) l = root_bytes + length f.t.now + type_bytes f.y ≤ l
NamesFit None l = Unit {0}

-- the item type, where what follows T is that of the second form
abbrev pub item_type : List ℕ → Option (List ℕ)
item_type rest =
    cond
    (leb around_bytes (length rest)
    && (same (take opening_bytes rest) opening && same (drop (length rest - closing_bytes) rest) closing))
    (Some (take (length rest - around_bytes) (drop opening_bytes rest)))
    None
