-- Numbers of the pass that change no mark.
use Rattle.std.specs.Prelude.{ℕ, ◌-◌, ◌≡◌, List}
use Rattle.picks.specs.Pass.{pass_marks, pass_ok, seen_from}

-- the numbers from s up to r change no mark, and the newest places w to w'
pub record Skipped (steps m : ℕ) (st : List ℕ) (f e s r : ℕ) (w w' : List ℕ) : Type 0 where
  pub ok : (l : List (List ℕ)) → pass_ok steps m st f (e - s) s l ≡ pass_ok steps m st f (e - r) r l
  pub marks : (l : List (List ℕ)) → pass_marks steps st f (e - s) s l ≡ pass_marks steps st f (e - r) r l
  pub seen : seen_from st f (e - s) s w ≡ seen_from st f (e - r) r w'
