-- The groups as the code names them, by the numbers by which the definitions count them. These count by numbers: `each
-- f groups 0` goes over them, and the reader of a document reads a group by its number.
use Rattle.std.specs.Prelude.{ℕ}
use Rattle.streams.specs.declared.Group.{Group}
use Rattle.streams.specs.declared.Group.TheVariants.{Samples, Events, Condition}

abbrev pub group_number : Group → ℕ
group_number Samples = 0
group_number Events = 1
group_number Condition = 2
