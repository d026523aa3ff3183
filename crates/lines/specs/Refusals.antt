-- The refusals of lines that are not read: document 02, Req 06.
use Rattle.spec.specs.declared.Refusal.{Refusal}
use Rattle.spec.specs.declared.Refusal.TheVariants.{Line, Stamp}
use Rattle.lines.specs.declared.LineError.{LineError}
use Rattle.lines.specs.declared.LineError.TheVariants.{Malformed, BadStamp}

abbrev pub refusal_for : LineError → Refusal
refusal_for Malformed = Line
refusal_for BadStamp = Stamp
