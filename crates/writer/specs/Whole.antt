-- A text that a call writes into a lent buffer: whole, or not at all.
use Rattle.std.specs.Prelude.{ℕ, cond, List, leb, length, Ok, Err}
use Rattle.std.proofs.lemmas.List.Edits.{sets}
use denote.Ref.{MutBor}
use denote.Param.Members.{Shared}
use Rattle.writer.specs.Puts.{Put}
use Rattle.writer.specs.declared.Output.{Output}
use Rattle.spec.specs.Answers.{Answer}
use Rattle.spec.specs.declared.Refusal.TheVariants.{Space}

-- it stands in front, or the buffer is as it was
unfoldable pub text_after : List ℕ → List ℕ → List ℕ
text_after s buffer = cond (leb (length s) (length buffer)) (sets buffer 0 s) buffer

-- how many bytes were written, or that there is no space
unfoldable pub bytes_of : List ℕ → List ℕ → Answer
bytes_of s buffer = cond (leb (length s) (length buffer)) (Ok (length s)) (Err Space)

-- each call of the closure puts s
abbrev pub Puts : {F : Type 0} → Shared F (MutBor Output × Unit {0}) (Unit {0} × (MutBor Output × Unit {0}))
    → F → List ℕ → Type 0
Puts g f s = (a b : MutBor Output) → g.post f (a, tt) (tt, (b, tt)) → Put a.now s b.now
