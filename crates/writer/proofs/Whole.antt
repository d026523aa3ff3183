-- A text written in two passes, the first of them over no bytes: whole, or not at all, as the calls answer it.
use Prim.Native.Nat.{ℕ, ◌<◌, ◌≤◌}
use mathlib.Core.Path.{◌≡◌, refl}
use mathlib.Core.Bool.{Bool, true, false}
use mathlib.Core.List.{List}
use native.Mathlib.Nat.{zero-add}
use native.Mathlib.Omega.{arith}
use lib.Dec.{leb}
use lib.ListN.{length}
use lib.Seq.{sets-eq}
use borrow.Author.Tests.{leb-true, le-leb, lt-leb}
use Rattle.spec.specs.Reply.{Gives, written}
use Rattle.std.specs.Prelude.{Ok, Err}
use Rattle.spec.specs.Answers.{Answer}
use Rattle.spec.specs.declared.Refusal.TheVariants.{Space}
use Rattle.writer.specs.Puts.{stop, onward, Put}
use Rattle.writer.specs.declared.Output.{Output}
use Rattle.writer.specs.Whole.{text_after, bytes_of}

-- the first pass gives the text's length as far as places go
module _ (s buffer : List ℕ) {n : ℕ} (e : n ≡ onward 0 (length s)) (r : length buffer < stop) where
  pub too_short : length buffer < n → (buffer ≡ text_after s buffer) × (Err Space ≡ bytes_of s buffer)
  unfolding text_after bytes_of
  too_short h = let f = lt-leb (length s) (length buffer) (omega arith) in (rw f, rw f)

  pub has_room : n ≤ length buffer → length s ≤ length buffer
  has_room h = omega arith

pub fitting : (s buffer : List ℕ) → length s ≤ length buffer → length buffer < stop → {a b : Output}
    → a.bytes.now ≡ buffer → a.at ≡ 0 → Put a s b → (b.bytes.now ≡ text_after s buffer) × (Ok b.at ≡ bytes_of s buffer)
unfolding text_after bytes_of
fitting s buffer h r {a} {b} w z q =
    let f = le-leb (length s) (length buffer) h in
    let m : b.at ≡ length s = omega (arith, q.place) in
    (rw f (rw (w, z) at q.stands), rw (f, m))

-- what a call says of it
pub written_is : (s buffer : List ℕ) {r : Answer} {out : List ℕ}
    → (out ≡ text_after s buffer) × (r ≡ bytes_of s buffer) → Gives r out (written (length s) s buffer)
unfolding written text_after bytes_of
written_is s buffer {r} {out} g = go (leb (length s) (length buffer)) refl
  where
    go : (b : Bool) → leb (length s) (length buffer) ≡ b → Gives r out (written (length s) s buffer)
    go true e =
        rw (g.0, g.1, e) (
          refl,
          rw (zero-add (length s))
              at (sets-eq s buffer 0 (omega (arith, leb-true (length s) (length buffer) e))),
        )
    go false e = rw (g.0, g.1, e) (refl, refl)
