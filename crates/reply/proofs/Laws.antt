-- Laws of replies: words written one behind the other, the arrays behind the sizes, and what answer and buffer then
-- are.
use Prim.Native.Nat.{ℕ, ◌+◌, ◌-◌, ◌≤◌}
use mathlib.Core.Path.{◌≡◌, refl, sym, ap, ◌∙◌}
use mathlib.Core.Bool.{Bool, true, false}
use mathlib.Core.List.{List, [], ◌∷◌, ◌++◌, append-nil}
use native.Mathlib.Omega.{arith}
use lib.ListN.{length, take, drop, length-append, length-take, length-drop, drop_of_length-le}
use lib.Seq.{sets, sets-eq, length-sets, take_all, take_at, drop-append-add, drop-drop}
use borrow.Author.Tests.{leb-true}
use Rattle.spec.specs.Reply.{Replied, over, written}
use Rattle.std.specs.Prelude.{Option, None, Result, Ok, Err, IsErrAnd}
use Rattle.std.specs.Option.{ok_or}
use Rattle.spec.specs.declared.Refusal.{Refusal}
use Rattle.spec.specs.declared.Refusal.TheVariants.{Space}
use Rattle.spec.specs.Answers.{Answer}
use Rattle.spec.proofs.Refused.{handed-on, none-handed}
use Rattle.reply.specs.Fitted.{Fitted}

-- four words copied to the front
pub sets-front : (l sizes : List ℕ) {part : List ℕ} → length sizes ≡ 4 → 4 ≤ length l → part ≡ sizes
    → part ++ drop 4 l ≡ sets l 0 sizes
sets-front l sizes n h e = rw e (sym (sets-eq sizes l 0 (omega arith) ∙ rw n))

-- ---- the arrays behind the sizes

-- two runs of words, the second behind the first, and what stood behind them
columns-over : (o C L : List ℕ) → length C + length L ≤ length o
    → sets (sets o 0 C) (length C) L ≡ (C ++ L) ++ drop (length C + length L) o
columns-over o C L h =
    let z : 0 + length C ≡ length C = omega arith in
    let e : sets o 0 C ≡ C ++ drop (length C) o = sets-eq C o 0 (omega arith) ∙ rw z in
    let l : length (C ++ drop (length C) o) ≡ length o =
    omega (arith, length-append C (drop (length C) o), length-drop (length C) o) in
    rw e
    (sets-eq L (C ++ drop (length C) o) (length C) (omega arith)
    ∙ rw (
      take_at C (drop (length C) o) (length C) refl,
      drop-append-add C (drop (length C) o) (length L),
      drop-drop (length L) (length C) o,
    ))

-- w words behind the sizes a, b, c and d, which fit the reply or don't; x is the reply, of which a part may be lent
module _ {reply x : List ℕ} {w a b c d : ℕ} {t : Bool} (s : Fitted reply w (a ∷ b ∷ c ∷ d ∷ []) t x) where
  module _ (fits : t ≡ true) where
    room : 4 + w ≤ length reply
    room = leb-true _ _ (sym s.told ∙ fits)

    front : x ≡ sets reply 0 (a ∷ b ∷ c ∷ d ∷ [])
    front = rw fits at s.sized

    same_size : length x ≡ length reply
    same_size = ap length front ∙ length-sets reply 0 (a ∷ b ∷ c ∷ d ∷ [])

    -- the part behind the sizes begins inside the reply
    pub behind : 4 ≤ length x
    behind = omega (arith, room, same_size)

    -- it has room for the words, and so has any part that begins no later
    pub lends : (n : ℕ) → n ≤ 4 → w ≤ length (take (length x - n) (drop n x))
    lends n h = omega (arith, length-take (length x - n) (drop n x), length-drop n x, room, same_size)

  -- the words are C, then L
  module _ (C L : List ℕ) (size : w ≡ length C + length L) where
    all-size : length (a ∷ b ∷ c ∷ d ∷ (C ++ L)) ≡ 4 + w
    all-size = omega (arith, length-append C L)

    pub short : t ≡ false
        → written a (a ∷ b ∷ c ∷ d ∷ (C ++ L)) reply ≡ record { answer = Err Space; reply = x }
    unfolding written
    short f = let kept : x ≡ reply = rw f at s.sized in rw (all-size, ← s.told, f, kept)

    module _ (many : a ≡ length C) (fits : t ≡ true) (y : List ℕ)
        (ey : y ≡ sets (sets (take (length x - 4) (drop 4 x)) 0 C) a L) where
      -- the part comes back as y: the reply is all these words, then those that stood behind them
      lent-over : take 4 x ++ (y ++ drop (length x - 4) (drop 4 x)) ≡ over (a ∷ b ∷ c ∷ d ∷ (C ++ L)) reply
      lent-over =
          let h = room fits in
          let e : x ≡ (a ∷ b ∷ c ∷ d ∷ []) ++ drop 4 reply =
          front fits ∙ sets-eq (a ∷ b ∷ c ∷ d ∷ []) reply 0 (omega arith) in
          let f : drop 4 x ≡ drop 4 reply = ap (drop 4) e in
          let g : take 4 x ≡ a ∷ b ∷ c ∷ d ∷ [] = ap (take 4) e in
          let l : take (length x - 4) (drop 4 x) ≡ drop 4 x =
          take_all (length x - 4) (drop 4 x) (omega (arith, length-drop 4 x)) in
          let u : drop (length x - 4) (drop 4 x) ≡ [] =
          drop_of_length-le (drop 4 x) {i = length x - 4} (omega (arith, length-drop 4 x)) in
          let n : 4 + (length C + length L) ≡ length (a ∷ b ∷ c ∷ d ∷ (C ++ L)) = omega (arith, all-size) in
          rw (
            g,
            u,
            append-nil y,
            ey,
            l,
            f,
            many,
            columns-over (drop 4 reply) C L (omega (arith, length-drop 4 reply)),
            drop-drop (length C + length L) 4 reply,
          )
          (ap (λ (z : ℕ). length C ∷ b ∷ c ∷ d ∷ ((C ++ L) ++ drop z reply)) n)

      pub whole :
          written a (a ∷ b ∷ c ∷ d ∷ (C ++ L)) reply
          ≡ record { answer = Ok a; reply = take 4 x ++ (y ++ drop (length x - 4) (drop 4 x)) }
      unfolding written
      whole = rw (all-size, ← s.told, fits, lent-over)

-- ---- answer and reply

pub both : (o : Replied) {x : Answer} {y : List ℕ} → o ≡ record { answer = x; reply = y }
    → (x ≡ o.answer) × (y ≡ o.reply)
both o {x} {y} e = (sym (ap (λ (z : Replied). z.answer) e), sym (ap (λ (z : Replied). z.reply) e))

-- what one definition says, another that equals it says
pub passed : (o p : Replied) {x : Answer} {y : List ℕ} → o ≡ p → (x ≡ o.answer) × (y ≡ o.reply)
    → (x ≡ p.answer) × (y ≡ p.reply)
passed o p {x} {y} e h = (h.0 ∙ ap (λ (z : Replied). z.answer) e, h.1 ∙ ap (λ (z : Replied). z.reply) e)

-- ---- what `?` hands on

-- the refusal is the call's answer
pub refused : (o : Replied) {r : Answer} {d e : Refusal} {y : List ℕ} → IsErrAnd r (λ z. z ≡ d) → d ≡ e
    → o ≡ record { answer = Err e; reply = y } → (r ≡ o.answer) × (y ≡ o.reply)
refused o {r} h g w = rw (handed-on r h g) (both o w)

-- and so is the one that stands in for a missing value
pub none-refused : {A : Type 0} (x : Option A) {e d : Refusal} {q : Result A Refusal} (o : Replied) {r : Answer}
    {y : List ℕ} → IsErrAnd r (λ z. z ≡ d) → q ≡ ok_or x e → q ≡ Err d
    → (None ≡ x → o ≡ record { answer = Err e; reply = y }) → (r ≡ o.answer) × (y ≡ o.reply)
none-refused x o {r} {y} h g was w =
    none-handed (λ a. (a ≡ o.answer) × (y ≡ o.reply)) x r h g was (λ n. both o (w n))
