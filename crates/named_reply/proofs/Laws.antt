-- The first cells of an array, and the ids of a text looked up in order.
use Prim.Native.Nat.{ℕ, ◌+◌, ◌*◌, ◌≤◌, ◌<◌}
use mathlib.Core.Path.{◌≡◌, refl, sym, ap, ◌∙◌}
use mathlib.Core.Bool.{Bool, true, false}
use mathlib.Core.List.{List, [], ◌∷◌, ◌++◌, append-nil}
use native.Mathlib.Omega.{arith}
use lib.Dec.{ltb}
use lib.ListN.{length, get_or}
use lib.Seq.{append_snoc}
use borrow.Author.Tests.{lt-ltb, le-ltb, leb-true, ltb-true, ltb-false}
use Rattle.std.proofs.Math.ListN.{get_or-append}
use Rattle.std.proofs.Math.Seq.{get_or-append_seam}
use Rattle.spec.specs.Bytes.{split}
use Rattle.spec.specs.Text.{id_text, id_texts, longest_text}
use Rattle.spec.specs.Assets.{max_assets, capacity, used, find}
use Rattle.spec.specs.Reply.{refuse}
use Rattle.history.specs.Calls.{all_cells, cells_reply, find_all, named_reply}
use Rattle.spec.specs.declared.Refusal.TheVariants.{AssetNotFound}
use Rattle.spec.proofs.Words.{and_left, and_right}
use Rattle.std.specs.List.{join_with_byte as join}
use Rattle.named_reply.specs.Cells.{FoundAll, NotAll}
use Rattle.std.proofs.lemmas.List.{length-append, length_push}
use Rattle.spec.proofs.Bytes.{join-split}

-- ---- how many ids a text has

-- no id is empty, and a byte stands between two of them
room-taken : (ids : List (List ℕ)) → id_texts ids ≡ true → 2 * length ids ≤ length (join 59 ids) + 1
unfolding id_texts id_text
room-taken [] h = omega arith
room-taken (p ∷ []) h = let n : 1 ≤ length p = leb-true _ _ (and_left _ _ (and_left _ _ h)) in omega arith
room-taken (p ∷ q ∷ ids) h =
    let n : 1 ≤ length p = leb-true _ _ (and_left _ _ (and_left _ _ h)) in
    let more = room-taken (q ∷ ids) (and_right (id_text p) _ h) in
    omega (arith, more, length-append p (59 ∷ join 59 (q ∷ ids)))

-- ---- the cells of the ids, found but for those of `rest`

abbrev stored : List ℕ → ℕ → Bool
stored bs i = ltb i (used bs)

pub record Finding (bs : List ℕ) (ids rest : List (List ℕ)) (cells : List ℕ) : Type 0 where
  pub below : (i : ℕ) → i < length cells → get_or cells i 0 < capacity bs
  pub few : length cells + length rest ≤ max_assets
  pub done : find_all bs ids ≡ cells ++ find_all bs rest
  pub all : all_cells (stored bs) (find_all bs ids) ≡ all_cells (stored bs) (find_all bs rest)

pub finding-none : (bs text cells : List ℕ) → length text ≤ longest_text → cells ≡ []
    → id_texts (split 59 text) ≡ true → Finding bs (split 59 text) (split 59 text) cells
finding-none bs text cells h n ids =
    let z : length cells ≡ 0 = ap length n in
    record {
      below = λ i g. absurd (omega arith);
      few = omega (arith, room-taken (split 59 text) ids, ap length (join-split 59 text));
      done = rw n;
      all = refl;
    }

-- the next id
module _ {bs : List ℕ} {ids rest : List (List ℕ)} {cells : List ℕ} (w : Finding bs ids rest cells)
    {id : List ℕ} {more : List (List ℕ)} (cut : rest ≡ id ∷ more) where
  -- there is a place for its cell
  pub finding-room : length cells < max_assets
  finding-room = omega (arith, w.few, ap length cut)

  pub finding-missing : used bs ≤ find bs id → NotAll bs ids
  unfolding all_cells find_all
  finding-missing h = w.all ∙ rw (cut, le-ltb _ _ h)

  module _ {cell : ℕ} (is : cell ≡ find bs id) (h : cell < used bs) (room : used bs ≤ capacity bs) where
    inside : (i : ℕ) → i < length (cells ++ cell ∷ []) → get_or (cells ++ cell ∷ []) i 0 < capacity bs
    inside i l = go (ltb i (length cells)) refl
      where
        go : (t : Bool) → ltb i (length cells) ≡ t → get_or (cells ++ cell ∷ []) i 0 < capacity bs
        go true e = let k : i < length cells = ltb-true _ _ e in rw (get_or-append cells (cell ∷ []) 0 i k) (w.below i k)
        go false e = let k : i ≡ length cells = omega (arith, ltb-false _ _ e, length_push cells cell) in
            rw (k, get_or-append_seam cells cell [] 0) (omega arith)

    -- its cell moves from those to find to those found
    pub finding-more : Finding bs ids more (cells ++ cell ∷ [])
    unfolding find_all all_cells
    finding-more =
        record {
          below = inside;
          few = omega (arith, w.few, length_push cells cell, ap length cut);
          done = w.done ∙ rw (cut, ← is) (sym (append_snoc cells cell (find_all bs more)));
          all = w.all ∙ rw (cut, ← is, lt-ltb _ _ h);
        }

pub finding-last : {bs : List ℕ} {ids rest : List (List ℕ)} {cells : List ℕ}
    → Finding bs ids rest cells → rest ≡ [] → FoundAll bs ids cells
unfolding find_all all_cells
finding-last {bs} {ids} {rest} {cells} w none = (
  record { few = omega (arith, w.few); below = w.below },
  (sym (w.done ∙ rw none (append-nil cells)), w.all ∙ rw none),
)

-- ---- the assets named

module _ (bs : List ℕ) (ids : List (List ℕ)) (reply : List ℕ) where
  pub named-missing : NotAll bs ids → named_reply bs ids reply ≡ refuse AssetNotFound reply
  unfolding named_reply
  named-missing e = rw e

  pub named-found : (cells : List ℕ) → cells ≡ find_all bs ids → all_cells (stored bs) (find_all bs ids) ≡ true
      → cells_reply bs cells reply ≡ named_reply bs ids reply
  unfolding named_reply
  named-found cells e t = rw (e, t)
