-- The tests ahead of a line's text, one law to each way out, and the text behind them.
use Prim.Native.Nat.{ℕ, ◌<◌, ◌≤◌}
use mathlib.Core.Path.{◌≡◌}
use mathlib.Core.Bool.{Bool, true, false}
use mathlib.Core.List.{List}
use lib.ListN.{length}
use borrow.Author.Tests.{lt-ltb, le-ltb, le-leb, lt-leb}
use Rattle.spec.specs.Value.{takes}
use Rattle.spec.specs.Model.{max_items, items, category, model_ok}
use Rattle.spec.specs.Reply.{refuse, written}
use Rattle.lines.specs.Stamps.{max_time}
use Rattle.lines.specs.Lines.{line_of}
use Rattle.history.specs.Calls.{write_line}
use Rattle.spec.specs.declared.Value.{Value}
use Rattle.spec.specs.declared.Refusal.TheVariants.{Item, Kind, Stamp}
use Rattle.spec.proofs.Words.{told}

module _ (model names : List ℕ) (item time : ℕ) (v : Value) (text : List ℕ) (ok : model_ok model names ≡ true) where
  pub item_refused : items model ≤ item → write_line model names item time v text ≡ refuse Item text
  unfolding write_line
  item_refused h = rw (ok, le-ltb _ _ h)

  -- the item's category, as it was found
  module _ (k : ℕ) (h : (k ≡ category model item) × (item < items model) × (items model ≤ max_items)) {t : Bool}
      (et : t ≡ takes k v) where
    kind-told : {b : Bool} → t ≡ b → takes (category model item) v ≡ b
    kind-told f = rw (← h.0) (told et f)

    pub kind-refused : t ≡ false → write_line model names item time v text ≡ refuse Kind text
    unfolding write_line
    kind-refused f = rw (ok, lt-ltb _ _ h.1, kind-told f)

    pub time-refused : t ≡ true → max_time < time → write_line model names item time v text ≡ refuse Stamp text
    unfolding write_line
    time-refused f g = rw (ok, lt-ltb _ _ h.1, kind-told f, lt-leb _ _ g)

    pub passed : t ≡ true → time ≤ max_time
        → write_line model names item time v text ≡ written (length (line_of item time v)) (line_of item time v) text
    unfolding write_line
    passed f g = rw (ok, lt-ltb _ _ h.1, kind-told f, le-leb _ _ g)
