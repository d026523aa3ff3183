-- The tests ahead of a document, one law to each way out, and the document behind them.
use Prim.Native.Nat.{ℕ}
use mathlib.Core.Path.{◌≡◌, refl}
use mathlib.Core.Bool.{true, false}
use mathlib.Core.List.{List}
use Rattle.spec.specs.Model.{model_ok}
use Rattle.spec.specs.Reply.{Replied, Gives}
use Rattle.std.specs.Prelude.{Err}
use Rattle.spec.specs.Answers.{Answer}
use Rattle.spec.specs.declared.Refusal.TheVariants.{Model, Store, Stamp}
use Rattle.writer.specs.Whole.{text_after, bytes_of}
use Rattle.writer.proofs.Whole.{written_is}
use Rattle.streams.specs.Streams.{reply_ok, times_ok, document, streams}

module _ (model names reply : List ℕ) (N instance creation : ℕ) (text : List ℕ) where
  abbrev pub doc : List ℕ
  doc = document model names reply N instance creation

  abbrev pub call : Replied
  call = streams model names reply N instance creation text

  pub model-refused : model_ok model names ≡ false → Gives (Err Model) text call
  unfolding streams
  model-refused m = rw m (refl, refl)

  module _ (m : model_ok model names ≡ true) where
    pub reply-refused : reply_ok model reply ≡ false → Gives (Err Store) text call
    unfolding streams
    reply-refused a = rw (m, a) (refl, refl)

    module _ (a : reply_ok model reply ≡ true) where
      pub times-refused : times_ok creation reply ≡ false → Gives (Err Stamp) text call
      unfolding streams
      times-refused t = rw (m, a, t) (refl, refl)

      pub passed : times_ok creation reply ≡ true → {r : Answer} {out : List ℕ}
          → (out ≡ text_after doc text) × (r ≡ bytes_of doc text) → Gives r out call
      unfolding streams
      passed t g = rw (m, a, t) (written_is doc text g)
