-- Calls through the C interface, whose observe and batch take a value's word: each word decodes to a value that fits
-- its type, so the history theorem holds of every list of them with no hypothesis on types.
use mathlib.Core.Path.{◌≡◌}
use Prim.Native.Nat.{ℕ}
use mathlib.Core.List.{List, map}
use Rattle.spec.specs.Value.{decode}
use Rattle.spec.specs.declared.Record.{Record}
use Rattle.history.specs.Reference.{State}
use Rattle.history.specs.Reference.Begun.{begun}
use Rattle.history.specs.Polls.{Told}
use Rattle.history.specs.History.{Call, Typed, AllTyped, Start, History, begins, stores_outputs, reference_after}
use Rattle.spec.proofs.Elements.{each-all, each-map}
use Rattle.spec.proofs.Packing.{decode-fits}
use Rattle.history.proofs.History.{Sequence, history, sequence}
use Rattle.history.proofs.Free.{AllFree}
use Rattle.history.proofs.Never.{never-store}
use Rattle.history.proofs.Late.{late}

-- a call of `mtcore`; the words of the reply or answer buffer at the call are part of it
pub data HostCall : Type 0 where
  observe : (item time host word : ℕ) → HostCall
  batch : (records : List Record) (host : ℕ) (answers : List ℕ) → HostCall
  line : (text : List ℕ) (host : ℕ) → HostCall
  store_asset : (id body : List ℕ) (host : ℕ) → HostCall
  request : (text reply : List ℕ) → HostCall
  body : (id : List ℕ) → HostCall

-- the call that it makes
abbrev pub made : HostCall → Call
made (HostCall.observe item time host word) = Call.observe item time host (decode word)
made (HostCall.batch records host answers) = Call.batch records host answers
made (HostCall.line text host) = Call.line text host
made (HostCall.store_asset id content host) = Call.store_asset id content host
made (HostCall.request text reply) = Call.request text reply
made (HostCall.body id) = Call.body id

typed : (c : HostCall) → Typed (made c)
typed (HostCall.observe item time host word) = decode-fits word
typed (HostCall.batch records host answers) = tt
typed (HostCall.line text host) = tt
typed (HostCall.store_asset id content host) = tt
typed (HostCall.request text reply) = tt
typed (HostCall.body id) = tt

-- whatever the words are
pub all_typed : (cs : List HostCall) → AllTyped (map made cs)
all_typed cs = each-map Typed made cs (each-all typed cs)

module _ (a : Start) (p : State) (accepted : begins a ≡ begun p) (cs : List HostCall) where
  -- demand 3
  pub host-history : History a p (map made cs)
  host-history = history a p accepted (map made cs) (all_typed cs)

  -- H's numbers without gap or repeat
  pub host-sequence : Sequence a p accepted (reference_after a.model a.names p (map made cs)).H
  host-sequence = sequence a p accepted (map made cs) (all_typed cs)

  -- no answer is 2
  pub host-never-store : AllFree 2 (stores_outputs a (map made cs))
  host-never-store = never-store a p accepted (map made cs) (all_typed cs)

  -- a client's next number is late once it is overwritten, and not before
  pub host-late : Told a p (map made cs)
  host-late = late a p accepted (map made cs) (all_typed cs)
