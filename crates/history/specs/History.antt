-- Demand 3, the history rule, as one statement: document 01, "The paper machine", and document 02, Req 01 and Req 06. A
-- start and a list of the other calls; the outputs of the stores' calls and of the reference model; one client's windows.
use Rattle.std.specs.Prelude.{ℕ, suc, ◌≡◌, Bool, cond, List, [], ◌∷◌, ◌++◌, map, eqb, length, get_or}
use Rattle.std.specs.Prelude.{Ok, Err, Option, Some, None}
use Rattle.std.specs.List.{AllByRecursion}
use Rattle.spec.specs.Value.{Fits, decode}
use Rattle.spec.specs.Text.{Request, Reading, read_text}
use Rattle.spec.specs.Text.Request.{sample, current, current_at, assets, all_assets}
use Rattle.spec.specs.Text.Reading.{unread, asked}
use Rattle.spec.specs.Path.{select}
use Rattle.spec.specs.Reply.{over, rows_of}
use Rattle.spec.specs.Answers.{Answer, ObserveAnswer, observe_word}
use Rattle.lines.specs.Lines.{read_line}
use Rattle.history.specs.Calls
use Rattle.history.specs.Reference
use Rattle.history.specs.Reference.{State, Begun, Observation, Offer, triple, matching}
use Rattle.spec.specs.declared.Record.{Record}
use Rattle.spec.specs.declared.Value.{Value}

-- ---- calls and what they give

-- the words of the reply or answer buffer at the call are part of the call
pub data Call : Type 0 where
  observe : (item time host : ℕ) (value : Value) → Call
  batch : (records : List Record) (host : ℕ) (answers : List ℕ) → Call
  line : (text : List ℕ) (host : ℕ) → Call
  store_asset : (id body : List ℕ) (host : ℕ) → Call
  request : (text reply : List ℕ) → Call
  body : (id : List ℕ) → Call

-- the answer; of a batch also the whole answer buffer, of a request the whole reply buffer; of body its bytes
pub data Output : Type 0 where
  started : Answer → Output
  observed : ObserveAnswer → Output
  batched : Answer → List ℕ → Output
  stored : Answer → Output
  replied : Answer → List ℕ → Output
  returned : List ℕ → Output

-- an argument that is an i32 or a u32 is one
abbrev pub Typed : Call → Type 0
Typed (observe item time host v) = Fits v
Typed (batch records host answers) = Unit {0}
Typed (line text host) = Unit {0}
Typed (store_asset id content host) = Unit {0}
Typed (request text reply) = Unit {0}
Typed (body id) = Unit {0}

abbrev pub AllTyped : List Call → Type 0
AllTyped = AllByRecursion Typed

-- ---- the stores' calls, each taking the stores as the last call left them; a list of outputs for each call

pub record Stores : Type 0 where
  pub observations : List ℕ
  pub assets : List ℕ

abbrev pub stores_output : List ℕ → List ℕ → Stores → Call → List Output
stores_output model names s (observe item time host v) =
    observed (Calls.observe model names s.observations item time host v).answer ∷ []
stores_output model names s (batch records host answers) =
    let r = Calls.observe_batch model names s.observations records host answers in
    batched r.answer r.answers ∷ []
stores_output model names s (line text host) =
    observed (Calls.observe_line model names s.observations text host).answer ∷ []
stores_output model names s (store_asset id content host) =
    stored (Calls.store_asset model names s.observations s.assets id content host).answer ∷ []
stores_output model names s (request text reply) =
    let r = Calls.request model names s.observations s.assets text reply in
    replied r.answer r.reply ∷ []
stores_output model names s (body id) = returned (Calls.body s.assets id) ∷ []

abbrev pub stores_next : List ℕ → List ℕ → Stores → Call → Stores
stores_next model names s (observe item time host v) =
    record { observations = (Calls.observe model names s.observations item time host v).observations; assets = s.assets }
stores_next model names s (batch records host answers) =
    let r = Calls.observe_batch model names s.observations records host answers in
    record { observations = r.observations; assets = s.assets }
stores_next model names s (line text host) =
    record { observations = (Calls.observe_line model names s.observations text host).observations; assets = s.assets }
stores_next model names s (store_asset id content host) =
    let r = Calls.store_asset model names s.observations s.assets id content host in
    record { observations = r.observations; assets = r.assets }
stores_next model names s (request text reply) = s
stores_next model names s (body id) = s

unfoldable pub stores_run : List ℕ → List ℕ → Stores → List Call → List (List Output)
stores_run model names s [] = []
stores_run model names s (c ∷ cs) = stores_output model names s c ∷ stores_run model names (stores_next model names s c) cs

-- the stores behind a list of calls
unfoldable pub stores_after : List ℕ → List ℕ → Stores → List Call → Stores
stores_after model names s [] = s
stores_after model names s (c ∷ cs) = stores_after model names (stores_next model names s c) cs

-- ---- the reference model's

-- the observations that a call offers: an observe its one, an accepted batch its records', a line that reads its
-- reading's, no other call any
abbrev pub offers_of : List ℕ → List ℕ → Call → List Offer
offers_of model names (observe item time host v) = record { item = item; time = time; host = host; value = v } ∷ []
offers_of model names (batch records host answers) =
    Reference.batch_offers (Reference.batch_answer model names (length records) (length answers)) host records
offers_of model names (line text host) = Reference.reading_offers (read_line text) model host
offers_of model names (store_asset id content host) = []
offers_of model names (request text reply) = []
offers_of model names (body id) = []

-- the state behind a call's offers
abbrev pub offered : List ℕ → List ℕ → State → Call → State
offered model names p c = Reference.offers_next model names p (offers_of model names c)

abbrev pub reference_output : List ℕ → List ℕ → State → Call → List Output
reference_output model names p (observe item time host v) = observed (Reference.observe_answer model names p item v) ∷ []
reference_output model names p (batch records host buffer) =
    let answers = Reference.offers_answers model names p (offers_of model names (batch records host buffer)) in
    batched (Reference.batch_answer model names (length records) (length buffer)) (over (map observe_word answers) buffer)
    ∷ []
reference_output model names p (line text host) = observed (Reference.line_answer model names p text) ∷ []
reference_output model names p (store_asset id content host) = stored (Reference.store_answer model names p id content) ∷ []
reference_output model names p (request text buffer) =
    let r = Reference.reply model names p text buffer in
    replied r.answer r.reply ∷ []
reference_output model names p (body id) = returned (Reference.body_of p id) ∷ []

abbrev pub reference_next : List ℕ → List ℕ → State → Call → State
reference_next model names p (observe item time host v) = offered model names p (observe item time host v)
reference_next model names p (batch records host answers) = offered model names p (batch records host answers)
reference_next model names p (line text host) = offered model names p (line text host)
reference_next model names p (store_asset id content host) =
    Reference.store_next (Reference.store_answer model names p id content) model p id content host
reference_next model names p (request text reply) = p
reference_next model names p (body id) = p

unfoldable pub reference_run : List ℕ → List ℕ → State → List Call → List (List Output)
reference_run model names p [] = []
reference_run model names p (c ∷ cs) = reference_output model names p c ∷ reference_run model names (reference_next model names p c) cs

-- the reference model's state behind a list of calls
unfoldable pub reference_after : List ℕ → List ℕ → State → List Call → State
reference_after model names p [] = p
reference_after model names p (c ∷ cs) = reference_after model names (reference_next model names p c) cs

-- ---- a start and a list of calls

-- the arguments of a start, and what stood in the two stores
pub record Start : Type 0 where
  pub model : List ℕ
  pub names : List ℕ
  pub observations : List ℕ
  pub assets : List ℕ
  pub N : ℕ
  pub A : ℕ
  pub B : ℕ
  pub host : ℕ

abbrev pub begins : Start → Begun
begins a =
    Reference.begin a.model a.names a.N a.A a.B a.host (length a.observations) (length a.assets)

abbrev pub stores_start : Start → Calls.Started
stores_start a = Calls.start a.model a.names a.observations a.assets a.N a.A a.B a.host

-- the stores that the start leaves, and those behind the calls
abbrev pub started_stores : Start → Stores
started_stores a = record { observations = (stores_start a).observations; assets = (stores_start a).assets }

abbrev pub stores_behind : Start → List Call → Stores
stores_behind a cs = stores_after a.model a.names (started_stores a) cs

-- the outputs of the calls behind the start
unfoldable pub call_outputs : Start → List Call → List (List Output)
call_outputs a cs = stores_run a.model a.names (started_stores a) cs

-- the stores' outputs, the start's answer first
unfoldable pub stores_outputs : Start → List Call → List (List Output)
stores_outputs a cs = (started (stores_start a).answer ∷ []) ∷ call_outputs a cs

-- the reference model's, from the state p that its start gives
unfoldable pub reference_outputs : Start → State → List Call → List (List Output)
reference_outputs a p cs = (started (Reference.begin_answer (begins a)) ∷ []) ∷ reference_run a.model a.names p cs

-- ---- one client's windows

-- an accepted sample: its path, its starting number, its next number, and the rows delivered (01's handed over), read from the reply
pub record Window : Type 0 where
  pub path : Option (List ℕ)
  pub begin : ℕ
  pub next : ℕ
  pub rows : List (List ℕ)

-- word 1 of a reply is first, word 3 is next
abbrev pub window : Option (List ℕ) → ℕ → List ℕ → Window
window path from reply =
    record { path = path; begin = cond (eqb from 0) (get_or reply 1 0) from; next = get_or reply 3 0; rows = rows_of reply }

abbrev pub window_of_request : Request → List ℕ → List Window
window_of_request (sample path from count) reply = window path from reply ∷ []
window_of_request (current path) reply = []
window_of_request (current_at path number) reply = []
window_of_request (assets ids) reply = []
window_of_request all_assets reply = []

abbrev pub window_of_reading : Reading → List ℕ → List Window
window_of_reading (unread r) reply = []
window_of_reading (asked q) reply = window_of_request q reply

abbrev pub window_of_answer : Answer → Reading → List ℕ → List Window
window_of_answer (Ok k) q reply = window_of_reading q reply
window_of_answer (Err r) q reply = []

abbrev pub window_of_output : List ℕ → Output → List Window
window_of_output text (started a) = []
window_of_output text (observed a) = []
window_of_output text (batched a answers) = []
window_of_output text (stored a) = []
window_of_output text (replied a reply) = window_of_answer a (read_text text) reply
window_of_output text (returned bs) = []

unfoldable pub windows_of_outputs : List ℕ → List Output → List Window
windows_of_outputs text [] = []
windows_of_outputs text (o ∷ os) = window_of_output text o ++ windows_of_outputs text os

abbrev pub windows_of_call : Call → List Output → List Window
windows_of_call (observe item time host v) os = []
windows_of_call (batch records host answers) os = []
windows_of_call (line text host) os = []
windows_of_call (store_asset id content host) os = []
windows_of_call (request text reply) os = windows_of_outputs text os
windows_of_call (body id) os = []

-- of the calls, counted from i, those that `mine` chooses
unfoldable pub windows_of : (ℕ → Bool) → ℕ → List Call → List (List Output) → List Window
windows_of mine i [] os = []
windows_of mine i (c ∷ cs) [] = []
windows_of mine i (c ∷ cs) (o ∷ os) = cond (mine i) (windows_of_call c o) [] ++ windows_of mine (suc i) cs os

-- each begins at the next number of the one before it, and the test of paths holds between it and the first
abbrev pub Meets : (Option (List ℕ) → Type 0) → ℕ → List Window → Type 0
Meets Like n [] = Unit {0}
Meets Like n (w ∷ ws) = Like w.path × (w.begin ≡ n) × Meets Like w.next ws

-- the last one's next number
unfoldable pub last_next : ℕ → List Window → ℕ
last_next n [] = n
last_next n (w ∷ ws) = last_next w.next ws

-- 01's joined
unfoldable pub joined : List Window → List (List ℕ)
joined [] = []
joined (w ∷ ws) = w.rows ++ joined ws

-- what a path selects, as a set; none where it is refused
abbrev pub set_selected : Option ℕ → ℕ
set_selected (Some selection) = selection
set_selected None = 0

abbrev pub selection : Start → Option (List ℕ) → ℕ
selection a path = set_selected (select a.model a.names path)

-- the reference model's matching observations from f up to, but without, e, as they are delivered
abbrev pub matching_rows : Start → Option (List ℕ) → ℕ → ℕ → List Observation → List (List ℕ)
matching_rows a path f e H = map triple (matching (selection a path) f e H)

-- ---- the statement

-- For a start whose reference model is in state p (01's accepted: it gives no refusal), and a list of calls. `answers`:
-- every answer, reply, answer buffer and body is the reference model's. `windows`: whichever calls are chosen as one
-- client's, if its accepted samples are w and then ws, all with w's path, each beginning at the next number of the one
-- before, then what they delivered, joined, are exactly the matching observations from w's starting number up to, but
-- without, the last one's next number. Each once and in order: theorem `sequence` (proofs/History) says that H's
-- numbers rise by one from B on, so a part of H has each number once, the lower first.
pub record History (a : Start) (p : State) (cs : List Call) : Type 0 where
  pub answers : stores_outputs a cs ≡ reference_outputs a p cs
  pub windows : (mine : ℕ → Bool) (w : Window) (ws : List Window)
      → windows_of mine 0 cs (call_outputs a cs) ≡ w ∷ ws
      → Meets (λ path. path ≡ w.path) w.next ws
      → joined (w ∷ ws) ≡ matching_rows a w.path w.begin (last_next w.next ws) (reference_after a.model a.names p cs).H

-- ---- a batch and its single observes: document 02, Req 01

-- an observe for each record
abbrev pub singles : ℕ → List Record → List Call
singles host [] = []
singles host (r ∷ rs) = observe r.item r.time host (decode r.value) ∷ singles host rs

-- Over any stores s: calls cs, a batch behind them, and calls ds; and the same with the batch's single observes in its
-- place. The single observes answer `single`; both lists leave the same stores, and the calls before and behind give
-- the same; the batch's words are those of the single answers, and what stood behind them in the buffer stays.
pub record BatchSingles (model names : List ℕ) (s : Stores) (cs : List Call) (records : List Record) (host : ℕ)
    (answers : List ℕ) (ds : List Call) : Type 0 where
  pub single : List ObserveAnswer
  pub before : List (List Output)
  pub behind : List (List Output)
  pub calls_before : before ≡ stores_run model names s cs
  pub one_each : length single ≡ length records
  pub outputs : stores_run model names s (cs ++ (batch records host answers ∷ ds))
      ≡ before ++ ((batched (Ok (length records)) (over (map observe_word single) answers) ∷ []) ∷ behind)
  pub single_outputs : stores_run model names s (cs ++ (singles host records ++ ds))
      ≡ before ++ (map (λ x. observed x ∷ []) single ++ behind)
  pub stores : stores_after model names s (cs ++ (batch records host answers ∷ ds))
      ≡ stores_after model names s (cs ++ (singles host records ++ ds))
