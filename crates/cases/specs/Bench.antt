-- The bench case: document 01, "Bench case", with C5 and C8 as document 02, Req 04, has them. The start, the three
-- observes and the twelve requests with what they give.
use Rattle.std.specs.Prelude.{ℕ, List, [], ◌∷◌, ◌++◌, pos, negsuc, replicate, Ok, Err}
use Rattle.spec.specs.Bytes.{bytes, pad}
use Rattle.history.specs.Observations.{store_words}
use Rattle.spec.specs.Assets.{store_bytes}
use Rattle.spec.specs.Reply.{Replied, over}
use Rattle.history.specs.Calls
use Rattle.history.specs.History.{Call, Stores, Start, stores_after}
use Rattle.history.specs.History.Call.{observe}
use Rattle.spec.specs.declared.Value.TheVariants.{Sample}
use Rattle.spec.specs.declared.Refusal.TheVariants.{InvalidRequest, TooMany, Late, Early}
use Rattle.spec.specs.Answers.{Answer}

abbrev pub bench_model : List ℕ
bench_model = 2 ∷ 2 ∷ 0 ∷ 1 ∷ 65538 ∷ 259 ∷ []

abbrev pub bench_names : List ℕ
bench_names = pad 24 (bytes "Device") ++ (pad 24 (bytes "Axes") ++ (pad 24 (bytes "AVAILABILITY") ++ pad 24 (bytes "POSITION")))

-- N 3, A 1, B 1, at 1000, into the words and bytes given
abbrev pub bench_start : List ℕ → List ℕ → Start
bench_start st bs =
    record { model = bench_model; names = bench_names; observations = st; assets = bs; N = 3; A = 1; B = 1; host = 1000 }

-- item 1: 5000 at 1010; 5000 at 1020; -1 at time 0, host 1030
abbrev pub bench_observes : List Call
bench_observes = observe 1 1010 1010 (Sample (pos 5000)) ∷ observe 1 1020 1020 (Sample (pos 5000)) ∷ observe 1 0 1030 (Sample (negsuc 0)) ∷ []

-- words and bytes of the two stores
abbrev pub bench_words : ℕ
bench_words = store_words 3 2

abbrev pub bench_bytes : ℕ
bench_bytes = store_bytes 1

-- the stores behind the bench case's start and observes, made from zeros
unfoldable pub bench_stores : Stores
bench_stores =
    let r = Calls.start bench_model bench_names (replicate bench_words 0) (replicate bench_bytes 0) 3 1 1 1000 in
    stores_after bench_model bench_names (record { observations = r.observations; assets = r.assets }) bench_observes

-- what the bench case gives for one request: the answer and the whole buffer, of which program benchcase prints the reply's words
unfoldable pub bench_request : List ℕ → List ℕ → Replied
bench_request text reply = Calls.request bench_model bench_names bench_stores.observations bench_stores.assets text reply

-- ---- the cases: a text, the answer, and the reply's words

pub record Case : Type 0 where
  pub text : List ℕ
  pub answer : Answer
  pub words : List ℕ

abbrev pub c1 : List ℕ
c1 = 3 ∷ 2 ∷ 4 ∷ 5 ∷ 2 ∷ 3 ∷ 4 ∷ 1000 ∷ 1099511627776 ∷ 1010 ∷ 1103806600072 ∷ 1030 ∷ 1108101562367 ∷ []

abbrev pub cases : List Case
cases =
    record { text = bytes "/sample"; answer = Ok 3; words = c1 }
    ∷ record { text = bytes "/current?at=2"; answer = Ok 2; words = 2 ∷ 2 ∷ 4 ∷ 5 ∷ 1 ∷ 2 ∷ 1000 ∷ 0 ∷ 1000 ∷ 1099511627776 ∷ [] }
    ∷ record { text = bytes "/current?path=//Axes"; answer = Ok 1; words = 1 ∷ 2 ∷ 4 ∷ 5 ∷ 4 ∷ 1030 ∷ 1108101562367 ∷ [] }
    ∷ record { text = bytes "/sample?from=5"; answer = Ok 0; words = 0 ∷ 2 ∷ 4 ∷ 5 ∷ [] }
    ∷ record { text = bytes "/sample?from=6"; answer = Err Early; words = [] }
    ∷ record { text = bytes "/sample?from=1"; answer = Err Late; words = [] }
    ∷ record { text = bytes "/sample?count=3"; answer = Ok 3; words = c1 }
    ∷ record { text = bytes "/sample?count=4"; answer = Err TooMany; words = [] }
    ∷ record { text = bytes "/sample?count=0"; answer = Err InvalidRequest; words = [] }
    ∷ record { text = bytes "/current?at=1"; answer = Err Late; words = [] }
    ∷ record { text = bytes "/sample?from=2&count=1&path=//Device//DataItem[@type=\"AVAILABILITY\"]"; answer = Ok 0; words = 0 ∷ 2 ∷ 4 ∷ 3 ∷ [] }
    ∷ record { text = bytes "/assets"; answer = Ok 0; words = 0 ∷ 0 ∷ 1 ∷ 0 ∷ [] }
    ∷ []

-- 64 reply words filled beforehand with a word that no reply contains: words beyond the reply's stay
abbrev pub filled : List ℕ
filled = replicate 64 18446744073709551615

abbrev pub expected : Case → Replied
expected c = record { answer = c.answer; reply = over c.words filled }
