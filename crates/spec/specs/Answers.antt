-- The refusals' numbers, and each answer as number, count and word: document 01, "Reply words" and "Refusal table"; from
-- 16 on document 02's, Req 01 (16), Req 04 (17 and 18 in the place of 12), Req 05 (19) and Req 06 (20 and 21).
use Rattle.std.specs.Prelude.{ℕ, ◌+◌, ◌^◌, Result, Ok, Err}
use Rattle.spec.specs.declared.Refusal.{Refusal}
use Rattle.spec.specs.declared.Refusal.TheVariants.{Model, Store, Size, Item, Kind, Spent, InvalidUri}
use Rattle.spec.specs.declared.Refusal.TheVariants.{InvalidRequest, Unsupported, TooMany, InvalidXpath}
use Rattle.spec.specs.declared.Refusal.TheVariants.{AssetNotFound, Asset, Space, Batch, Late, Early, Crowded}
use Rattle.spec.specs.declared.Refusal.TheVariants.{Line, Stamp}
use Rattle.spec.specs.declared.Noted.{Noted}
use Rattle.spec.specs.declared.Noted.TheVariants.{Recorded, Same}

-- start, request, observe-batch, store-asset and what is written: a count or a cell, or the refusal
abbrev pub Answer : Type 0
Answer = Result ℕ Refusal

abbrev pub ObserveAnswer : Type 0
ObserveAnswer = Result Noted Refusal

-- a check: nothing against it, or the refusal
abbrev pub Verdict : Type 0
Verdict = Result (Unit {0}) Refusal

abbrev pub refusal_number : Refusal → ℕ
refusal_number Model = 1
refusal_number Store = 2
refusal_number Size = 3
refusal_number Item = 4
refusal_number Kind = 5
refusal_number Spent = 6
refusal_number InvalidUri = 7
refusal_number InvalidRequest = 8
refusal_number Unsupported = 9
refusal_number TooMany = 10
refusal_number InvalidXpath = 11
refusal_number AssetNotFound = 13
refusal_number Asset = 14
refusal_number Space = 15
refusal_number Batch = 16
refusal_number Late = 17
refusal_number Early = 18
refusal_number Crowded = 19
refusal_number Line = 20
refusal_number Stamp = 21

-- start, request and observe-batch: 0 and k, or the refusal's number and 0
abbrev pub answer_number : Answer → ℕ
answer_number (Ok k) = 0
answer_number (Err r) = refusal_number r

abbrev pub answer_count : Answer → ℕ
answer_count (Ok k) = k
answer_count (Err r) = 0

-- a refusal as a word
abbrev pub refusal_word : Refusal → ℕ
refusal_word r = 2 ^ 63 + refusal_number r

-- observe: the number, 0 for Same
abbrev pub observe_word : ObserveAnswer → ℕ
observe_word (Ok (Recorded n)) = n
observe_word (Ok Same) = 0
observe_word (Err r) = refusal_word r

-- store-asset: the cell
abbrev pub store_word : Answer → ℕ
store_word (Ok c) = c
store_word (Err r) = refusal_word r
