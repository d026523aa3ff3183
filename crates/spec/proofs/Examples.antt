-- Worked examples, by computation, of the terms that stores and reference model share or that a table of entries is
-- made of: packed words, which values an item takes, Same, models and names, paths, texts and their refusals, a
-- condition item's entries, assets and replies. No theorem between the two layers sees these, so each has the
-- document's own figures, at its bounds.
use Prim.Native.Nat.{ℕ, zero, suc, ◌+◌, ◌*◌}
use mathlib.Core.Path.{◌≡◌, refl}
use mathlib.Core.Bool.{Bool, true, false}
use mathlib.Core.List.{List, [], ◌∷◌, ◌++◌, map}
use lib.IntN.{pos, negsuc}
use lib.ListN.{length, replicate}
use Rattle.spec.specs.Bytes.{bytes, pad}
use Rattle.spec.specs.Value.{takes, pack, repeats, decode}
use Rattle.spec.specs.Words.{every}
use Rattle.spec.specs.Model.{name_cell, cell_ok, names_ok, model_ok}
use Rattle.spec.specs.Text.{Reading, read_text}
use Rattle.spec.specs.Text.Request.{sample, current, current_at, assets, all_assets}
use Rattle.spec.specs.Text.Reading.{unread, asked}
use Rattle.spec.specs.Path.{select}
use Rattle.spec.specs.Entries.{step, repeats_in, crowded, form_ok}
use Rattle.spec.specs.Assets.{id_ok, length_ok, cell_for, store_cells}
use Rattle.spec.specs.Reply.{observation_words, asset_words}
use Rattle.spec.specs.Answers.{refusal_number, observe_word, store_word}
use Rattle.spec.specs.declared.Level.TheVariants.{Normal, Warning, Fault}
use Rattle.spec.specs.declared.Value.{Value}
use Rattle.spec.specs.declared.Value.TheVariants.{Unavailable, Sample, Event, Condition}
use Rattle.std.specs.Prelude.{Ok, Err, Option, Some, None}
use Rattle.spec.specs.declared.Noted.TheVariants.{Recorded, Same}
use Rattle.spec.specs.declared.Refusal.TheVariants.{Model, Store, Size, Item, Kind, Spent, InvalidUri}
use Rattle.spec.specs.declared.Refusal.TheVariants.{InvalidRequest, Unsupported, TooMany, InvalidXpath}
use Rattle.spec.specs.declared.Refusal.TheVariants.{AssetNotFound, Asset, Space, Batch, Late, Early, Crowded}
use Rattle.spec.proofs.Opened.{opened}

-- names, a cell each
abbrev pub cells_of : List (List ℕ) → List ℕ
cells_of [] = []
cells_of (s ∷ ss) = pad 24 s ++ cells_of ss

-- ---- values

-- packed words of each kind: item 5 Unavailable, item 1 the samples 5000 and -1, item 3 the event 7, item 2 the
-- conditions
pub packed-words :
    (pack 5 Unavailable ∷ pack 1 (Sample (pos 5000)) ∷ pack 1 (Sample (negsuc 0)) ∷ pack 3 (Event 7)
    ∷ pack 2 (Condition Normal 0) ∷ pack 2 (Condition Warning 5) ∷ pack 2 (Condition Fault 16777215) ∷ [])
    ≡ 5497558138880 ∷ 1103806600072 ∷ 1108101562367 ∷ 3307124817927
    ∷ 2211908157440 ∷ 2211924934661 ∷ 2211958489087 ∷ []
packed-words = refl

-- Unavailable, a sample, an event; Normal 0 and 1; Normal, Warning and Fault of 2^24 - 1, and of 2^24
abbrev values : List Value
values =
    Unavailable ∷ Sample (pos 1) ∷ Event 1 ∷ Condition Normal 0 ∷ Condition Normal 1
    ∷ Condition Normal 16777215 ∷ Condition Warning 16777215 ∷ Condition Fault 16777215
    ∷ Condition Normal 16777216 ∷ Condition Warning 16777216 ∷ Condition Fault 16777216 ∷ []

-- each refusal's number; 12 is none's
pub refusal-numbers :
    map refusal_number
    (Model ∷ Store ∷ Size ∷ Item ∷ Kind ∷ Spent ∷ InvalidUri ∷ InvalidRequest ∷ Unsupported ∷ TooMany ∷ InvalidXpath
    ∷ AssetNotFound ∷ Asset ∷ Space ∷ Batch ∷ Late ∷ Early ∷ Crowded ∷ [])
    ≡ 1 ∷ 2 ∷ 3 ∷ 4 ∷ 5 ∷ 6 ∷ 7 ∷ 8 ∷ 9 ∷ 10 ∷ 11 ∷ 13 ∷ 14 ∷ 15 ∷ 16 ∷ 17 ∷ 18 ∷ 19 ∷ []
refusal-numbers = refl

-- answers as words: number, Same, spent; cell, asset
pub answer-words :
    (observe_word (Ok (Recorded 3)) ∷ observe_word (Ok Same) ∷ observe_word (Err Spent)
    ∷ store_word (Ok 2) ∷ store_word (Err Asset) ∷ [])
    ≡ 3 ∷ 0 ∷ 9223372036854775814 ∷ 2 ∷ 9223372036854775822 ∷ []
answer-words = refl

-- by category: sample, event, condition, asset change, discrete event
pub values-taken :
    (map (takes 0) values ∷ map (takes 1) values ∷ map (takes 2) values ∷ map (takes 3) values ∷ map (takes 4) values
    ∷ [])
    ≡ (true ∷ true ∷ false ∷ replicate 8 false)
    ∷ (true ∷ false ∷ true ∷ replicate 8 false)
    ∷ (true ∷ false ∷ false ∷ true ∷ true ∷ true ∷ true ∷ true ∷ false ∷ false ∷ false ∷ [])
    ∷ replicate 11 false
    ∷ (true ∷ false ∷ true ∷ replicate 8 false) ∷ []
values-taken = refl

-- a value's word back: the lowest and the highest of each kind
pub words-decoded :
    map decode
    (0 ∷ 4294967296 ∷ 6442450943 ∷ 6442450944 ∷ 8589934591 ∷ 8589934592 ∷ 12884901887
    ∷ 12884901888 ∷ 12884901889 ∷ 12901679103 ∷ 12901679104 ∷ 12918456319 ∷ 12918456320 ∷ 12935233535 ∷ [])
    ≡ Unavailable ∷ Sample (pos 0) ∷ Sample (pos 2147483647) ∷ Sample (negsuc 2147483647) ∷ Sample (negsuc 0)
    ∷ Event 0 ∷ Event 4294967295
    ∷ Condition Normal 0 ∷ Condition Normal 1 ∷ Condition Normal 16777215
    ∷ Condition Warning 0 ∷ Condition Warning 16777215 ∷ Condition Fault 0 ∷ Condition Fault 16777215 ∷ []
unfolding opened
words-decoded = refl

-- the words beside them are no value's, and no item takes what they give
pub words-refused :
    map (λ w. map (λ c. takes c (decode w)) (0 ∷ 1 ∷ 2 ∷ 3 ∷ 4 ∷ []))
    (1 ∷ 4294967295 ∷ 12935233536 ∷ 17179869183 ∷ 17179869184 ∷ 18446744073709551615 ∷ [])
    ≡ replicate 6 (replicate 5 false)
unfolding opened
words-refused = refl

-- Same by the words, of each category but conditions': equal; another sample; an event with the sample's low word
-- (kinds differ); Unavailable beside Unavailable. A discrete item never says it
pub same-words :
    map (λ c. repeats c 4294967297 4294967297 ∷ repeats c 4294967297 4294967298 ∷ repeats c 4294967297 8589934593
    ∷ repeats c 8589934593 8589934593 ∷ repeats c 0 0 ∷ [])
    (0 ∷ 1 ∷ 4 ∷ [])
    ≡ (true ∷ false ∷ false ∷ true ∷ true ∷ [])
    ∷ (true ∷ false ∷ false ∷ true ∷ true ∷ [])
    ∷ replicate 5 false ∷ []
unfolding opened
same-words = refl

-- ---- models and names

-- Device over Axes and Controller, Axes over Linear; an event, two positions and a load
abbrev tree_names : List ℕ
tree_names =
    cells_of
    (bytes "Device" ∷ bytes "Axes" ∷ bytes "Linear" ∷ bytes "Controller"
    ∷ bytes "AVAILABILITY" ∷ bytes "POSITION" ∷ bytes "LOAD" ∷ [])

abbrev tree : List ℕ
tree = 4 ∷ 4 ∷ 0 ∷ 1 ∷ 258 ∷ 3 ∷ 65540 ∷ 517 ∷ 261 ∷ 518 ∷ []

-- each of the models, with one name, is answered so; and each of the names
abbrev Checks : Bool → List (List ℕ) → Type 0
Checks r ws = map (λ w. model_ok w (cells_of (bytes "A" ∷ []))) ws ≡ replicate (length ws) r

abbrev Names : Bool → List (List ℕ) → Type 0
Names r ss = map names_ok ss ≡ replicate (length ss) r

-- the smallest, one with an asset change item, two discrete items beside one, the largest; sizes of 0 and 65, other
-- lengths; component 0 with parent 1, a component its own parent, parents of 256 and 2^24 - 1, a name that isn't
-- there; categories 5 and 256, a component and a name that aren't there, two asset change items, with a discrete item
-- between them too
pub models-checked :
    Checks true ((1 ∷ 1 ∷ 0 ∷ 0 ∷ []) ∷ (1 ∷ 2 ∷ 0 ∷ 0 ∷ 196608 ∷ []) ∷ (1 ∷ 3 ∷ 0 ∷ 262144 ∷ 196608 ∷ 262144 ∷ [])
    ∷ (64 ∷ 64 ∷ replicate 128 0) ∷ [])
    × Checks false
    ([] ∷ (1 ∷ []) ∷ (0 ∷ 1 ∷ 0 ∷ []) ∷ (1 ∷ 0 ∷ 0 ∷ []) ∷ (65 ∷ 64 ∷ replicate 129 0) ∷ (64 ∷ 65 ∷ replicate 129 0)
    ∷ (1 ∷ 1 ∷ 0 ∷ []) ∷ (1 ∷ 1 ∷ 0 ∷ 0 ∷ 0 ∷ []) ∷ [])
    × Checks false
    ((1 ∷ 1 ∷ 256 ∷ 0 ∷ []) ∷ (2 ∷ 1 ∷ 0 ∷ 256 ∷ 0 ∷ []) ∷ (1 ∷ 1 ∷ 65536 ∷ 0 ∷ []) ∷ (2 ∷ 1 ∷ 0 ∷ 65536 ∷ 0 ∷ [])
    ∷ (2 ∷ 1 ∷ 0 ∷ 4294967040 ∷ 0 ∷ []) ∷ (1 ∷ 1 ∷ 1 ∷ 0 ∷ []) ∷ [])
    × Checks false
    ((1 ∷ 1 ∷ 0 ∷ 327680 ∷ []) ∷ (1 ∷ 1 ∷ 0 ∷ 16777216 ∷ []) ∷ (1 ∷ 1 ∷ 0 ∷ 256 ∷ []) ∷ (1 ∷ 1 ∷ 0 ∷ 1 ∷ [])
    ∷ (1 ∷ 2 ∷ 0 ∷ 196608 ∷ 196608 ∷ []) ∷ (1 ∷ 3 ∷ 0 ∷ 196608 ∷ 262144 ∷ 196608 ∷ []) ∷ [])
unfolding opened
models-checked = (refl, refl, refl, refl)

-- one name, two alike, 24 bytes, each kind of byte; no bytes, 23 and 25, a spare cell of zeros, a byte behind a
-- zero, a space
pub names-checked :
    Names true
    (cells_of (bytes "A" ∷ []) ∷ cells_of (bytes "A" ∷ bytes "A" ∷ []) ∷ replicate 24 65
    ∷ cells_of (bytes "_azAZ09" ∷ []) ∷ [])
    × Names false
    ([] ∷ replicate 23 65 ∷ replicate 25 65 ∷ cells_of (bytes "A" ∷ [] ∷ []) ∷ pad 24 (65 ∷ 0 ∷ 65 ∷ [])
    ∷ cells_of (bytes "A B" ∷ []) ∷ [])
unfolding opened
names-checked = (refl, refl)

-- the bytes beside digits, letters and '_'
pub name-bytes :
    Names false (map (λ x. pad 24 (x ∷ [])) (47 ∷ 58 ∷ 64 ∷ 91 ∷ 94 ∷ 96 ∷ 123 ∷ []))
unfolding opened
name-bytes = refl

-- 256 cells are as right as each of them is; 257 are not
pub names-counted :
    ((names : List ℕ) → length names ≡ 6144 → names_ok names ≡ every (λ k. cell_ok (name_cell names k)) 256 0)
    × ((names : List ℕ) → length names ≡ 6168 → names_ok names ≡ false)
unfolding names_ok
names-counted = (λ names h. rw h, λ names h. rw h)

-- ---- paths

-- each of the paths is answered so
abbrev Selects : Option ℕ → List (List ℕ) → Type 0
Selects s ps = map (λ p. select tree tree_names (Some p)) ps ≡ replicate (length ps) s

-- no path; //T of the root, of a part, of a leaf, of a component without items; items of a type; no component's type
-- or no item of that type; other forms
pub paths-select :
    (select tree tree_names None ≡ Some 15)
    × Selects (Some 15) (bytes "//Device" ∷ [])
    × Selects (Some 14) (bytes "//Axes" ∷ [])
    × Selects (Some 10) (bytes "//Linear" ∷ [])
    × Selects (Some 0) (bytes "//Controller" ∷ [])
    × Selects (Some 6) (bytes "//Axes//DataItem[@type=\"POSITION\"]" ∷ [])
    × Selects (Some 8) (bytes "//Linear//DataItem[@type=\"LOAD\"]" ∷ [])
    × Selects None
    (bytes "//Linear//DataItem[@type=\"AVAILABILITY\"]"
    ∷ bytes "//Spindle//DataItem[@type=\"LOAD\"]"
    ∷ bytes "//axes" ∷ bytes "//Axe" ∷ bytes "//Axess" ∷ bytes "//LOAD" ∷ [])
    × Selects None
    ([] ∷ bytes "//" ∷ bytes "/Axes" ∷ bytes "///Axes" ∷ bytes "//Axes/" ∷ bytes "//Device//Axes"
    ∷ bytes "//DataItem[@type=\"LOAD\"]" ∷ bytes "////DataItem[@type=\"LOAD\"]"
    ∷ bytes "//Axes//DataItem[@type=\"LOAD\"" ∷ bytes "//Axes//DataItem[@type=\"]"
    ∷ bytes "//Axes//DataItem[@type=\"\"]" ∷ bytes "//Axes//DataItem[@type=\"LOAD\"]/"
    ∷ bytes "//Axes//DataItem[@type=%22LOAD%22]" ∷ [])
unfolding opened
paths-select = (refl, refl, refl, refl, refl, refl, refl, refl, refl)

-- a name that fills its cell is found by its 24 bytes, and not by 23 or 25
pub full-name :
    map (λ n. select (1 ∷ 1 ∷ 0 ∷ 0 ∷ []) (replicate 24 65) (Some (47 ∷ 47 ∷ replicate n 65))) (23 ∷ 24 ∷ 25 ∷ [])
    ≡ None ∷ Some 1 ∷ None ∷ []
unfolding opened
full-name = refl

-- n words, each a component below the one before, named 1 from the last on
abbrev chain : ℕ → ℕ → List ℕ
chain zero i = []
chain (suc zero) i = (i * 256 + 1) ∷ []
chain (suc (suc n)) i = (i * 256) ∷ chain (suc n) (suc i)

-- 64 components, each below the one before, and 64 items, the last of the last component: all 64 bits, and bit 63
pub largest-selected :
    map (select (64 ∷ 64 ∷ 0 ∷ (chain 63 0 ++ (replicate 63 0 ++ (16128 ∷ []))))
    (cells_of (bytes "A" ∷ bytes "B" ∷ [])))
    (None ∷ Some (bytes "//A") ∷ Some (bytes "//B") ∷ [])
    ≡ Some 18446744073709551615 ∷ Some 18446744073709551615 ∷ Some 9223372036854775808 ∷ []
unfolding opened
largest-selected = refl

-- ---- texts

-- the refusal's number, 0 for a request
abbrev number_read : Reading → ℕ
number_read (unread r) = refusal_number r
number_read (asked q) = 0

-- each of the texts gives this number
abbrev Gives : ℕ → List (List ℕ) → Type 0
Gives n ts = map (λ t. number_read (read_text t)) ts ≡ replicate (length ts) n

-- 7: length, byte or first '/'; 8: the word; 8: parts; 8: numbers; 8: ids; 9; and requests
pub texts-read :
    Gives 7 ([] ∷ bytes "sample" ∷ bytes "/sample x" ∷ (47 ∷ 127 ∷ []) ∷ (47 ∷ replicate 256 97) ∷ [])
    × Gives 8
    ((47 ∷ replicate 255 97) ∷ bytes "/" ∷ bytes "//sample" ∷ bytes "/Sample" ∷ bytes "/sample/" ∷ bytes "/asset"
    ∷ bytes "/assets/" ∷ bytes "/assets?x" ∷ [])
    × Gives 8
    (bytes "/sample?" ∷ bytes "/sample?from=1&" ∷ bytes "/sample?&from=1" ∷ bytes "/sample?from"
    ∷ bytes "/sample?from=1&from=1" ∷ bytes "/sample?From=1" ∷ bytes "/sample?at=1" ∷ bytes "/current?from=1"
    ∷ bytes "/current?count=1" ∷ bytes "/current?interval=5&at=3" ∷ [])
    × Gives 8
    (bytes "/sample?from=" ∷ bytes "/sample?from=-1" ∷ bytes "/sample?from=00000000000000000001"
    ∷ bytes "/sample?count=00000000000000000001" ∷ bytes "/current?at=00000000000000000001"
    ∷ bytes "/sample?from=9223372036854775808" ∷ bytes "/sample?count=9223372036854775808"
    ∷ bytes "/current?at=9223372036854775808" ∷ bytes "/sample?count=000" ∷ bytes "/sample?interval=x"
    ∷ bytes "/current?interval=x" ∷ bytes "/current?at=x" ∷ [])
    × Gives 8
    (bytes "/asset/" ∷ bytes "/asset/a;" ∷ bytes "/asset/;a" ∷ bytes "/asset/a;;b" ∷ bytes "/asset/a/b"
    ∷ bytes "/asset/a?b" ∷ [])
    × Gives 9 (bytes "/probe" ∷ bytes "/probe/x?y" ∷ bytes "/sample?interval=5" ∷ bytes "/current?interval=5" ∷ [])
    × Gives 0
    (bytes "/sample" ∷ bytes "/sample?path=" ∷ bytes "/sample?path=a=b?c/d" ∷ bytes "/sample?count=1&from=000"
    ∷ bytes "/sample?from=0000000000000000001" ∷ bytes "/sample?count=0000000000000000001"
    ∷ bytes "/current?at=0000000000000000001" ∷ bytes "/sample?from=9223372036854775807"
    ∷ bytes "/sample?count=9223372036854775807" ∷ bytes "/current?at=9223372036854775807" ∷ bytes "/current?at=0"
    ∷ bytes "/asset/a;b;a" ∷ bytes "/asset/!~" ∷ (bytes "/asset/" ++ replicate 249 97) ∷ bytes "/assets" ∷ [])
unfolding opened
texts-read = (refl, refl, refl, refl, refl, refl, refl)

-- the requests: parts in any order, a name up to the first '=', absent numbers 0, ids in the text's order
pub texts-asked :
    map read_text
    (bytes "/sample" ∷ bytes "/sample?count=9&path=//A&from=7" ∷ bytes "/current" ∷ bytes "/current?path=x=y"
    ∷ bytes "/current?at=8&path=z" ∷ bytes "/asset/a;bc;a" ∷ bytes "/assets" ∷ [])
    ≡ asked (sample None 0 0) ∷ asked (sample (Some (bytes "//A")) 7 9) ∷ asked (current None)
    ∷ asked (current (Some (bytes "x=y"))) ∷ asked (current_at (Some (bytes "z")) 8)
    ∷ asked (assets (bytes "a" ∷ bytes "bc" ∷ bytes "a" ∷ [])) ∷ asked all_assets ∷ []
unfolding opened
texts-asked = refl

-- ---- a condition item's entries: document 02, Req 05

-- words of item 0: Normal, Warning and Fault of code c
abbrev pub z : ℕ → ℕ
z c = 12884901888 + c

abbrev pub w : ℕ → ℕ
w c = 12901679104 + c

abbrev pub f : ℕ → ℕ
f c = 12918456320 + c

-- entries of these words, numbered from n on
abbrev entries_from : ℕ → List ℕ → List (List ℕ)
entries_from n [] = []
entries_from n (x ∷ xs) = (n ∷ 10 * n ∷ x ∷ []) ∷ entries_from (suc n) xs

-- number 20 with the word x; and behind entries of these words, numbered from 2 on
abbrev twenty : ℕ → List ℕ
twenty x = 20 ∷ 200 ∷ x ∷ []

abbrev behind : List ℕ → ℕ → List (List ℕ)
behind ws x = step 0 (entries_from 2 ws) (twenty x)

-- Warnings of the codes 1 to 8
abbrev eight : List ℕ
eight = w 1 ∷ w 2 ∷ w 3 ∷ w 4 ∷ w 5 ∷ w 6 ∷ w 7 ∷ w 8 ∷ []

-- a code more goes to the end, a level takes its code's place, code 0 too; a first one ends an Unavailable or a Normal
pub codes-raised :
    (behind (w 1 ∷ w 2 ∷ []) (f 3) ≡ entries_from 2 (w 1 ∷ w 2 ∷ []) ++ (twenty (f 3) ∷ []))
    × (behind (w 1 ∷ w 2 ∷ []) (f 1) ≡ twenty (f 1) ∷ (3 ∷ 30 ∷ w 2 ∷ []) ∷ [])
    × (behind (w 0 ∷ w 2 ∷ []) (f 0) ≡ twenty (f 0) ∷ (3 ∷ 30 ∷ w 2 ∷ []) ∷ [])
    × (behind (0 ∷ []) (w 1) ≡ twenty (w 1) ∷ [])
    × (behind (z 7 ∷ []) (w 1) ≡ twenty (w 1) ∷ [])
    × (behind [] (w 1) ≡ twenty (w 1) ∷ [])
unfolding opened
codes-raised = (refl, refl, refl, refl, refl, refl)

-- a Normal takes out its code alone, and stands for the last; Normal 0 and Unavailable take out all
pub codes-cleared :
    (behind (w 1 ∷ f 2 ∷ w 3 ∷ []) (z 2) ≡ (2 ∷ 20 ∷ w 1 ∷ []) ∷ (4 ∷ 40 ∷ w 3 ∷ []) ∷ [])
    × (behind (f 2 ∷ []) (z 2) ≡ twenty (z 2) ∷ [])
    × (behind (w 0 ∷ w 1 ∷ []) (z 0) ≡ twenty (z 0) ∷ [])
    × (behind (w 1 ∷ f 2 ∷ []) 0 ≡ twenty 0 ∷ [])
    × (behind (0 ∷ []) (z 0) ≡ twenty (z 0) ∷ [])
unfolding opened
codes-cleared = (refl, refl, refl, refl, refl)

-- nine come of eight and a ninth code, and stay nine, whatever follows; of eight and one of theirs come eight
pub nine-entries :
    (behind eight (w 9) ≡ entries_from 2 eight ++ (twenty (w 9) ∷ []))
    × (map (behind (eight ++ (w 9 ∷ []))) (0 ∷ z 0 ∷ z 1 ∷ w 9 ∷ []) ≡ replicate 4 (entries_from 2 (eight ++ (w 9 ∷ []))))
    × (map length (behind eight (f 8) ∷ behind eight (z 8) ∷ behind eight 0 ∷ []) ≡ 8 ∷ 7 ∷ 1 ∷ [])
unfolding opened
nine-entries = (refl, refl, refl)

-- Same: a level again for its code, a Normal that clears nothing, Unavailable again; not Normal 0 after Unavailable
pub same_entries :
    (map (repeats_in 0 (entries_from 2 (w 1 ∷ f 2 ∷ []))) (w 1 ∷ f 1 ∷ w 2 ∷ f 2 ∷ z 3 ∷ z 1 ∷ z 0 ∷ 0 ∷ w 3 ∷ [])
    ≡ true ∷ false ∷ false ∷ true ∷ true ∷ false ∷ false ∷ false ∷ false ∷ [])
    × (map (repeats_in 0 (entries_from 2 (0 ∷ []))) (0 ∷ z 0 ∷ z 7 ∷ w 0 ∷ []) ≡ true ∷ false ∷ true ∷ false ∷ [])
    × (map (repeats_in 0 (entries_from 2 (z 7 ∷ []))) (0 ∷ z 0 ∷ z 7 ∷ w 7 ∷ []) ≡ false ∷ true ∷ true ∷ false ∷ [])
unfolding opened
same_entries = (refl, refl, refl)

-- 19: a ninth code, Warning or Fault; seven leave room, and a code of the eight, a Normal or Unavailable ask for none
pub ninth-crowds :
    (map (crowded 0 (entries_from 2 eight)) (w 9 ∷ f 9 ∷ w 8 ∷ f 1 ∷ z 9 ∷ z 0 ∷ 0 ∷ [])
    ≡ true ∷ true ∷ false ∷ false ∷ false ∷ false ∷ false ∷ [])
    × (crowded 0 (entries_from 2 (w 1 ∷ w 2 ∷ w 3 ∷ w 4 ∷ w 5 ∷ w 6 ∷ w 7 ∷ [])) (w 9) ≡ false)
unfolding opened
ninth-crowds = (refl, refl)

-- the written form of eight rows, with none and with one asked for: no entry, one of any word, two codes; two of one
-- code, two of which one isn't active, another item's among two, a row behind an unused one, a time behind the last
pub forms-tested :
    map (λ rs. form_ok 0 0 rs ∷ form_ok 0 1 rs ∷ [])
    (replicate 8 (0 ∷ 0 ∷ 0 ∷ [])
    ∷ (entries_from 2 (0 ∷ []) ++ replicate 7 (0 ∷ 0 ∷ 0 ∷ []))
    ∷ (entries_from 2 (w 1 ∷ f 2 ∷ []) ++ replicate 6 (0 ∷ 0 ∷ 0 ∷ []))
    ∷ (entries_from 2 (w 1 ∷ f 1 ∷ []) ++ replicate 6 (0 ∷ 0 ∷ 0 ∷ []))
    ∷ (entries_from 2 (w 1 ∷ z 2 ∷ []) ++ replicate 6 (0 ∷ 0 ∷ 0 ∷ []))
    ∷ (entries_from 2 (w 1 ∷ (1099511627776 + f 2) ∷ []) ++ replicate 6 (0 ∷ 0 ∷ 0 ∷ []))
    ∷ ((0 ∷ 0 ∷ 0 ∷ []) ∷ (entries_from 2 (w 1 ∷ []) ++ replicate 6 (0 ∷ 0 ∷ 0 ∷ [])))
    ∷ (entries_from 2 (w 1 ∷ []) ++ ((0 ∷ 7 ∷ 0 ∷ []) ∷ replicate 6 (0 ∷ 0 ∷ 0 ∷ []))) ∷ [])
    ≡ (true ∷ false ∷ []) ∷ (true ∷ true ∷ []) ∷ (true ∷ true ∷ [])
    ∷ replicate 5 (false ∷ false ∷ [])
unfolding opened
forms-tested = refl

-- ---- assets and replies

-- 1 to 32 bytes of an id, 1 to 510 of a body
pub asset-bounds :
    (map (λ n. id_ok (replicate n 97)) (0 ∷ 1 ∷ 32 ∷ 33 ∷ []) ≡ false ∷ true ∷ true ∷ false ∷ [])
    × (map length_ok (0 ∷ 1 ∷ 510 ∷ 511 ∷ []) ≡ false ∷ true ∷ true ∷ false ∷ [])
unfolding opened
asset-bounds = (refl, refl)

-- a store of A 2 with a and b: each of a, b and c would be the last, cell 1; c takes the room of a, the oldest, and b
-- moves down
pub asset-places :
    (let bs = store_cells (bytes "b") (8 ∷ []) (store_cells (bytes "a") (7 ∷ []) (2 ∷ 0 ∷ replicate 1088 0)) in
    (map (λ id. cell_for id bs) (bytes "a" ∷ bytes "b" ∷ bytes "c" ∷ []) ≡ 1 ∷ 1 ∷ 1 ∷ [])
    × (store_cells (bytes "c") (9 ∷ []) bs
    ≡ 2 ∷ 2
    ∷ (pad 32 (bytes "b") ++ (pad 32 (bytes "c") ++ (pad 512 (0 ∷ 1 ∷ 8 ∷ []) ++ pad 512 (0 ∷ 1 ∷ 9 ∷ []))))))
unfolding opened
asset-places = (refl, refl)

-- two rows: the sizes, then the numbers and the pairs of time and word; of assets the cells, then the lengths
pub reply-words :
    (observation_words 2 4 5 ((3 ∷ 30 ∷ 33 ∷ []) ∷ (4 ∷ 40 ∷ 44 ∷ []) ∷ [])
    ≡ 2 ∷ 2 ∷ 4 ∷ 5 ∷ 3 ∷ 4 ∷ 30 ∷ 33 ∷ 40 ∷ 44 ∷ [])
    × (asset_words 3 8 ((1 ∷ 510 ∷ []) ∷ (0 ∷ 7 ∷ []) ∷ []) ≡ 2 ∷ 3 ∷ 8 ∷ 0 ∷ 1 ∷ 0 ∷ 510 ∷ 7 ∷ [])
unfolding opened
reply-words = (refl, refl)
