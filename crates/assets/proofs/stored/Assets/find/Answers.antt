-- The library's position, of the cells compared with the id's own.
use Rattle.std.proofs.Common.{refl, rules, tests, take, drop, replicate, length, ◌++◌, ◌≡◌, ◌∙◌, arith}
use Rattle.std.proofs.lemmas.Iterator.{YieldsList-from_slice}
use Rattle.std.proofs.lemmas.Iterator.Search.{position_from_yields_List}
use Rattle.spec.proofs.Words.{told}
use Rattle.spec.proofs.Found.{found-none}
use lib.Dec.{eqb}
use Rattle.std.specs.Cmp.Lexicographic.{pointwise}
use Rattle.spec.specs.Assets.{id_bytes}
use Rattle.assets.proofs.Laws.{key-is, found-cell, no-id}
use Rattle.assets.proofs.stored.Assets.find.Goals as goal

pub returns-then-not-id_ok-clause-value : goal.returns-then-not-id_ok-clause-value
returns-then-not-id_ok-clause-value c =
    let e = no-id c.args.self.now c.args.id.now _ refl (told c.id_ok.ensures c.if-not-id_ok.true) in
    found-none _ (omega arith)

pub returns-clause-value : goal.returns-clause-value
returns-clause-value c =
    let bs = c.self.inside.bytes.now in
    let ids = c.as_chunks.result.0.now in
    let key = c.copy_from_slice.new.self ++ drop (length c.args.id.now) (replicate id_bytes 0) in
    let p =
    position_from_yields_List {all = take c.from-used.result ids} (λ x. pointwise eqb x key) _ _ c.position.result
    c.position.ensures.ran (YieldsList-from_slice _ c.iter.ensures.rest) (λ x b q k. search (rules, tests)) in
    let f =
    found-cell bs c.args.id.now key _ ids _ c.position.result (told c.id_ok.ensures c.if-not-id_ok.false)
    (key-is _ _ c.copy_from_slice.ensures.after) refl c.as_chunks.ensures.front c.as_chunks.ensures.front_len
    (rw c.from-used.ensures) c.self.invariant p in
    let m : c.map.result ≡ c.position.result = search rules in
    m ∙ rw (← c.self.view_is) f
