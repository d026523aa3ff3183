-- The bytes are tested first, and then the cells.
use Rattle.std.proofs.Common.{◌≡◌, ◌∙◌, ◌≤◌, ◌≢◌, length, false, arith, rules, tests}
use Rattle.std.specs.List.{list_all}
use Rattle.std.proofs.lemmas.Iterator.{YieldsList-from_slice}
use Rattle.std.proofs.lemmas.Iterator.Search.{all_from_yields_List}
use Rattle.names.specs.Cells.{zeros_last}
use Rattle.names.proofs.Laws.{no_names, no-bytes, cells-decide}
use Rattle.names.proofs.names_ok.Goals.{then-is_empty, else-is_empty, then-contains, else-contains}
use Rattle.names.proofs.names_ok.Goals as goal

pub returns-then-cell_bytes : goal.returns-then-cell_bytes
returns-then-cell_bytes c =
    let all : c.all.result ≡ list_all zeros_last c.as_chunks.result.0.now =
    all_from_yields_List zeros_last _ _ c.all.result c.all.ensures.ran (YieldsList-from_slice _ cc)
    (λ x b q k. search (rules, tests)) in
    elim c.if-contains.branch [
      | then-contains w ↦ elim c.if-is_empty.branch [
        | then-is_empty v ↦ let few : (1 ≤ length c.as_chunks.result.0.now) × (length c.as_chunks.result.0.now ≤ 256) = search rules in
            let none : length c.as_chunks.result.1.now ≡ 0 = search rules in
            all ∙ rw (c.as_chunks.ensures.front)
            (cells-decide _ (omega arith) (omega arith) (omega arith) (search rules))
        | else-is_empty v ↦ absurd (cc)
      ]
      | else-contains w ↦ absurd (cc)
    ]

pub returns-else-cell_bytes : goal.returns-else-cell_bytes
returns-else-cell_bytes c = elim c.if-contains.branch [
  | then-contains w ↦ c.if-cell_bytes.false ∙ no-bytes _ (search rules)
  | else-contains w ↦ elim c.if-is_empty.branch [
    | then-is_empty v ↦ let f : c.if-contains.value ≡ false = cc in f ∙ no_names _ (λ h. search rules)
    | else-is_empty v ↦ let f : c.if-contains.value ≡ false = cc in
        let n : length c.as_chunks.result.1.now ≢ 0 = search rules in f ∙ no_names _ (λ h. omega arith)
  ]
]
