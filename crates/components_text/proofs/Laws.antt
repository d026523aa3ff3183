-- Starts joined from their parts, and components one after the other.
use Prim.Native.Nat.{ℕ, suc, ◌+◌, ◌≤◌}
use mathlib.Core.Path.{◌≡◌, sym, ◌∙◌}
use mathlib.Core.Bool.{Bool, true, false}
use mathlib.Core.List.{List, [], ◌∷◌, ◌++◌, append_assoc}
use native.Mathlib.Omega.{arith}
use lib.ListN.{length}
use Rattle.spec.specs.Bytes.{bytes, decimal}
use Rattle.spec.specs.Model.{components}
use Rattle.streams.specs.Streams.{Row, each, having, row_component, groups, tag, component_type, device_tag, component_tag}
use Rattle.streams.specs.Streams.{group_lines, component_lines, components_lines, ended}
use Rattle.streams.proofs.Pieces.{ended-append, each-suc}
use Rattle.writer.specs.Puts.{Put, stop}
use Rattle.writer.specs.declared.Output.{Output}
use Rattle.writer.proofs.Laws.{put-none, put-append}
use Rattle.row_groups.specs.Groups.{kept, any_kept}
use Rattle.row_groups.proofs.Laws.{between_none, between_put, component-filled}

-- ---- starts

module _ (model names t : List ℕ) {o o₁ o₂ : Output} where
  pub device-put : {o₃ : Output} → t ≡ component_type model names 0
      → Put o (bytes "<DeviceStream name=\"" ++ (t ++ 34 ∷ [])) o₁
      → Put o₁ (bytes " uuid=\"" ++ (t ++ 34 ∷ [])) o₂ → Put o₂ (bytes ">\n") o₃
      → Put o (tag (device_tag model names) ++ 10 ∷ []) o₃
  unfolding device_tag
  device-put e a b d = simp append_assoc (rw (← e) (simp append_assoc at (put-append a (put-append b d))))

  pub start-put : {o₃ o₄ : Output} (c : ℕ) → t ≡ component_type model names c
      → Put o (bytes "<ComponentStream component=\"" ++ (t ++ 34 ∷ [])) o₁
      → Put o₁ (bytes " name=\"" ++ (t ++ 34 ∷ [])) o₂
      → Put o₂ (bytes " componentId=\"c" ++ (decimal c ++ 34 ∷ [])) o₃ → Put o₃ (bytes ">\n") o₄
      → Put o (tag (component_tag model names c) ++ 10 ∷ []) o₄
  unfolding component_tag
  start-put c e a b d f =
      simp append_assoc (rw (← e) (simp append_assoc at (put-append a (put-append b (put-append d f)))))

-- ---- a component

module _ (model names : List ℕ) (rows : List Row) (c : ℕ) {t : Bool} (e : t ≡ any_kept model c rows) {o : Output} where
  pub component-none : t ≡ false → length o.bytes.now ≤ stop
      → Put o (ended (component_lines model names c (having (row_component model) c rows))) o
  unfolding component_lines
  component-none f l =
      between_none (tag (component_tag model names c)) (bytes "</ComponentStream>")
      (each (λ g. group_lines model names g (kept model c g rows)) groups 0)
      (component-filled model names rows c ∙ (sym e ∙ f)) l

  pub component-put : {o₁ o₂ o₃ : Output} → t ≡ true
      → Put o (tag (component_tag model names c) ++ 10 ∷ []) o₁
      → Put o₁ (ended (each (λ g. group_lines model names g (kept model c g rows)) groups 0)) o₂
      → Put o₂ (bytes "</ComponentStream>\n") o₃
      → Put o (ended (component_lines model names c (having (row_component model) c rows))) o₃
  unfolding component_lines
  component-put f a b d =
      between_put (tag (component_tag model names c)) (bytes "</ComponentStream>")
      (each (λ g. group_lines model names g (kept model c g rows)) groups 0)
      (component-filled model names rows c ∙ (sym e ∙ f)) a b d

-- ---- the components, one after the other

-- the first n
abbrev pub first_lines : List ℕ → List ℕ → List Row → ℕ → List (List ℕ)
first_lines model names rows n = each (λ c. component_lines model names c (having (row_component model) c rows)) n 0

module _ (model names : List ℕ) (rows : List Row) {o : Output} where
  pub components-none : length o.bytes.now ≤ stop → Put o (ended (first_lines model names rows 0)) o
  unfolding each ended
  components-none h = put-none o h

  pub components-more : {l l₁ : Output} (c : ℕ)
      → Put o (ended (first_lines model names rows c)) l
      → Put l (ended (component_lines model names c (having (row_component model) c rows))) l₁
      → Put o (ended (first_lines model names rows (suc c))) l₁
  components-more c a b =
      let f : ℕ → List (List ℕ) = λ c. component_lines model names c (having (row_component model) c rows) in
      let z : 0 + c ≡ c = omega arith in
      rw (each-suc f c 0, ended-append (each f c 0) (f (0 + c)), z) (put-append a b)

  pub components-all : {l : Output} (c : ℕ) → c ≡ components model
      → Put o (ended (first_lines model names rows c)) l → Put o (ended (components_lines model names rows)) l
  unfolding components_lines
  components-all c e a = rw e at a
