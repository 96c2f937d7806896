-- The first handler of a list that takes an exception of a class.
use Rattle.std.proofs.Common.{◌≡◌, ℕ, zero, suc, ◌<◌, List, [], ◌∷◌, length, Some, refl, sym, ◌∙◌, subst, arith, inl, inr}
use Rattle.std.specs.List.{slice_get, Contains}
use Rattle.std.proofs.lemmas.Option.{same_Some, none-some}
use Rattle.list_laws.proofs.Members.{contains_none}
use Rattle.jvm_model.specs.Programs.{Program}
use Rattle.machine_nodes.specs.NodeSteps.{IsFirstTaking, Takes}
use Rattle.op_model.specs.declared.node.NodeHandler.{NodeHandler}

-- a list of no handlers has none
pub none_in_empty : (hs : List NodeHandler) → length hs ≡ 0 → (h : NodeHandler) → Contains hs h → ⊥
none_in_empty [] none h there = contains_none h there
none_in_empty (x ∷ hs) none h there = omega (arith, none)

module _ (p : Program) (class : List ℕ) where
  -- one that takes it is the first, where none before it does
  pub first_taking : (hs : List NodeHandler) (i : ℕ) (h : NodeHandler) → slice_get hs i ≡ Some h → ((k : ℕ) → k < i → (g : NodeHandler) → slice_get hs k ≡ Some g → Takes p g class → ⊥)
      → Takes p h class → IsFirstTaking p class hs h
  first_taking [] i h at none takes = absurd (none-some h at)
  first_taking (x ∷ hs) zero h at none takes =
      let same : x ≡ h = same_Some x h at in
      inl (subst (λ (g : NodeHandler). Takes p g class) (sym same) takes, sym same)
  first_taking (x ∷ hs) (suc i) h at none takes =
      inr (none 0 (omega arith) x refl, first_taking hs i h at (λ k below g there. none (suc k) (omega (arith, below)) g there) takes)

  -- it is one of them, and takes it
  pub taking_one : (hs : List NodeHandler) (h : NodeHandler) → IsFirstTaking p class hs h → Contains hs h × Takes p h class
  taking_one [] h taking = absurd taking
  taking_one (x ∷ hs) h (inl (takes, same)) = ((0, omega arith, sym same), subst (λ (g : NodeHandler). Takes p g class) (sym same) takes)
  taking_one (x ∷ hs) h (inr (past, rest)) =
      let ((k, within, at), takes) = taking_one hs h rest in
      ((suc k, omega (arith, within), at), takes)

  -- there is one such handler
  pub one_taking : (hs : List NodeHandler) (g h : NodeHandler) → IsFirstTaking p class hs g → IsFirstTaking p class hs h → g ≡ h
  one_taking [] g h first second = absurd first
  one_taking (x ∷ hs) g h (inl (takes, same)) (inl (also, equal)) = same ∙ sym equal
  one_taking (x ∷ hs) g h (inl (takes, same)) (inr (past, rest)) = absurd (past takes)
  one_taking (x ∷ hs) g h (inr (past, rest)) (inl (takes, same)) = absurd (past takes)
  one_taking (x ∷ hs) g h (inr (past, rest)) (inr (over, more)) = one_taking hs g h rest more
