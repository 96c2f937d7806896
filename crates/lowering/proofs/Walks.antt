-- Walks over the steps of a graph, from the first one on.
use Rattle.std.proofs.Common.{◌≡◌, ℕ, zero, suc, ◌+◌, List, [], ◌∷◌, take, Some, None, refl, sym, subst}
use Rattle.std.specs.List.{AllByRecursion, AllZip, slice_get}
use Rattle.std.proofs.lemmas.Option.{same_Some}
use Rattle.failure.specs.declared.Failure.{Failure}
use Rattle.failure.specs.declared.Failure.TheVariants.{Cause, OutOfMemory}
use Rattle.jvm_model.specs.declared.reason.Reason.{Reason}
use Rattle.jvm_model.specs.declared.reason.Refusal.{Refusal}
use Rattle.jvm_model.specs.Programs.{Method}
use Rattle.jvm_model.specs.RowViews.{row_view}
use Rattle.flow_graph.specs.declared.steps.GraphStep.{GraphStep}
use Rattle.lowering.specs.Bodies.{HasFirst, IsJudgedStep, IsMethodCode, IsRefusalIn, IsStepsRefusal}
use Rattle.lowering.specs.Refusals.{HasFirstReason, IsRefusedAt, here, later}
use Rattle.lowering.specs.declared.body.JudgedStep.{JudgedStep}
use Rattle.lowering.specs.declared.body.MethodCode.{MethodCode}
use Rattle.lowering.proofs.Judged.{first_at}

-- the pair of a number
pub zip_at : {A B : Type 0} (R : A → B → Type 0) (xs : List A) (ys : List B) (i : ℕ) (x : A) (y : B) → AllZip R xs ys → slice_get xs i ≡ Some x → slice_get ys i ≡ Some y → R x y
zip_at R [] ys i x y h xi yi = absurd cc
zip_at R (a ∷ xs) [] i x y h xi yi = absurd h
zip_at {A} {B} R (a ∷ xs) (b ∷ ys) zero x y h xi yi = subst (λ (z : B). R x z) (same_Some b y yi) (subst (λ (z : A). R z b) (same_Some a x xi) h.0)
zip_at R (a ∷ xs) (b ∷ ys) (suc i) x y h xi yi = zip_at R xs ys i x y h.1 xi yi

-- a refusal at a step
pub steps_refusal : (b : MethodCode) (steps : List GraphStep) (within : ℕ) (reason : Reason) (f : Failure Refusal) → IsRefusalIn b (b.code.now.at + within) reason f
    → ((m : Method) → slice_get b.program.now.methods b.method.0 ≡ Some m → IsRefusedAt b.program.now m b.class.now.pool b.code.now steps within reason) → IsStepsRefusal b steps f
steps_refusal b steps within reason (Cause r) is first = (within, reason, is, first)
steps_refusal b steps within reason OutOfMemory is first = tt

module _ (b : MethodCode) (known : IsMethodCode b) where
  -- a step that was judged has no reason
  pub free_at : (step : GraphStep) (j : JudgedStep) → IsJudgedStep b step j → HasFirst b step None
  free_at step j is = first_at b known step b.class.now.pool j.placed.now (row_view j.row.now) None refl is.stands is.offset is.of_opcode is.free

  module _ (m : Method) (stands : slice_get b.program.now.methods b.method.0 ≡ Some m) where
    -- the first reason is at the step of a number, where those before it were judged
    pub refused_at : (steps : List GraphStep) (judged : List JudgedStep) (i : ℕ) (step : GraphStep) (reason : Reason) → AllZip (IsJudgedStep b) (take i steps) judged → slice_get steps i ≡ Some step
        → HasFirst b step (Some reason) → IsRefusedAt b.program.now m b.class.now.pool b.code.now steps step.offset reason
    refused_at [] judged i step reason h is first = absurd cc
    refused_at (s ∷ steps) judged zero step reason h is first =
        subst (λ (q : GraphStep). IsRefusedAt b.program.now m b.class.now.pool b.code.now (q ∷ steps) step.offset reason) (sym (same_Some s step is)) (here step steps step.offset reason (first m stands) refl)
    refused_at (s ∷ steps) [] (suc i) step reason h is first = absurd h
    refused_at (s ∷ steps) (j ∷ judged) (suc i) step reason h is first =
        later s steps step.offset reason (free_at s j h.0 m stands) (refused_at steps judged i step reason h.1 is first)

    -- where all were judged, none has a reason
    pub all_free : (steps : List GraphStep) (judged : List JudgedStep) → AllZip (IsJudgedStep b) steps judged → AllByRecursion (λ (step : GraphStep). HasFirstReason b.program.now m b.class.now.pool b.code.now step None) steps
    all_free [] judged h = tt
    all_free (s ∷ steps) [] h = absurd h
    all_free (s ∷ steps) (j ∷ judged) h = (free_at s j h.0 m stands, all_free steps judged h.1)
