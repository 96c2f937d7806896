-- Whether an instruction has a reason is decided, so that it has a first one, or none.
use Rattle.std.proofs.Common.{◌≡◌, ◌⊎◌, inl, inr, List, [], ◌∷◌, Option, Some, None, Err, refl}
use Rattle.jvm_model.specs.declared.reason.Reason.{Reason}
use Rattle.jvm_model.specs.declared.reason.Reason.TheVariants as reasons
use Rattle.jvm_model.specs.LinkedPrograms.{IsProgram}
use Rattle.lowering_reasons.specs.Reasons.{Judged, IsDynamic, UsesMethodConstant, IsReflective, UsesThreads, LacksStub, LooksUpField, LooksUpMethod, IsMismatched, LacksTarget, MakesFinalized, HasReason, dynamic, method_constant, reflection, threads, no_stub, missing_field, missing_method, kind_mismatch, no_implementation, finalizer, reason_order, IsFirstOf, IsFirstReason}
use Rattle.program_laws.proofs.Choices.{OrNot, carried_over, either_or_not, both_or_not}
use Rattle.lowering_laws.proofs.Equality.{reason_or_not, outcome_or_not}
use Rattle.lowering_laws.proofs.Finalizers.{makes_finalized_or_not}
use Rattle.lowering_laws.proofs.Following.{dynamic_or_not, constant_or_not, reflective_or_not, threads_or_not}
use Rattle.lowering_laws.proofs.Looking.{field_looked_up, method_looked_up}
use Rattle.lowering_laws.proofs.Matching.{mismatched_or_not, lacks_target_or_not}
use Rattle.lowering_laws.proofs.Only.{this_or_not}
use Rattle.lowering_laws.proofs.Stubs.{lacks_stub_or_not}

-- ---- one reason

-- what is not followed
abbrev Unfollowed : Judged → Reason → Type 0
Unfollowed j r =
    ((r ≡ reasons.InvokeDynamic) × IsDynamic j) ⊎ (((r ≡ reasons.MethodConstant) × UsesMethodConstant j)
    ⊎ (((r ≡ reasons.Reflection) × IsReflective j) ⊎ ((r ≡ reasons.Threads) × UsesThreads j)))

-- what is not there
abbrev Absent : Judged → Reason → Type 0
Absent j r =
    ((r ≡ reasons.NoStub) × LacksStub j) ⊎ (((r ≡ reasons.MissingField) × LooksUpField j (Err reasons.MissingField))
    ⊎ ((r ≡ reasons.MissingMethod) × LooksUpMethod j (Err reasons.MissingMethod)))

-- what is of another kind, or is called by itself
abbrev Unfit : Judged → Reason → Type 0
Unfit j r =
    ((r ≡ reasons.KindMismatch) × IsMismatched j) ⊎ (((r ≡ reasons.NoImplementation) × LacksTarget j) ⊎ ((r ≡ reasons.Finalizer) × MakesFinalized j))

abbrev Any : Judged → Reason → Type 0
Any j r = Unfollowed j r ⊎ (Absent j r ⊎ Unfit j r)

given_by : (j : Judged) (r : Reason) → Any j r → HasReason j r
given_by j r (inl (inl h)) = dynamic h.0 h.1
given_by j r (inl (inr (inl h))) = method_constant h.0 h.1
given_by j r (inl (inr (inr (inl h)))) = reflection h.0 h.1
given_by j r (inl (inr (inr (inr h)))) = threads h.0 h.1
given_by j r (inr (inl (inl h))) = no_stub h.0 h.1
given_by j r (inr (inl (inr (inl h)))) = missing_field h.0 h.1
given_by j r (inr (inl (inr (inr h)))) = missing_method h.0 h.1
given_by j r (inr (inr (inl h))) = kind_mismatch h.0 h.1
given_by j r (inr (inr (inr (inl h)))) = no_implementation h.0 h.1
given_by j r (inr (inr (inr (inr h)))) = finalizer h.0 h.1

kind_of : (j : Judged) (r : Reason) → HasReason j r → Any j r
kind_of j r (dynamic e h) = inl (inl (e, h))
kind_of j r (method_constant e h) = inl (inr (inl (e, h)))
kind_of j r (reflection e h) = inl (inr (inr (inl (e, h))))
kind_of j r (threads e h) = inl (inr (inr (inr (e, h))))
kind_of j r (no_stub e h) = inr (inl (inl (e, h)))
kind_of j r (missing_field e h) = inr (inl (inr (inl (e, h))))
kind_of j r (missing_method e h) = inr (inl (inr (inr (e, h))))
kind_of j r (kind_mismatch e h) = inr (inr (inl (e, h)))
kind_of j r (no_implementation e h) = inr (inr (inr (inl (e, h))))
kind_of j r (finalizer e h) = inr (inr (inr (inr (e, h))))

unfollowed_or_not : (j : Judged) (r : Reason) → OrNot (Unfollowed j r)
unfollowed_or_not j r =
    either_or_not (both_or_not (reason_or_not r reasons.InvokeDynamic) (λ e. dynamic_or_not j))
    (either_or_not (both_or_not (reason_or_not r reasons.MethodConstant) (λ e. constant_or_not j))
    (either_or_not (both_or_not (reason_or_not r reasons.Reflection) (λ e. reflective_or_not j)) (both_or_not (reason_or_not r reasons.Threads) (λ e. threads_or_not j))))

absent_or_not : (j : Judged) → IsProgram j.program → (r : Reason) → OrNot (Absent j r)
absent_or_not j program r =
    either_or_not (both_or_not (reason_or_not r reasons.NoStub) (λ e. lacks_stub_or_not j program))
    (either_or_not
    (both_or_not (reason_or_not r reasons.MissingField) (λ e. this_or_not (LooksUpField j) outcome_or_not (field_looked_up j program) (Err reasons.MissingField)))
    (both_or_not (reason_or_not r reasons.MissingMethod) (λ e. this_or_not (LooksUpMethod j) outcome_or_not (method_looked_up j program) (Err reasons.MissingMethod))))

unfit_or_not : (j : Judged) → IsProgram j.program → (r : Reason) → OrNot (Unfit j r)
unfit_or_not j program r =
    either_or_not (both_or_not (reason_or_not r reasons.KindMismatch) (λ e. mismatched_or_not j program))
    (either_or_not (both_or_not (reason_or_not r reasons.NoImplementation) (λ e. lacks_target_or_not j program))
    (both_or_not (reason_or_not r reasons.Finalizer) (λ e. makes_finalized_or_not j program)))

pub has_reason_or_not : (j : Judged) (reason : Reason) → IsProgram j.program → HasReason j reason ⊎ (HasReason j reason → ⊥)
has_reason_or_not j reason program =
    carried_over (given_by j reason) (kind_of j reason)
    (either_or_not (unfollowed_or_not j reason) (either_or_not (absent_or_not j program reason) (unfit_or_not j program reason)))

-- ---- the first one

first_of : (j : Judged) → IsProgram j.program → (order : List Reason) → (first : Option Reason) × IsFirstOf j order first
first_of j program [] = (None, refl)
first_of j program (reason ∷ others) = by (has_reason_or_not j reason program) (first_of j program others)
  where
    by : OrNot (HasReason j reason) → (first : Option Reason) × IsFirstOf j others first → (first : Option Reason) × IsFirstOf j (reason ∷ others) first
    by (inl h) rest = (Some reason, inl (h, refl))
    by (inr not_so) rest = (rest.0, inr (not_so, rest.1))

pub first_reason : (j : Judged) → IsProgram j.program → (first : Option Reason) × IsFirstReason j first
first_reason j program = first_of j program reason_order
