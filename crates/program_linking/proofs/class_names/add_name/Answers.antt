use Rattle.std.proofs.Common.{◌≡◌, List, [], ◌∷◌, Result, Ok, Err, IfErr, MatchResult, sym, subst}
use Rattle.std.specs.Prelude.{IsErrAnd}
use Rattle.failure.specs.declared.Failure.{Failure}
use Rattle.failure.specs.Widening.{IsWidened}
use Rattle.jvm_model.specs.Linking.{AreMet, Claim, claim, differs}
use Rattle.jvm_model.specs.Programs.{Program}
use Rattle.program_index.specs.declared.index_failure.TooMany.{TooMany}
use Rattle.program_model.specs.declared.link_failure.LinkFault.{LinkFault}
use Rattle.program_model.specs.declared.link_failure.LinkFault.TheVariants as faults
use Rattle.program_linking.specs.Claims.{TellsClaimsOrLarge}
use Rattle.program_linking.specs.TooLarge.{TellsTooMany}
use Rattle.program_index.specs.Limits.{AreTooMany}
use Rattle.program_linking.proofs.ClaimSteps.{one_met, one_unmet}
use Rattle.program_linking.proofs.KnownClasses.{nowhere_not}
use Rattle.program_linking.proofs.LargeInputs.{error_end}
use Rattle.program_index.proofs.OrderPlaces.{contains_at}
use Rattle.program_linking.proofs.class_names.add_name.Goals as goal

pub returns-in-Some-clause-told : goal.returns-in-Some-clause-told
returns-in-Some-clause-told c = λ p.
    let earlier = c.args.earlier.now in
    let name = c.args.name.now in
    one_unmet (AreTooMany earlier) p (claim c.args.file.now c.args.offset (differs earlier name)) c.refused.result (λ meets. meets (contains_at earlier c.in-Some.field-0 name c.in-Some.ensures.found)) c.refused.ensures

-- a new name meets the claim, and a failure to add it is handed on
handed_claim : {X : Type 0} (Large : Type 0) (p : Program) (claims : List Claim) (below : Result X (Failure TooMany)) (above : Result X (Failure LinkFault))
    → MatchResult below (λ x. above ≡ Ok x) (λ e. IsErrAnd above (IsWidened (λ _ fault. fault ≡ faults.TooMany) e)) → IfErr below (TellsTooMany Large) → AreMet p claims → TellsClaimsOrLarge Large p claims above
handed_claim {X} Large p claims (Ok x) above cases told met = subst (λ (r : Result X (Failure LinkFault)). TellsClaimsOrLarge Large p claims r) (sym cases) met
handed_claim Large p claims (Err e) (Ok y) cases told met = absurd cases
handed_claim Large p claims (Err e) (Err end) cases told met = error_end Large p claims e end cases told

pub returns-in-None-clause-told : goal.returns-in-None-clause-told
returns-in-None-clause-told c = λ p.
    let earlier = c.args.earlier.now in
    let name = c.args.name.now in
    handed_claim (AreTooMany earlier) p (claim c.args.file.now c.args.offset (differs earlier name) ∷ []) c.add_new_name.result c.map_err.result c.map_err.ensures.cases c.add_new_name.ensures.too_many
    (one_met p (claim c.args.file.now c.args.offset (differs earlier name)) (nowhere_not earlier name c.in-None.ensures.none))
