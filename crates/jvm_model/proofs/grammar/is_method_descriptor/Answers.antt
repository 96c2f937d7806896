use Rattle.std.proofs.Common.{◌≡◌, ◌∷◌, [], Some, sym, ◌∙◌, subst, inl, inr}
use Rattle.std.proofs.lemmas.Bool.{false≢true}
use Rattle.std.proofs.lemmas.Bool.Decides.{Decides-eqb}
use Rattle.std.proofs.lemmas.Slice.Eq.{slice_eq-Decides, strip_prefix_is}
use Rattle.jvm_model.specs.Descriptors.{IsFieldDescriptor}
use Rattle.jvm_model.proofs.Parameters.{method_from, ends_of_method, one_outcome}
use Rattle.jvm_model.proofs.grammar.is_method_descriptor.Goals as goal

pub returns-in_default-after_parameters : goal.returns-in_default-after_parameters
returns-in_default-after_parameters c =
    let text = c.args.text.now in
    let parameters = c.in-Some.parameters.now in
    let split : text ≡ 40 ∷ parameters = strip_prefix_is Decides-eqb text (40 ∷ []) (Some c.in-Some.parameters) c.in-Some.ensures.cases in (
      (λ never. absurd (false≢true never)),
      (λ method. absurd (c.in_default-after_parameters.ensures method.outcome (ends_of_method text parameters split method))),
    )

pub returns-else-eq : goal.returns-else-eq
returns-else-eq c =
    let text = c.args.text.now in
    let parameters = c.in-Some.parameters.now in
    let outcome = c.in-Some-after_parameters.outcome.now in
    let split : text ≡ 40 ∷ parameters = strip_prefix_is Decides-eqb text (40 ∷ []) (Some c.in-Some.parameters) c.in-Some.ensures.cases in
    let not_void : outcome ≡ 86 ∷ [] → ⊥ = λ e.
    false≢true (sym c.if-eq.false ∙ (slice_eq-Decides Decides-eqb outcome c.as_slice.result.now c.eq.result c.eq.ensures).1 (e ∙ sym c.as_slice.ensures)) in (
      (λ yes. method_from text parameters outcome split c.in-Some-after_parameters.ensures (inr (c.is_field_descriptor.ensures.0 yes))),
      (λ method.
          let same = one_outcome parameters method.outcome outcome (ends_of_method text parameters split method) c.in-Some-after_parameters.ensures in
          c.is_field_descriptor.ensures.1
          (elim method.outcome_is [ inl void ↦ absurd (not_void (sym same ∙ void)) | inr field ↦ subst IsFieldDescriptor same field ])),
    )
