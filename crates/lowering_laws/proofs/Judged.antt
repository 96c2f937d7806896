-- A method is refused, or none of its parts has a reason.
use Rattle.std.proofs.Common.{◌⊎◌, inl, inr, ℕ, ◌+◌, None, refl}
use Rattle.std.proofs.lemmas.List.Elements.{All-from_recursion}
use Rattle.jvm_model.specs.declared.code.Code.{Code}
use Rattle.jvm_model.specs.declared.reason.Reason.{Reason}
use Rattle.jvm_model.specs.declared.reason.Reason.TheVariants.{NoStub}
use Rattle.jvm_model.specs.declared.reason.Refusal.{Refusal}
use Rattle.jvm_model.specs.LinkedPrograms.{IsProgram}
use Rattle.jvm_model.specs.Programs.{Program}
use Rattle.code_reader.proofs.MachineBodies.{code_is_the_body}
use Rattle.flow_graph.specs.declared.steps.Graph.{Graph}
use Rattle.flow_graph.specs.declared.steps.GraphStep.{GraphStep}
use Rattle.lowering_laws.proofs.StepRows.{step_row}
use Rattle.hierarchy.proofs.ClassPlaces.{class_of_method}
use Rattle.lowering_reasons.proofs.Supertypes.{named_by}
use Rattle.lowering_handlers.specs.Entries.{AreKnown, IsFirstUnknown, entry_offset}
use Rattle.lowering.specs.Refusals.{AreFree, HasFirstReason, IsFirstRefusal, IsOwnCode, IsRefused, at_entry, at_instruction}
use Rattle.lowering_laws.proofs.FirstEntries.{unknown_or_known}
use Rattle.lowering_laws.proofs.FirstSteps.{Free, Refused, refused_or_free as steps_refused_or_free}
use Rattle.lowering_laws.proofs.Own.{flow, member_of}

module _ (p : Program) (number : ℕ) (code : Code) (graph : Graph) (program : IsProgram p) (own : IsOwnCode p number code graph) where
  abbrev IsFree : Type 0
  IsFree = AreFree p own.method own.file.pool code graph.steps

  abbrev IsKnown : Type 0
  IsKnown = AreKnown p own.file.pool code.handlers graph.steps

  abbrev IsAnyRefused : Type 0
  IsAnyRefused = (r : Refusal) × IsRefused p number code graph r

  -- the first refusal, in the file of the method's class
  refused : (offset : ℕ) (reason : Reason) → IsFirstRefusal p own.file code graph own.method own.member offset reason → IsAnyRefused
  refused offset reason first =
      let at = class_of_method p program number own.method own.stands in
      let class = named_by p program own.method.class at.0 at.1 at.2 in
      (record { file = class.0.file; offset = offset; reason = reason }, record { own = own; class = class.0; named = class.1; in_class_file = refl; first = first })

  by_entries : IsFree → ((place : ℕ) × IsFirstUnknown p own.file.pool code.handlers graph.steps place) ⊎ IsKnown → IsAnyRefused ⊎ (IsFree × IsKnown)
  by_entries free (inl unknown) =
      let member = member_of p program number code graph own in
      let body = code_is_the_body own.file own.place own.member code member.checked.fits member.checked.sound member.stands own.read in
      inl (refused (entry_offset code.at body.0 unknown.0) NoStub (at_entry unknown.0 body.0 free unknown.1 body.1 refl refl))
  by_entries free (inr known) = inr (free, known)

  by_steps : Refused p program own.method own.file code graph.steps ⊎ Free p program own.method own.file code graph.steps → IsAnyRefused ⊎ (IsFree × IsKnown)
  by_steps (inl r) = inl (refused (code.at + r.0) r.1 (at_instruction r.0 r.2 refl))
  by_steps (inr free) =
      by_entries (All-from_recursion (λ (step : GraphStep). HasFirstReason p own.method own.file.pool code step None) graph.steps free)
      (unknown_or_known p own.file.pool code.handlers graph.steps)

  pub refused_or_free : IsAnyRefused ⊎ (IsFree × IsKnown)
  refused_or_free = by_steps (steps_refused_or_free p program own.method own.file code graph.steps (step_row own.file code graph (flow p program number code graph own)))
