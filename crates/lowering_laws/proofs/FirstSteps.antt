-- The first step that has a reason, or that none has one.
use Rattle.std.proofs.Common.{◌⊎◌, inl, inr, ℕ, List, [], ◌∷◌, Option, Some, None, refl, sym}
use Rattle.std.specs.List.{AllByRecursion, Contains}
use Rattle.jvm_model.specs.declared.class_file.ClassFile.{ClassFile}
use Rattle.jvm_model.specs.declared.code.Code.{Code}
use Rattle.jvm_model.specs.declared.reason.Reason.{Reason}
use Rattle.jvm_model.specs.LinkedPrograms.{IsProgram}
use Rattle.jvm_model.specs.Programs.{Method, Program}
use Rattle.code_reader.proofs.ToldCodes.{Contains-from_slice_get}
use Rattle.flow_graph.specs.declared.steps.GraphStep.{GraphStep}
use Rattle.lowering_laws.specs.StepRows.{HasRow}
use Rattle.lowering_reasons.specs.Reasons.{Judged}
use Rattle.lowering_laws.proofs.EachReason.{first_reason}
use Rattle.program_laws.proofs.Orders.{first_there, more_there}
use Rattle.lowering.specs.Refusals.{HasFirstReason, IsRefusedAt, here, later}

module _ (p : Program) (program : IsProgram p) (m : Method) (c : ClassFile) (code : Code) where
  abbrev Reasoned : GraphStep → Type 0
  Reasoned step = (first : Option Reason) × HasFirstReason p m c.pool code step first

  -- a step whose instruction has a row has a first reason, or none
  pub reasoned : (step : GraphStep) → HasRow c code step → Reasoned step
  reasoned step has =
      let judged : Judged = record { program = p; current = m.class; pool = c.pool; action = has.row.action; operands = has.row.operands; operand = has.placed.instruction.operand } in
      let first = first_reason judged program in (
        first.0,
        record {
          judged = judged;
          at = record {
            placed = has.placed;
            stands = Contains-from_slice_get code.instructions has.number has.placed has.stands;
            offset = sym has.offset_is;
            row = has.row;
            of_opcode = has.of_opcode;
            is = refl;
          };
          is = first.1;
        },
      )

  abbrev pub Refused : List GraphStep → Type 0
  Refused steps = (within : ℕ) × (reason : Reason) × IsRefusedAt p m c.pool code steps within reason

  abbrev pub Free : List GraphStep → Type 0
  Free steps = AllByRecursion (λ (step : GraphStep). HasFirstReason p m c.pool code step None) steps

  pub refused_or_free : (steps : List GraphStep) → ((step : GraphStep) → Contains steps step → HasRow c code step) → Refused steps ⊎ Free steps
  refused_or_free [] rows = inr tt
  refused_or_free (step ∷ steps) rows = by (reasoned step (rows step (first_there step steps))) (refused_or_free steps (λ s there. rows s (more_there step s steps there)))
    where
      by : Reasoned step → Refused steps ⊎ Free steps → Refused (step ∷ steps) ⊎ Free (step ∷ steps)
      by (Some reason, has) rest = inl (step.offset, reason, here step steps step.offset reason has refl)
      by (None, has) (inl refused) = inl (refused.0, refused.1, later step steps refused.0 refused.1 has refused.2)
      by (None, has) (inr free) = inr (has, free)
