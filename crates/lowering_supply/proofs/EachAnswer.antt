-- Each method of a class file that has code is given as something.
use Rattle.std.proofs.Common.{◌⊎◌, inl, inr, ℕ, Result, Ok, Err, refl}
use Rattle.failure.specs.declared.Failure.{Failure}
use Rattle.failure.specs.declared.Failure.TheVariants.{Cause, OutOfMemory}
use Rattle.jvm_model.specs.declared.code.Code.{Code}
use Rattle.jvm_model.specs.declared.reason.Fault.{Fault}
use Rattle.jvm_model.specs.declared.reason.Reason.{Reason}
use Rattle.jvm_model.specs.declared.reason.Refusal.{Refusal}
use Rattle.jvm_model.specs.LinkedPrograms.{IsProgram, IsMemberOf}
use Rattle.jvm_model.specs.Programs.{Program}
use Rattle.code_reader.specs.CodeReading.{ReadsCode}
use Rattle.code_reader.proofs.EachCode.{each_code_is_told}
use Rattle.flow_graph.specs.declared.steps.Graph.{Graph}
use Rattle.flow_graph.specs.Graphs.{IsGraph, TellsGraph, IsTold}
use Rattle.lowering_laws.proofs.WalkEnds.{some_answer}
use Rattle.hierarchy.proofs.ClassPlaces.{class_of_method}
use Rattle.lowering_reasons.proofs.Supertypes.{named_by}
use Rattle.op_model.specs.declared.lowered.LoweredMethod.{LoweredMethod}
use Rattle.lowering.specs.Orders.{AreInOrder}
use Rattle.lowering.specs.Refusals.{IsAccepted, IsOwnCode, IsRefused}
use Rattle.lowering_laws.proofs.Accepted.{lowers}
use Rattle.lowering_supply.proofs.Members.{member_in}
use Rattle.lowering_supply.specs.Supplied.{IsSupplyOutcome, IsRefusalFor, IsSupplied, bad_code, bad_flow, not_lowered, lowered}
use Rattle.op_model.specs.Supplies.{IsCodedMethod}

module _ (p : Program) (number : ℕ) (program : IsProgram p) (m : IsCodedMethod p number) where
  pub member : IsMemberOf m.method m.file m.place m.member
  member = member_in p number program m.method m.stands m.file m.place m.member m.of_file

  abbrev pub own_code : (code : Code) → ReadsCode m.file m.place (Ok code) → (graph : Graph) → IsGraph m.file code graph → IsOwnCode p number code graph
  own_code code reads graph flows = record {
    method = m.method;
    stands = m.stands;
    file = m.file;
    place = m.place;
    member = m.member;
    of_file = m.of_file;
    read = reads;
    flows = flows;
  }

  refusal : (offset : ℕ) (reason : Reason) → (r : Refusal) × IsRefusalFor p m.method offset reason r
  refusal offset reason =
      let at = class_of_method p program number m.method m.stands in
      let class = named_by p program m.method.class at.0 at.1 at.2 in
      (record { file = class.0.file; offset = offset; reason = reason }, record { class = class.0; named = class.1; is = refl })

  abbrev Given : Type 0
  Given = (answer : Result LoweredMethod Refusal) × IsSupplied p number answer

  given : (answer : Result LoweredMethod Refusal) → IsSupplyOutcome p number m.method m.file m.place answer → Given
  given answer outcome = (answer, record { program = program; coded = m; outcome = outcome })

  by_lowering : (code : Code) → ReadsCode m.file m.place (Ok code) → (graph : Graph) → IsGraph m.file code graph
      → ((l : LoweredMethod) × IsAccepted p number code graph l × AreInOrder p number code graph l) ⊎ ((r : Refusal) × IsRefused p number code graph r) → Given
  by_lowering code reads graph flows (inl l) = given (Ok l.0) (lowered code reads graph flows l.0 l.1 l.2 refl)
  by_lowering code reads graph flows (inr r) = given (Err r.0) (not_lowered code reads graph flows r.0 r.1 refl)

  by_graph : (code : Code) → ReadsCode m.file m.place (Ok code) → (told : Result Graph (Failure Fault)) → TellsGraph m.file code told → IsTold told → Given
  by_graph code reads (Ok graph) flows is = by_lowering code reads graph flows (lowers p number code graph program (own_code code reads graph flows))
  by_graph code reads (Err (Cause fault)) wrong is =
      let r = refusal fault.offset fault.reason in
      given (Err r.0) (bad_flow code reads fault.offset fault.reason wrong r.0 r.1 refl)
  by_graph code reads (Err OutOfMemory) wrong is = absurd is

  by_code : (outcome : Result Code Fault) → ReadsCode m.file m.place outcome → Given
  by_code (Err fault) reads =
      let r = refusal fault.offset fault.reason in
      given (Err r.0) (bad_code fault reads r.0 r.1 refl)
  by_code (Ok code) reads =
      let told = some_answer m.file code member.checked.sound (record { method = m.place; read = reads }) in
      by_graph code reads told.0 told.1 told.2

  pub each_answer : Given
  each_answer =
      let told = each_code_is_told m.file m.place member.checked.sound m.code in
      by_code told.0 told.1
