-- A method of a class file as it is shown, and what its code and its flow graph give.
use Rattle.std.proofs.Common.{◌≡◌, inl, inr, ℕ, Result, Ok, Err, List, Some, refl, sym, ◌∙◌, subst, Bor}
use Rattle.std.specs.Result.{IfOk, IfErr}
use Rattle.failure.specs.declared.Failure.{Failure}
use Rattle.failure.specs.declared.Failure.TheVariants.{Cause, OutOfMemory}
use Rattle.jvm_model.specs.declared.class_file.ClassFile.{ClassFile}
use Rattle.jvm_model.specs.declared.code.Code.{Code}
use Rattle.jvm_model.specs.declared.number.ClassNo.{ClassNo}
use Rattle.jvm_model.specs.declared.number.MethodNo.{MethodNo}
use Rattle.jvm_model.specs.declared.reason.Fault.{Fault}
use Rattle.jvm_model.specs.declared.reason.Reason.{Reason}
use Rattle.jvm_model.specs.declared.reason.Refusal.{Refusal}
use Rattle.jvm_model.specs.declared.stub.StubMethod.{StubMethod}
use Rattle.jvm_model.specs.LinkedPrograms.{IsProgram}
use Rattle.jvm_model.specs.Programs.{Body, Program, in_file}
use Rattle.jvm_model.specs.Subtypes.{class_named}
use Rattle.jvm_model.specs.Layout.{HasCodeAttribute}
use Rattle.code_reader.specs.CodeReading.{ReadsCode}
use Rattle.flow_graph.specs.declared.steps.Graph.{Graph}
use Rattle.flow_graph.specs.Graphs.{IsGraph}
use Rattle.hierarchy.proofs.ClassPlaces.{class_of_number}
use Rattle.program_model.specs.Bodies.{IsBodyView}
use Rattle.program_model.specs.Numbers.{name_at, IsClassNumber}
use Rattle.program_model.specs.declared.method_body.MethodBody.TheVariants.{Described, InFile}
use Rattle.op_model.specs.declared.lowered.LoweredMethod.{LoweredMethod}
use Rattle.op_model.specs.Supplies.{IsRefusalOf}
use Rattle.lowering.specs.Refusals.{IsClassRefusal, IsLoweringAnswer, IsOwnCode}
use Rattle.lowering.specs.Orders.{AreInOrder}
use Rattle.lowering_supply.specs.Methods.{IsFirstFault, IsShown, TellsSupplied}
use Rattle.lowering_supply.specs.Offsets.{IsClassFileOf}
use Rattle.lowering_supply.specs.Supplied.{IsRefusalFor, IsSupplied, bad_code, bad_flow, not_lowered, lowered}
use Rattle.op_model.specs.Supplies.{IsCodedMethod}
use Rattle.lowering_supply.specs.declared.coded.CodedMethod.{CodedMethod}
use Rattle.lowering_supply.proofs.Members.{member_in}

-- ---- the method

module _ (p : Program) (number : ℕ) (m : IsCodedMethod p number) where
  pub no_description : (d : Bor StubMethod) → IsBodyView m.method.body (Described d) → ⊥
  no_description d view = subst (λ (b : Body). IsBodyView b (Described d)) m.of_file view

  pub in_view : (file : Bor ClassFile) (place : ℕ) → IsBodyView m.method.body (InFile file place) → (m.file ≡ file.now) × (m.place ≡ place)
  in_view file place view = subst (λ (b : Body). IsBodyView b (InFile file place)) m.of_file view

pub shown : (p : Program) (number : MethodNo) (m : IsCodedMethod p number.0) (file : Bor ClassFile) (place : ℕ) (class : ClassNo) → IsProgram p → IsBodyView m.method.body (InFile file place)
    → IsClassNumber p class.0 → m.method.class ≡ name_at p class.0 → IsShown p (record { number = number; class = class; file = file; place = place })
shown p number m file place class program view below of_class =
    let same = in_view p number.0 m file place view in
    let of_file : m.method.body ≡ in_file file.now place m.member = m.of_file ∙ (λ i. in_file (same.0 i) (same.1 i) m.member) in
    record {
      program = program;
      method = m.method;
      stands = m.stands;
      member = m.member;
      of_file = of_file;
      code = subst (λ (k : ℕ). HasCodeAttribute file.now k) same.1 (subst (λ (f : ClassFile). HasCodeAttribute f m.place) same.0 m.code);
      checked = (member_in p number.0 program m.method m.stands file.now place m.member of_file).checked;
      class = below;
      of_class = of_class;
    }

module _ (p : Program) (m : CodedMethod) (is : IsShown p m) where
  abbrev pub coded : IsCodedMethod p m.number.0
  coded = record { method = is.method; stands = is.stands; file = m.file.now; place = m.place; member = is.member; of_file = is.of_file; code = is.code }

  pub own_code : (code : Code) → ReadsCode m.file.now m.place (Ok code) → (graph : Graph) → IsGraph m.file.now code graph → IsOwnCode p m.number.0 code graph
  own_code code reads graph flows = record {
    method = is.method;
    stands = is.stands;
    file = m.file.now;
    place = m.place;
    member = is.member;
    of_file = is.of_file;
    read = reads;
    flows = flows;
  }

  pub file_of_class : IsClassFileOf p m.class.0 m.file.now
  file_of_class = record { number = m.number.0; method = is.method; stands = is.stands; of_class = is.of_class; place = m.place; member = is.member; body = is.of_file }

  -- ---- what it is given as

  refusal_for : (offset : ℕ) (reason : Reason) (r : Refusal) → IsClassRefusal p m.class.0 offset reason (Cause r) → IsRefusalFor p is.method offset reason r
  refusal_for offset reason r refused =
      let class = class_of_number p is.program m.class.0 is.class in
      record {
        class = class.0;
        named = subst (λ (name : List ℕ). class_named p name ≡ Some class.0) (sym is.of_class) class.1.named;
        is = λ i. record { file = refused.2 class.0 class.1.stands i; offset = refused.0 i; reason = refused.1 i };
      }

  -- a first fault is the refusal
  pub fault_told : (fault : Fault) → IsFirstFault m.file.now m.place fault → (failure : Failure Refusal) → IsClassRefusal p m.class.0 fault.offset fault.reason failure → IsRefusalOf (IsSupplied p m.number.0) failure
  fault_told fault (inl reads) (Cause r) refused =
      record { program = is.program; coded = coded; outcome = bad_code fault reads r (refusal_for fault.offset fault.reason r refused) refl }
  fault_told fault (inr flow) (Cause r) refused =
      record { program = is.program; coded = coded; outcome = bad_flow flow.0 flow.1 fault.offset fault.reason flow.2 r (refusal_for fault.offset fault.reason r refused) refl }
  fault_told fault first OutOfMemory refused = tt

  -- the nodes, or the refusal of lowering
  pub lowering_told : (code : Code) → ReadsCode m.file.now m.place (Ok code) → (graph : Graph) → IsGraph m.file.now code graph → (told : Result LoweredMethod (Failure Refusal))
      → IsLoweringAnswer p m.number.0 code graph told → IfOk told (AreInOrder p m.number.0 code graph) → TellsSupplied p m.number.0 told
  lowering_told code reads graph flows (Ok l) accepted order = record { program = is.program; coded = coded; outcome = lowered code reads graph flows l accepted order refl }
  lowering_told code reads graph flows (Err (Cause r)) refused order = record { program = is.program; coded = coded; outcome = not_lowered code reads graph flows r refused refl }
  lowering_told code reads graph flows (Err OutOfMemory) refused order = tt

-- ---- the clauses of the answer

pub found : (p : Program) (number : ℕ) (told : Result LoweredMethod (Failure Refusal)) → TellsSupplied p number told → IfOk told (λ (l : LoweredMethod). IsSupplied p number (Ok l))
found p number (Ok l) is = is
found p number (Err failure) is = tt

pub failed : (p : Program) (number : ℕ) (told : Result LoweredMethod (Failure Refusal)) → TellsSupplied p number told → IfErr told (IsRefusalOf (IsSupplied p number))
failed p number (Ok l) is = tt
failed p number (Err failure) is = is
