-- The method of the call, as the rest of the crate sees it.
use Rattle.std.proofs.Common.{◌≡◌, ℕ, Some, Ok, Bor, subst}
use Rattle.std.specs.List.{slice_get}
use Rattle.std.proofs.lemmas.List.Elements.{All-contains}
use Rattle.jvm_model.specs.declared.class_file.ClassFile.{ClassFile}
use Rattle.jvm_model.specs.declared.code.Code.{Code}
use Rattle.jvm_model.specs.LinkedPrograms.{IsProgram, IsBodyOf, IsMemberOf}
use Rattle.jvm_model.specs.declared.stub.StubMethod.{StubMethod}
use Rattle.jvm_model.specs.Programs.{Body, Method, Program, in_file}
use Rattle.jvm_model.specs.Soundness.{IsChecked}
use Rattle.program_model.specs.Bodies.{IsBodyView}
use Rattle.program_model.specs.Numbers.{name_at, IsClassNumber}
use Rattle.program_model.specs.declared.method_body.MethodBody.TheVariants.{InFile, Described}
use Rattle.code_reader.specs.CodeReading.{ReadsCode}
use Rattle.code_reader.proofs.ToldCodes.{Contains-from_slice_get}
use Rattle.flow_graph.specs.declared.steps.Graph.{Graph}
use Rattle.flow_graph.specs.Graphing.{IsCodeOf}
use Rattle.flow_graph.specs.Graphs.{IsGraph}
use Rattle.flow_graph.proofs.WholeFlow.{flow_of}
use Rattle.lowering.specs.Bodies.{IsMethodCode, IsOwnBody}
use Rattle.lowering.specs.Refusals.{IsOwnCode}
use Rattle.lowering.specs.declared.body.MethodCode.{MethodCode}

-- no description stands for it
pub no_description : (p : Program) (number : ℕ) (code : Code) (graph : Graph) (own : IsOwnCode p number code graph) (d : Bor StubMethod) → IsBodyView own.method.body (Described d) → ⊥
no_description p number code graph own d view = subst (λ (b : Body). IsBodyView b (Described d)) own.of_file view

module _ (b : MethodCode) (number : ℕ) (graph : Graph) (own : IsOwnCode b.program.now b.method.0 b.code.now graph) (program : IsProgram b.program.now) where
  member_of : IsMemberOf own.method own.file own.place own.member
  member_of =
      let inside = Contains-from_slice_get b.program.now.methods b.method.0 own.method own.stands in
      subst (λ (body : Body). IsBodyOf own.method body) own.of_file (All-contains (λ (m : Method). IsBodyOf m m.body) b.program.now.methods own.method program.bodies inside)

  -- the file and the number are those that the program shows
  pub own_body : IsBodyView own.method.body (InFile b.class number) → IsClassNumber b.program.now b.current.0 → name_at b.program.now b.current.0 ≡ own.method.class → IsOwnBody b number graph
  own_body shown class of_class = record {
    program = program;
    known = known;
    member = own.member;
    member_there = subst (λ (n : ℕ). slice_get b.class.now.methods n ≡ Some own.member) same_place (subst (λ (f : ClassFile). slice_get f.methods own.place ≡ Some own.member) same_file member_of.stands);
    of_file = subst (λ (n : ℕ). own.method.body ≡ in_file b.class.now n own.member) same_place (subst (λ (f : ClassFile). own.method.body ≡ in_file f own.place own.member) same_file own.of_file);
    read = read;
    flows = flows;
    steps = λ k s within. record { steps = graph.steps; is = (flow_of b.class.now b.code.now graph code flows).each k s within };
  }
    where
      view : IsBodyView (in_file own.file own.place own.member) (InFile b.class number)
      view = subst (λ (body : Body). IsBodyView body (InFile b.class number)) own.of_file shown

      same_file : own.file ≡ b.class.now
      same_file = view.0

      same_place : own.place ≡ number
      same_place = view.1

      read : ReadsCode b.class.now number (Ok b.code.now)
      read = subst (λ (n : ℕ). ReadsCode b.class.now n (Ok b.code.now)) same_place (subst (λ (f : ClassFile). ReadsCode f own.place (Ok b.code.now)) same_file own.read)

      flows : IsGraph b.class.now b.code.now graph
      flows = subst (λ (f : ClassFile). IsGraph f b.code.now graph) same_file own.flows

      code : IsCodeOf b.class.now b.code.now
      code = record { method = number; read = read }

      known : IsMethodCode b
      known = record {
        method = own.method;
        stands = own.stands;
        class = class;
        of_class = of_class;
        checked = subst (λ (f : ClassFile). IsChecked f) same_file member_of.checked;
        code = code;
      }
