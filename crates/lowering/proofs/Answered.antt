-- What lowering answers, from what its parts say.
use Rattle.std.proofs.Common.{◌≡◌, ℕ, ◌+◌, List, [], ◌∷◌, None, Some, Err, refl, sym, ap, ◌∙◌, subst}
use Rattle.std.specs.List.{AllZip, slice_get}
use Rattle.std.proofs.lemmas.List.Elements.{All-from_recursion}
use Rattle.std.proofs.lemmas.Option.{slice_get_within}
use Rattle.failure.specs.declared.Failure.{Failure}
use Rattle.failure.specs.declared.Failure.TheVariants.{Cause, OutOfMemory}
use Rattle.jvm_model.specs.declared.class_file.Member.{Member}
use Rattle.jvm_model.specs.declared.reason.Reason.{Reason}
use Rattle.jvm_model.specs.declared.reason.Reason.TheVariants.{NoStub}
use Rattle.jvm_model.specs.declared.reason.Refusal.{Refusal}
use Rattle.jvm_model.specs.Code.{CodeBody, HasCode}
use Rattle.jvm_model.specs.Subtypes.{class_named}
use Rattle.program_model.specs.Numbers.{IsMethodNumber}
use Rattle.flow_graph.specs.declared.steps.Graph.{Graph}
use Rattle.flow_graph.specs.declared.steps.GraphStep.{GraphStep}
use Rattle.hierarchy.proofs.ClassPlaces.{class_of_number}
use Rattle.lowering_spec.specs.LoweredMethods.{IsNodeOf}
use Rattle.op_model.specs.declared.node.Node.{Node}
use Rattle.lowering_handlers.specs.Entries.{IsFirstUnknown, entry_offset}
use Rattle.code_reader.proofs.MachineBodies.{code_is_the_body}
use Rattle.lowering.specs.Bodies.{IsJudgedStep, IsOrderedAt, IsOwnBody, IsRefusalIn, IsStepsRefusal}
use Rattle.lowering.specs.Orders.{IsInOrder}
use Rattle.lowering.specs.Refusals.{AreFree, IsFirstRefusal, IsLoweringAnswer, IsOwnCode, IsRefusedAt, at_entry, at_instruction, HasFirstReason}
use Rattle.lowering.specs.declared.body.JudgedStep.{JudgedStep}
use Rattle.lowering.specs.declared.body.MethodCode.{MethodCode}
use Rattle.lowering.proofs.Walks.{all_free}

module _ (b : MethodCode) (number : ℕ) (graph : Graph) (own : IsOwnBody b number graph) where
  abbrev pub own_code : IsOwnCode b.program.now b.method.0 b.code.now graph
  own_code = record {
    method = own.known.method;
    stands = own.known.stands;
    file = b.class.now;
    place = number;
    member = own.member;
    of_file = own.of_file;
    read = own.read;
    flows = own.flows;
  }

  -- a refusal in the file of the method's class is the answer, where it is the first one
  pub refused_is : (offset : ℕ) (reason : Reason) (f : Failure Refusal) → IsRefusalIn b offset reason f → IsFirstRefusal b.program.now b.class.now b.code.now graph own.known.method own.member offset reason
      → IsLoweringAnswer b.program.now b.method.0 b.code.now graph (Err f)
  refused_is offset reason (Cause r) is first =
      let class = class_of_number b.program.now own.program b.current.0 own.known.class in
      record {
        own = own_code;
        class = class.0;
        named = ap (class_named b.program.now) (sym own.known.of_class) ∙ class.1.named;
        in_class_file = is.2 class.0 class.1.stands;
        first = subst (λ (o : ℕ). IsFirstRefusal b.program.now b.class.now b.code.now graph own.known.method own.member o r.reason) (sym is.0)
            (subst (λ (q : Reason). IsFirstRefusal b.program.now b.class.now b.code.now graph own.known.method own.member offset q) (sym is.1) first);
      }
  refused_is offset reason OutOfMemory is first = tt

  -- the first reason among the steps is the first of the method
  pub steps_answer : (steps : List GraphStep) (f : Failure Refusal) → steps ≡ graph.steps → IsStepsRefusal b steps f → IsLoweringAnswer b.program.now b.method.0 b.code.now graph (Err f)
  steps_answer steps (Cause r) same f =
      refused_is (b.code.now.at + f.0) f.1 (Cause r) f.2
      (at_instruction f.0 (subst (λ (ss : List GraphStep). IsRefusedAt b.program.now own.known.method b.class.now.pool b.code.now ss f.0 f.1) same (f.3 own.known.method own.known.stands)) refl)
  steps_answer steps OutOfMemory same f = tt

  pub free_of : (steps : List GraphStep) (judged : List JudgedStep) → steps ≡ graph.steps → AllZip (IsJudgedStep b) steps judged → AreFree b.program.now own.known.method b.class.now.pool b.code.now graph.steps
  free_of steps judged same h =
      subst (λ (ss : List GraphStep). AreFree b.program.now own.known.method b.class.now.pool b.code.now ss) same
      (All-from_recursion (λ (step : GraphStep). HasFirstReason b.program.now own.known.method b.class.now.pool b.code.now step None) steps (all_free b own.known own.known.method own.known.stands steps judged h))

  -- where no step has a reason, the first entry of an unknown class is the first of the method
  pub first_of_entries : (steps : List GraphStep) (judged : List JudgedStep) (place offset : ℕ) → steps ≡ graph.steps → AllZip (IsJudgedStep b) steps judged
      → IsFirstUnknown b.program.now b.class.now.pool b.code.now.handlers steps place
      → ((m : Member) (body : CodeBody) → slice_get b.class.now.methods number ≡ Some m → HasCode b.class.now m body → offset ≡ entry_offset b.code.now.at body place)
      → IsFirstRefusal b.program.now b.class.now b.code.now graph own.known.method own.member offset NoStub
  first_of_entries steps judged place offset same h unknown stands_at =
      let body = code_is_the_body b.class.now number own.member b.code.now own.known.checked.fits own.known.checked.sound own.member_there own.read in
      at_entry place body.0 (free_of steps judged same h)
      (subst (λ (ss : List GraphStep). IsFirstUnknown b.program.now b.class.now.pool b.code.now.handlers ss place) same unknown) body.1
      (stands_at own.member body.0 own.member_there body.1) refl

  pub method_number : IsMethodNumber b.program.now b.method.0
  method_number = slice_get_within b.program.now.methods b.method.0 own.known.method own.known.stands

  -- the nodes of the steps are those of the method
  pub nodes_of : (steps : List GraphStep) (nodes : List Node) → AllZip (IsOrderedAt b) steps nodes → AllZip (IsNodeOf b.program.now b.method.0 own.known.method b.class.now.pool b.code.now) steps nodes
  nodes_of [] [] h = tt
  nodes_of [] (n ∷ nodes) h = absurd h
  nodes_of (s ∷ steps) [] h = absurd h
  nodes_of (s ∷ steps) (n ∷ nodes) h = ((h.0 own.known.method own.known.stands).node, nodes_of steps nodes h.1)

  -- and they are in order
  pub ordered_of : (steps : List GraphStep) (nodes : List Node) → AllZip (IsOrderedAt b) steps nodes → AllZip (IsInOrder b.program.now b.method.0 own.known.method b.class.now.pool b.code.now) steps nodes
  ordered_of [] [] h = tt
  ordered_of [] (n ∷ nodes) h = absurd h
  ordered_of (s ∷ steps) [] h = absurd h
  ordered_of (s ∷ steps) (n ∷ nodes) h = (h.0 own.known.method own.known.stands, ordered_of steps nodes h.1)
