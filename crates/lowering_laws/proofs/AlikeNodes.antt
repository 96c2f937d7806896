-- A method has one list of nodes, but for the order and the repeats of moves, of successors and of thrown classes.
use Rattle.std.proofs.Common.{◌≡◌, ℕ, ◌+◌, List, [], ◌∷◌, length, Option, Some, if◌then◌else◌, refl, sym, ap, ◌∙◌, subst, arith}
use Rattle.std.specs.List.{AllZip, Contains}
use Rattle.std.proofs.lemmas.Bool.{false≢true}
use Rattle.std.proofs.lemmas.Option.{same_Some}
use Rattle.jvm_model.specs.declared.class_file.ClassFile.{ClassFile}
use Rattle.jvm_model.specs.declared.code.Code.{Code}
use Rattle.jvm_model.specs.declared.code.Handler.{Handler}
use Rattle.jvm_model.specs.declared.code.PlacedInstruction.{PlacedInstruction}
use Rattle.jvm_model.specs.declared.number.ClassNo.{ClassNo}
use Rattle.jvm_model.specs.declared.pool.PoolEntry.{PoolEntry}
use Rattle.jvm_model.specs.Instructions.{DecodedInstruction, IsRowAt}
use Rattle.jvm_model.specs.LinkedPrograms.{IsProgram}
use Rattle.jvm_model.specs.Programs.{Method, Program, is_static}
use Rattle.jvm_model.specs.Table.{Raise, Row, UnitKind, row_of}
use Rattle.flow_graph.specs.declared.steps.Graph.{Graph}
use Rattle.flow_graph.specs.declared.steps.GraphStep.{GraphStep}
use Rattle.flow_graph.specs.Effects.{with_row}
use Rattle.flow_graph.specs.Reading.{AreInOrder}
use Rattle.op_model.specs.declared.lowered.LoweredMethod.{LoweredMethod}
use Rattle.op_model.specs.declared.node.Node.{Node}
use Rattle.op_model.specs.declared.node.NodeHandler.{NodeHandler}
use Rattle.machine_nodes.specs.Nodes.{AreThrownAt, IsClassNumber}
use Rattle.lowering_spec.specs.LoweredMethods.{HasParameterUnits, HasTrigger, IsCatch, IsHandlerAt, IsLowered, IsNodeOf, IsPlacedAt, all, for_class, no_trigger, of_class}
use Rattle.lowering_spec.specs.Operations.{IsOp, Placed}
use Rattle.lowering.specs.Refusals.{IsAccepted, IsOwnCode}
use Rattle.lowering_laws.specs.Alike.{AlikeMethods, AlikeNodes, HaveSame}
use Rattle.lowering_laws.proofs.Concerned.{one_class_number, one_concerned}
use Rattle.lowering_laws.proofs.OneOperation.{operation_once}
use Rattle.lowering_laws.proofs.OneRefusal.{one_placed, own_order, same_own}
use Rattle.lowering_laws.proofs.OneRow.{row_once, units_agree}

-- ---- handlers

one_catch : (p : Program) (pool : List PoolEntry) (catch_type : ℕ) (a b : Option ClassNo) → IsProgram p → IsCatch p pool catch_type a → IsCatch p pool catch_type b → a ≡ b
one_catch p pool catch_type a b program (all zero is) (all zero2 is2) = is ∙ sym is2
one_catch p pool catch_type a b program (all zero is) (of_class some name number named stands is2) = absurd (some zero)
one_catch p pool catch_type a b program (of_class some name number named stands is) (all zero is2) = absurd (some zero)
one_catch p pool catch_type a b program (of_class some name number named stands is) (of_class some2 name2 number2 named2 stands2 is2) =
    let names : name ≡ name2 = same_Some name name2 (sym named ∙ named2) in
    let numbers = one_class_number p number number2 name2 program (subst (IsClassNumber p number) names stands) stands2 in
    is ∙ ap (λ (c : ClassNo). Some c) numbers ∙ sym is2

one_handler : (p : Program) (pool : List PoolEntry) (handlers : List Handler) (place : ℕ) (a b : NodeHandler) → IsProgram p → IsHandlerAt p pool handlers place a → IsHandlerAt p pool handlers place b → a ≡ b
one_handler p pool handlers place a b program x y =
    let handler : x.handler ≡ y.handler = same_Some x.handler y.handler (sym x.stands ∙ y.stands) in
    let target : a.target ≡ b.target = x.target ∙ ap (λ (h : Handler). h.target) handler ∙ sym y.target in
    let catch : a.catch ≡ b.catch = one_catch p pool y.handler.catch_type a.catch b.catch program (subst (λ (h : Handler). IsCatch p pool h.catch_type a.catch) handler x.catch) y.catch in
    λ i. record { target = target i; catch = catch i }

one_list : (p : Program) (pool : List PoolEntry) (handlers : List Handler) (places : List ℕ) (as_ bs : List NodeHandler) → IsProgram p → AllZip (IsHandlerAt p pool handlers) places as_
    → AllZip (IsHandlerAt p pool handlers) places bs → as_ ≡ bs
one_list p pool handlers [] [] [] program x y = refl
one_list p pool handlers [] [] (b ∷ bs) program x y = absurd y
one_list p pool handlers [] (a ∷ as_) bs program x y = absurd x
one_list p pool handlers (n ∷ places) [] bs program x y = absurd x
one_list p pool handlers (n ∷ places) (a ∷ as_) [] program x y = absurd y
one_list p pool handlers (n ∷ places) (a ∷ as_) (b ∷ bs) program x y = cc (one_handler p pool handlers n a b program x.0 y.0, one_list p pool handlers places as_ bs program x.1 y.1)

-- ---- initialisation, and what is thrown

pub one_trigger : (i : Placed) (a b : Option ClassNo) (c d : Option (List ℕ)) → IsProgram i.program → HasTrigger i a c → HasTrigger i b d → (a ≡ b) × (c ≡ d)
one_trigger i a b c d program (no_trigger none is class) (no_trigger none2 is2 class2) = (is ∙ sym is2, class ∙ sym class2)
one_trigger i a b c d program (no_trigger none is class) (for_class some name number concerns stands is2 class2) = absurd (false≢true (sym none ∙ some))
one_trigger i a b c d program (for_class some name number concerns stands is class) (no_trigger none is2 class2) = absurd (false≢true (sym none ∙ some))
one_trigger i a b c d program (for_class some name number concerns stands is class) (for_class some2 name2 number2 concerns2 stands2 is2 class2) =
    let names = one_concerned i.program i.pool i.instruction.operand name name2 program concerns concerns2 in
    let numbers = one_class_number i.program number number2 name2 program (subst (IsClassNumber i.program number) names stands) stands2 in
    (is ∙ ap (λ (n : ClassNo). Some n) numbers ∙ sym is2, class ∙ ap (λ (n : List ℕ). Some n) names ∙ sym class2)

thrown_there : (p : Program) (raises : List Raise) (trigger : Option (List ℕ)) (as_ bs : List ClassNo) → AreThrownAt p raises trigger as_ → AreThrownAt p raises trigger bs → (c : ClassNo) → Contains as_ c → Contains bs c
thrown_there p raises trigger as_ bs x y c there = let t = x.only c there in y.all c t.0 t.1 t.2

same_thrown : (p : Program) (raises : List Raise) (trigger : Option (List ℕ)) (as_ bs : List ClassNo) → AreThrownAt p raises trigger as_ → AreThrownAt p raises trigger bs → HaveSame as_ bs
same_thrown p raises trigger as_ bs x y = record { each = λ c. (thrown_there p raises trigger as_ bs x y c, thrown_there p raises trigger bs as_ y x c) }

-- ---- nodes

module _ (p : Program) (program : IsProgram p) (number : ℕ) (m : Method) (pool : List PoolEntry) (code : Code) (ordered : AreInOrder code.instructions) where
  abbrev placed_with : GraphStep → PlacedInstruction → Row → Row → ℕ → Placed
  placed_with step placed opcode_row row base =
      record { program = p; method = number; current = m.class; pool = pool; instruction = with_row placed.instruction opcode_row; offset = step.offset; row = row; base = base }

  pub one_instruction : (step : GraphStep) (i j : Placed) → IsPlacedAt p number m pool code step i → IsPlacedAt p number m pool code step j → i ≡ j
  one_instruction step i j x y =
      let placed : x.placed ≡ y.placed = one_placed code.instructions ordered x.placed y.placed x.stands y.stands (x.offset ∙ sym y.offset) in
      let opcode_row : x.opcode_row ≡ y.opcode_row = same_Some x.opcode_row y.opcode_row (sym x.of_opcode ∙ ap (λ (q : PlacedInstruction). row_of q.instruction.opcode) placed ∙ y.of_opcode) in
      let instruction : with_row x.placed.instruction x.opcode_row ≡ with_row y.placed.instruction y.opcode_row =
      ap (λ (q : PlacedInstruction). with_row q.instruction x.opcode_row) placed ∙ ap (with_row y.placed.instruction) opcode_row in
      let row : x.row ≡ y.row = row_once pool (with_row y.placed.instruction y.opcode_row) x.row y.row (subst (λ (d : DecodedInstruction). IsRowAt pool d x.row) instruction x.of_row) y.of_row in
      let pops : length x.row.pops ≡ length y.row.pops = ap (λ (r : Row). length r.pops) row in
      let low = x.lowest in
      let low2 = y.lowest in
      let base : x.base ≡ y.base = omega (arith, low, low2, pops) in
      x.is
      ∙ ap (λ (q : PlacedInstruction). placed_with step q x.opcode_row x.row x.base) placed
      ∙ ap (λ (r : Row). placed_with step y.placed r x.row x.base) opcode_row
      ∙ ap (λ (r : Row). placed_with step y.placed y.opcode_row r x.base) row
      ∙ ap (λ (b : ℕ). placed_with step y.placed y.opcode_row y.row b) base
      ∙ sym y.is

  pub program_of : (step : GraphStep) (i : Placed) → IsPlacedAt p number m pool code step i → IsProgram i.program
  program_of step i x = subst (λ (q : Program). IsProgram q) (sym (ap (λ (j : Placed). j.program) x.is)) program

  pub one_node : (step : GraphStep) (a b : Node) → IsNodeOf p number m pool code step a → IsNodeOf p number m pool code step b → AlikeNodes a b
  one_node step a b x y =
      let i = y.instruction in
      let same : x.instruction ≡ i = one_instruction step x.instruction i x.placed y.placed in
      let sound = program_of step i y.placed in
      let trigger = one_trigger i a.trigger b.trigger x.trigger_class y.trigger_class sound (subst (λ (j : Placed). HasTrigger j a.trigger x.trigger_class) same x.trigger) y.trigger in
      let thrown = subst (λ (c : Option (List ℕ)). AreThrownAt p i.row.raises c a.throws) trigger.1 (subst (λ (j : Placed). AreThrownAt p j.row.raises x.trigger_class a.throws) same x.throws) in
      record {
        offset = x.offset ∙ sym y.offset;
        op = operation_once i a.op b.op sound (subst (λ (j : Placed). IsOp j.row.action j a.op) same x.op) y.op;
        successors = record { each = λ n. (λ there. (y.successors n).1 ((x.successors n).0 there), λ there. (x.successors n).1 ((y.successors n).0 there)) };
        handlers = one_list p pool code.handlers step.handlers a.handlers b.handlers program x.handlers y.handlers;
        trigger = trigger.0;
        throws = same_thrown p i.row.raises y.trigger_class a.throws b.throws thrown y.throws;
      }

  all_nodes : (steps : List GraphStep) (as_ bs : List Node) → AllZip (IsNodeOf p number m pool code) steps as_ → AllZip (IsNodeOf p number m pool code) steps bs → AllZip AlikeNodes as_ bs
  all_nodes [] [] [] x y = tt
  all_nodes [] [] (b ∷ bs) x y = absurd y
  all_nodes [] (a ∷ as_) bs x y = absurd x
  all_nodes (s ∷ steps) [] bs x y = absurd x
  all_nodes (s ∷ steps) (a ∷ as_) [] x y = absurd y
  all_nodes (s ∷ steps) (a ∷ as_) (b ∷ bs) x y = (one_node s a b x.0 y.0, all_nodes steps as_ bs x.1 y.1)

-- ---- methods

one_count : (m : Method) (a b : ℕ) → HasParameterUnits m a → HasParameterUnits m b → a ≡ b
one_count m a b x y =
    let units = units_agree m.signature.descriptor m.signature.descriptor x.parameters x.results y.parameters y.results refl x.of_descriptor y.of_descriptor in
    x.is ∙ ap (λ (ps : List UnitKind). (if is_static m then 0 else 1) + length ps) units.0 ∙ sym y.is

pub lowered_once : (p : Program) (number : ℕ) (pool : List PoolEntry) (code : Code) (graph : Graph) (a b : LoweredMethod) → IsProgram p → IsOwnCode p number code graph
    → IsLowered p number pool code graph a → IsLowered p number pool code graph b → AlikeMethods a b
lowered_once p number pool code graph a b program own x y =
    let method : x.method ≡ y.method = same_Some x.method y.method (sym x.stands ∙ y.stands) in
    record {
      method = x.number_is ∙ sym y.number_is;
      slots = x.slots ∙ sym y.slots;
      stack = x.stack ∙ sym y.stack;
      params = one_count y.method a.params b.params (subst (λ (m : Method). HasParameterUnits m a.params) method x.params) y.params;
      nodes = all_nodes p program number y.method pool code (own_order p number code graph own) graph.steps a.nodes b.nodes
          (subst (λ (m : Method). AllZip (IsNodeOf p number m pool code) graph.steps a.nodes) method x.nodes) y.nodes;
    }

pub accepted_once : (p : Program) (number : ℕ) (code : Code) (graph : Graph) (a b : LoweredMethod) → IsProgram p → IsAccepted p number code graph a → IsAccepted p number code graph b → AlikeMethods a b
accepted_once p number code graph a b program x y =
    let same = same_own p number code graph x.own y.own in
    lowered_once p number y.own.file.pool code graph a b program y.own (subst (λ (f : ClassFile). IsLowered p number f.pool code graph a) same.file x.lowered) y.lowered
