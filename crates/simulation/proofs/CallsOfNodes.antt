-- The call of an instruction, in a frame of a method that has nodes, is a call of the node at which the frame stands.
use Rattle.std.proofs.Common.{◌≡◌, ℕ, ◌+◌, Bool, true, List, ◌∷◌, length, Option, Some, Ok, sym, ap, ◌∙◌, subst, arith, length-append}
use Rattle.std.specs.List.{Contains, slice_get}
use Rattle.std.proofs.lemmas.List.{get_or-append-add}
use Rattle.std.proofs.lemmas.Option.{same_Some}
use Rattle.std.proofs.lemmas.Slice.Zip.{AllZip-long}
use Rattle.jvm_model.specs.declared.number.ClassNo.{ClassNo}
use Rattle.jvm_model.specs.LinkedPrograms.{IsProgram}
use Rattle.jvm_model.specs.Lookups.{MemberReference, Signature}
use Rattle.jvm_model.specs.Programs.{Method, Program}
use Rattle.jvm_model.specs.Table.{is_call}
use Rattle.flow_graph.specs.declared.steps.GraphStep.{GraphStep}
use Rattle.flow_graph.specs.Graphing.{HasStep}
use Rattle.op_model.specs.declared.lowered.LoweredMethod.{LoweredMethod}
use Rattle.op_model.specs.declared.op.Call.{Call as NodeCall}
use Rattle.op_model.specs.declared.op.Op.{Op}
use Rattle.op_model.specs.Supplies.{Given}
use Rattle.machine_bytecode.specs.Events.{HasEvents}
use Rattle.machine_bytecode.specs.Machine.{At, AtInstruction, Calls, HasKind}
use Rattle.machine_bytecode.specs.Objects.{Subject}
use Rattle.machine_bytecode.specs.States.{Frame, running, State, Value, primitive_value, slot_at}
use Rattle.machine_nodes.specs.Nodes.{IsClassNumber}
use Rattle.machine_nodes.specs.NodeSteps.{AtNode, IsTargetOf, is_selecting_kind}
use Rattle.machine_nodes.specs.NodeSteps.{Calls as NodeCalls}
use Rattle.machine_nodes.specs.Slots.{argument_values}
use Rattle.lowering_spec.specs.Operations.{IsOp}
use Rattle.program_laws.proofs.Orders.{first_there}
use Rattle.simulation.proofs.CallNodes.{CallAt, arguments_are, call_at, calls_it, node_target}
use Rattle.simulation.proofs.Fits.{FitsBelow, FitsRunning, Fits, IsFull, Stands, fits_at, runs_in}
use Rattle.simulation.proofs.Known.{LoweredCode, base, here_node, lowest, op, shape, told}
use Rattle.simulation.proofs.Running.{stands_in}
use Rattle.simulation.specs.Simulation.{AreLowered, exception_names}

module _ (x : Subject) (program : IsProgram x.program) (given : Given) (known : (number : ℕ) (l : LoweredMethod) → given number ≡ Some (Ok l) → LoweredCode x.program number l)
    (exceptions : (name : List ℕ) → Contains exception_names name → (c : ClassNo) × IsClassNumber x.program c name) (s : State) (fits : Fits x s) (low : AreLowered given s) (at : At x.program s) where
  abbrev p : Program
  p = x.program

  abbrev f : Frame
  f = at.frame

  abbrev now : AtInstruction x.program at.frame
  now = at.now

  abbrev number : ℕ
  number = at.now.here.number

  fits_here : FitsRunning x.program at.frame × FitsBelow x at.frame.method at.below
  fits_here = fits_at x s running (at.frame ∷ at.below) at.runs at.frames fits

  runs : Stands x.program at.now.here.number at.frame.offset (IsFull (length at.frame.slots))
  runs = runs_in x.program at.frame at.now.here.number at.now.here.of_frame fits_here.0.place

  pub lowered : (l : LoweredMethod) × (given at.now.here.number ≡ Some (Ok l))
  lowered = low.each at.frame (subst (λ (fs : List Frame). Contains fs at.frame) (sym at.frames) (first_there at.frame at.below)) at.now.here.number at.now.here.of_frame

  abbrev pub lc : LoweredCode x.program at.now.here.number lowered.0
  lc = known at.now.here.number lowered.0 lowered.1

  pub place : (height : ℕ) × HasStep lc.graph.steps at.frame.offset height × IsFull (length at.frame.slots) lc.code height
  place = runs lowered.0 lc

  abbrev step : GraphStep
  step = place.1.step

  abbrev there : Contains lc.graph.steps place.1.step
  there = place.1.there

  abbrev off : place.1.step.offset ≡ at.frame.offset
  off = place.1.offset_is

  -- where the frame stands
  abbrev pub node_at : AtNode x given s
  node_at = record {
    frame = at.frame;
    below = at.below;
    runs = at.runs;
    frames = at.frames;
    now = stands_in x program given known exceptions at.frame at.now.here.number at.now.here.of_frame lowered.0 lowered.1 place.1.step place.1.there place.1.offset_is;
  }

  abbrev node_op : Op
  node_op = (here_node p f now lowered.0 lc step there off).node.op

  module _ (c : Calls x s at) where
    -- the operands lie from the lowest slot of the instruction on
    kept_long : base p f now lowered.0 lc step there off ≡ length c.kept
    kept_long =
        let whole : length f.slots ≡ length c.kept + length now.row.pops =
        ap length c.operands.parts ∙ length-append c.kept c.units ∙ ap (λ (n : ℕ). length c.kept + n) (AllZip-long HasKind now.row.pops c.units c.operands.kinds) in
        let low_at = lowest p f now lowered.0 lc step there off in
        let full = place.2 in
        let height = place.1.height_is in
        omega (arith, whole, low_at, full, height)

    op_at : IsOp now.row.action (told p f now (length c.kept)) node_op
    op_at = subst (λ (b : ℕ). IsOp now.row.action (told p f now b) node_op) kept_long (op p f now lowered.0 lc step there off)

    is_a_call : is_call now.row.action ≡ true
    is_a_call = calls_it p program f now (length c.kept) node_op now.row.action c.names s.world c.units c.target c.is_target

    pub told_call : (call : NodeCall) × CallAt p f now (length c.kept) node_op call
    told_call = call_at p program f now (length c.kept) node_op is_a_call op_at (shape p f now lowered.0 lc step there off).shape

    reads_as : (i : ℕ) → slot_at f.slots (length c.kept + i) ≡ slot_at c.units i
    reads_as i = ap (λ (vs : List Value). slot_at vs (length c.kept + i)) c.operands.parts ∙ get_or-append-add c.kept c.units i primitive_value

    pub units_are : argument_values told_call.0.arguments f.slots ≡ c.units
    units_are =
        ap (λ (a : List (Option ℕ)). argument_values a f.slots) told_call.1.arguments
        ∙ arguments_are now.row.pops c.units f.slots (length c.kept) told_call.1.pops c.operands.kinds reads_as

    pub target_at : (m : Method) × (slice_get p.methods told_call.0.resolved.0 ≡ Some m) × IsTargetOf told_call.0.kind p told_call.0 m s.world c.units c.target
    target_at = node_target p program f now (length c.kept) node_op now.row.action op_at c.names s.world c.units c.target c.is_target told_call.0 told_call.1.is

    called_is : c.names.called ≡ told_call.1.names.called
    called_is = same_Some c.names.called told_call.1.names.called (sym c.names.named ∙ told_call.1.names.named)

    pub events_are : HasEvents x (is_selecting_kind told_call.0.kind) (record { name = told_call.0.name; descriptor = told_call.0.descriptor }) (argument_values told_call.0.arguments f.slots) s.world c.world
    events_are =
        subst (λ (vs : List Value). HasEvents x (is_selecting_kind told_call.0.kind) (record { name = told_call.0.name; descriptor = told_call.0.descriptor }) vs s.world c.world) (sym units_are)
        (subst (λ (g : Signature). HasEvents x (is_selecting_kind told_call.0.kind) g c.units s.world c.world) (ap (λ (r : MemberReference). r.signature) called_is ∙ sym told_call.1.signature)
        (subst (λ (b : Bool). HasEvents x b c.names.called.signature c.units s.world c.world) (sym told_call.1.selects) c.events))

    abbrev pub node_calls : NodeCalls x given s node_at
    node_calls = record {
      number = now.here.number;
      in_method = now.here.of_frame;
      call = told_call.0;
      is_call = told_call.1.is;
      resolved = target_at.0;
      stands = target_at.1;
      target = c.target;
      is_target = subst (λ (vs : List Value). IsTargetOf told_call.0.kind p told_call.0 target_at.0 s.world vs c.target) (sym units_are) target_at.2;
      world = c.world;
      events = events_are;
    }
