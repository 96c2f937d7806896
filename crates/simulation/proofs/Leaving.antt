-- Each return is a step of its node; and so is each step of the start, and of initialisation.
use Rattle.std.proofs.Common.{◌≡◌, ℕ, ◌+◌, true, List, [], ◌∷◌, ◌++◌, length, Option, Some, None, Ok, refl, sym, ap, ◌∙◌, subst, arith, length-append}
use Rattle.std.specs.List.{Contains, slice_get}
use Rattle.std.proofs.lemmas.List.{length-map}
use Rattle.std.proofs.lemmas.Option.{none-some, same_Some}
use Rattle.std.proofs.lemmas.Slice.Zip.{AllZip-long}
use Rattle.jvm_model.specs.declared.class_file.ClassFile.{ClassFile}
use Rattle.jvm_model.specs.declared.class_file.Member.{Member}
use Rattle.jvm_model.specs.declared.number.ClassNo.{ClassNo}
use Rattle.jvm_model.specs.Code.{CodeBody, HasCode}
use Rattle.jvm_model.specs.Instructions.{DecodedInstruction, instruction_at, made_for, member_at}
use Rattle.jvm_model.specs.LinkedPrograms.{IsProgram}
use Rattle.jvm_model.specs.Lookups.{MemberReference}
use Rattle.jvm_model.specs.Programs.{Method, Program, in_file}
use Rattle.jvm_model.specs.Table.{Action, leave_method, is_call}
use Rattle.code_reader.proofs.MachineBodies.{one_body}
use Rattle.flow_graph.specs.Graphing.{HasStep}
use Rattle.op_model.specs.declared.lowered.LoweredMethod.{LoweredMethod}
use Rattle.op_model.specs.declared.node.Node.{Node}
use Rattle.op_model.specs.declared.op.Op.{Op}
use Rattle.op_model.specs.declared.op.Op.TheVariants.{Return}
use Rattle.op_model.specs.Supplies.{Given}
use Rattle.machine_bytecode.specs.Machine.{At, AtInstruction, HasKind, HasOperands, IsAfterCall, Resumes, Returns, of_code, of_start as from_the_start}
use Rattle.machine_bytecode.specs.Objects.{Subject}
use Rattle.machine_bytecode.specs.States.{Frame, running, State, Value}
use Rattle.machine_nodes.specs.Nodes.{AreStartNodes, IsClassNumber}
use Rattle.machine_nodes.specs.NodeSteps.{AtNode, NodeStep}
use Rattle.machine_nodes.specs.NodeSteps.{Returns as NodeReturns, returns, Resumes as NodeResumes, resumes}
use Rattle.machine_nodes.specs.Slots.{AreLeft, returned_value}
use Rattle.lowering_spec.specs.Operations.{IsOp, value_slot}
use Rattle.program_laws.proofs.Orders.{first_there, more_there}
use Rattle.simulation.proofs.CallNodes.{call_at, result_kinds, returned_left}
use Rattle.simulation.proofs.Fits.{Calling, Fits, FitsBelow, FitsHeld, FitsRunning, HasDescriptor, IsFull, Stands, fits_at, from_code, from_start, held_calling, held_running, in_code, in_start, runs_in}
use Rattle.simulation.proofs.Known.{LoweredCode, base, here_node, lowest, node_goes, op, shape, told}
use Rattle.lowering_laws.proofs.OneRow.{units_agree}
use Rattle.simulation.proofs.Running.{moved_stands, onward_next, stands_in}
use Rattle.simulation.proofs.StartFrames.{call_stands}
use Rattle.simulation.specs.Simulation.{AreLowered, HasNodes, exception_names}

-- the instruction at which a frame stands is one
pub one_instruction : (p : Program) (f : Frame) (a b : AtInstruction p f) → a.instruction ≡ b.instruction
one_instruction p f a b =
    let number : a.here.number ≡ b.here.number = same_Some a.here.number b.here.number (sym a.here.of_frame ∙ b.here.of_frame) in
    let method : a.here.code.method ≡ b.here.code.method = same_Some a.here.code.method b.here.code.method (sym a.here.code.stands ∙ ap (slice_get p.methods) number ∙ b.here.code.stands) in
    let both : in_file a.here.code.file a.here.code.place a.here.code.member ≡ in_file b.here.code.file b.here.code.place b.here.code.member = sym a.here.code.of_file ∙ ap (λ (m : Method). m.body) method ∙ b.here.code.of_file in
    let file : a.here.code.file ≡ b.here.code.file = cc both in
    let member : a.here.code.member ≡ b.here.code.member = cc both in
    let has = subst (λ (c : ClassFile). HasCode c b.here.code.member a.here.code.body) file (subst (λ (m : Member). HasCode a.here.code.file m a.here.code.body) member a.here.code.has) in
    let body : a.here.code.body ≡ b.here.code.body = one_body b.here.code.file b.here.code.member a.here.code.body b.here.code.body has b.here.code.has in
    let read : instruction_at b.here.code.body.bytes f.offset ≡ Ok a.instruction = ap (λ (c : CodeBody). instruction_at c.bytes f.offset) (sym body) ∙ a.is in
    cc (read, b.is)

module _ (x : Subject) (program : IsProgram x.program) (given : Given) (known : (number : ℕ) (l : LoweredMethod) → given number ≡ Some (Ok l) → LoweredCode x.program number l)
    (exceptions : (name : List ℕ) → Contains exception_names name → (c : ClassNo) × IsClassNumber x.program c name) (nodes : List Node) (are : AreStartNodes x nodes) where
  module _ (s t : State) (fits : Fits x s) (low : AreLowered given s) (at : At x.program s) where
    abbrev p : Program
    p = x.program

    abbrev f : Frame
    f = at.frame

    abbrev now : AtInstruction x.program at.frame
    now = at.now

    fits_here : FitsRunning x.program at.frame × FitsBelow x at.frame.method at.below
    fits_here = fits_at x s running (at.frame ∷ at.below) at.runs at.frames fits

    has_nodes : (g : Frame) → Contains (at.frame ∷ at.below) g → HasNodes given g
    has_nodes g there = low.each g (subst (λ (fs : List Frame). Contains fs g) (sym at.frames) there)

    lowered : (l : LoweredMethod) × (given at.now.here.number ≡ Some (Ok l))
    lowered = has_nodes at.frame (first_there at.frame at.below) at.now.here.number at.now.here.of_frame

    abbrev lc : LoweredCode x.program at.now.here.number lowered.0
    lc = known at.now.here.number lowered.0 lowered.1

    place : (height : ℕ) × HasStep lc.graph.steps at.frame.offset height × IsFull (length at.frame.slots) lc.code height
    place = runs_in x.program at.frame at.now.here.number at.now.here.of_frame fits_here.0.place lowered.0 lc

    abbrev node_at : AtNode x given s
    node_at = record { frame = at.frame; below = at.below; runs = at.runs; frames = at.frames; now = stands_in x program given known exceptions at.frame at.now.here.number at.now.here.of_frame lowered.0 lowered.1 place.1.step place.1.there place.1.offset_is }

    abbrev node_op : Op
    node_op = (here_node p f now lowered.0 lc place.1.step place.1.there place.1.offset_is).node.op

    -- the node returns the value that the instruction returns
    own_op : (b : ℕ) → base p f now lowered.0 lc place.1.step place.1.there place.1.offset_is ≡ b → now.row.action ≡ leave_method → node_op ≡ Return (value_slot b now.row.pops)
    own_op b e leaves =
        subst (λ (a : Action). IsOp a (told p f now b) node_op) leaves
        (subst (λ (k : ℕ). IsOp now.row.action (told p f now k) node_op) e (op p f now lowered.0 lc place.1.step place.1.there place.1.offset_is))

    kept_long : (kept units : List Value) → HasOperands now.row f.slots kept units → base p f now lowered.0 lc place.1.step place.1.there place.1.offset_is ≡ length kept
    kept_long kept units has =
        let whole : length f.slots ≡ length kept + length units = ap length has.parts ∙ length-append kept units in
        let long : length units ≡ length now.row.pops = AllZip-long HasKind now.row.pops units has.kinds in
        let low_at = lowest p f now lowered.0 lc place.1.step place.1.there place.1.offset_is in
        let full = place.2 in
        let height = place.1.height_is in
        omega (arith, whole, long, low_at, full, height)

    pub resume : Resumes x s t at → NodeStep x given s t × Fits x t
    resume a =
        let held = subst (λ (fs : List Frame). FitsBelow x at.frame.method fs) a.below fits_here.1 in
        let node_step : NodeResumes x given s t node_at = record {
          value = value_slot (length a.leaves.kept) now.row.pops;
          is_return = own_op (length a.leaves.kept) (kept_long a.leaves.kept a.leaves.units a.leaves.operands) a.leaves.action;
          caller = a.caller;
          rest = a.rest;
          below = a.below;
          triggered = a.triggered;
          after = a.after;
        } in
        (resumes node_at node_step, subst (λ (u : State). Fits x u) (sym a.after) (held_running x at.frame.method a.caller a.triggered held.0, held.1))

    module _ (a : Returns x s t at) where
      held_caller : FitsHeld x at.frame.method a.caller × FitsBelow x a.caller.method a.rest
      held_caller = subst (λ (fs : List Frame). FitsBelow x at.frame.method fs) a.below fits_here.1

      caller_nodes : HasNodes given a.caller
      caller_nodes = has_nodes a.caller (subst (λ (fs : List Frame). Contains (at.frame ∷ fs) a.caller) (sym a.below) (more_there at.frame a.caller (a.caller ∷ a.rest) (first_there a.caller a.rest)))

      abbrev value : Option ℕ
      value = value_slot (length a.leaves.kept) now.row.pops

      own : node_op ≡ Return (value_slot (length a.leaves.kept) now.row.pops)
      own = own_op (length a.leaves.kept) (kept_long a.leaves.kept a.leaves.units a.leaves.operands) a.leaves.action

      left_behind : AreLeft [] (value_slot (length a.caller.slots) now.row.pops) (returned_value (value_slot (length a.leaves.kept) now.row.pops) at.frame.slots) a.caller.slots (a.caller.slots ++ a.leaves.units)
      left_behind =
          let left = returned_left a.caller.slots a.leaves.kept a.leaves.units now.row.pops (result_kinds now.here.code.method.signature.descriptor a.leaves.parameters now.row.pops a.leaves.results) a.leaves.operands.kinds in
          subst (λ (old : List Value). AreLeft [] (value_slot (length a.caller.slots) now.row.pops) (returned_value (value_slot (length a.leaves.kept) now.row.pops) old) a.caller.slots (a.caller.slots ++ a.leaves.units)) (sym a.leaves.operands.parts) left

      abbrev Shown : Type 0
      Shown = NodeStep x given s t × Fits x t

      -- a caller in code goes on behind its call
      to_code : (there : AtInstruction x.program a.caller) → is_call there.row.action ≡ true → Stands x.program there.here.number a.caller.offset (IsFull (length a.caller.slots + length there.row.pops))
          → ((named : MemberReference) → member_at there.here.code.file.pool there.instruction.operand ≡ Some named → HasDescriptor x.program at.frame.method named.signature.descriptor)
          → a.next ≡ a.caller.offset + there.instruction.size → Shown
      to_code there is stands described next_is =
          let n = there.here.number in
          let of = there.here.of_frame in
          let l = caller_nodes n of in
          let code = known n l.0 l.1 in
          let h = stands l.0 code in
          let step = h.1.step in
          let among = h.1.there in
          let off = h.1.offset_is in
          let node = here_node p a.caller there l.0 code step among off in
          let b = base p a.caller there l.0 code step among off in
          let call = call_at p program a.caller there b node.node.op is (op p a.caller there l.0 code step among off) (shape p a.caller there l.0 code step among off).shape in
          let named = call.1.names.called in
          let text : now.here.code.method.signature.descriptor ≡ named.signature.descriptor = described named call.1.names.named now.here.number now.here.code.method now.here.of_frame now.here.code.stands in
          let results = units_agree now.here.code.method.signature.descriptor named.signature.descriptor a.leaves.parameters now.row.pops call.1.parameters call.1.results text a.leaves.results call.1.described in
          let low_at = lowest p a.caller there l.0 code step among off in
          let full = h.2 in
          let height = h.1.height_is in
          let b_is : b ≡ length a.caller.slots = omega (arith, low_at, full, height) in
          let result : call.0.result ≡ value_slot (length a.caller.slots) now.row.pops = call.1.result ∙ ap (λ (k : ℕ). value_slot k call.1.results) b_is ∙ ap (value_slot (length a.caller.slots)) (sym results.1) in
          let goes_here = onward_next p a.caller there call.1.goes in
          let node_step : NodeReturns x given s t node_at = record {
            value = value_slot (length a.leaves.kept) now.row.pops;
            is_return = own;
            caller = a.caller;
            rest = a.rest;
            below = a.below;
            called = a.called;
            caller_at = stands_in x program given known exceptions a.caller n of l.0 l.1 step among off;
            call = call.0;
            is_call = call.1.is;
            left = a.caller.slots ++ a.leaves.units;
            are_left = subst (λ (o : Option ℕ). AreLeft [] o (returned_value (value_slot (length a.leaves.kept) now.row.pops) at.frame.slots) a.caller.slots (a.caller.slots ++ a.leaves.units)) (sym result) left_behind;
            next = a.next;
            goes = subst (Contains node.node.successors) (sym next_is) (node_goes p a.caller there l.0 code step among off (a.caller.offset + there.instruction.size) (goes_here l.0 code step among off));
            after = a.after;
          } in
          let units_long : length a.leaves.units ≡ length now.row.pops = AllZip-long HasKind now.row.pops a.leaves.units a.leaves.operands.kinds in
          let pushes_long : length there.row.pushes ≡ length now.row.pops = ap length call.1.pushes ∙ length-map call.1.results made_for ∙ ap length (sym results.1) in
          let count : length (a.caller.slots ++ a.leaves.units) ≡ length a.caller.slots + length there.row.pushes = length-append a.caller.slots a.leaves.units ∙ omega (arith, units_long, pushes_long) in
          let moved = moved_stands p a.caller there (a.caller.offset + there.instruction.size) (length (a.caller.slots ++ a.leaves.units)) (length a.caller.slots) goes_here stands count in
          let moved_next = subst (λ (o : ℕ). Stands p n o (IsFull (length (a.caller.slots ++ a.leaves.units)))) (sym next_is) moved in
          (returns node_at node_step, subst (λ (u : State). Fits x u) (sym a.after) (record { awake = refl; place = in_code n of moved_next }, held_caller.1))

      -- the start goes on to its return
      to_start : (none : a.caller.method ≡ None) → a.caller.offset ≡ 0 → now.row.pops ≡ [] → a.next ≡ a.caller.offset + 1 → Shown
      to_start none offset nothing next_is =
          let there = call_stands x given nodes are a.caller none offset in
          let one : a.next ≡ 1 = next_is ∙ omega (arith, offset) in
          let node_step : NodeReturns x given s t node_at = record {
            value = value_slot (length a.leaves.kept) now.row.pops;
            is_return = own;
            caller = a.caller;
            rest = a.rest;
            below = a.below;
            called = a.called;
            caller_at = there;
            call = _;
            is_call = are.is_call.op;
            left = a.caller.slots ++ a.leaves.units;
            are_left = subst (λ (o : Option ℕ). AreLeft [] o (returned_value (value_slot (length a.leaves.kept) now.row.pops) at.frame.slots) a.caller.slots (a.caller.slots ++ a.leaves.units))
                (ap (value_slot (length a.caller.slots)) nothing) left_behind;
            next = a.next;
            goes = subst (λ (ns : List ℕ). Contains ns a.next) (sym are.is_call.successors) (subst (Contains (1 ∷ [])) (sym one) (first_there 1 []));
            after = a.after;
          } in
          (returns node_at node_step, subst (λ (u : State). Fits x u) (sym a.after) (record { awake = refl; place = in_start none }, held_caller.1))

      by_caller : Calling x.program at.frame.method a.caller → IsAfterCall x.program a.caller a.next → Shown
      by_caller (from_start none offset results) (from_the_start none2 next_is) =
          to_start none offset (results now.here.number now.here.code.method now.here.of_frame now.here.code.stands a.leaves.parameters now.row.pops a.leaves.results) next_is
      by_caller (from_start none offset results) (of_code there next_is) = absurd (none-some there.here.number (sym none ∙ there.here.of_frame))
      by_caller (from_code there is stands described) (from_the_start none next_is) = absurd (none-some there.here.number (sym none ∙ there.here.of_frame))
      by_caller (from_code there is stands described) (of_code other next_is) =
          to_code there is stands described (next_is ∙ ap (λ (i : DecodedInstruction). a.caller.offset + i.size) (one_instruction p a.caller other there))

    pub back : Returns x s t at → NodeStep x given s t × Fits x t
    back a = by_caller a (held_calling x at.frame.method a.caller a.called (held_caller a).0) a.goes
