-- Each step of an instruction that goes on, calls or throws is a step of its node.
use Rattle.std.proofs.Common.{◌≡◌, ℕ, ◌+◌, ◌-◌, ◌<◌, ◌≤◌, Bool, true, false, cond, List, ◌∷◌, ◌++◌, length, map, replicate, Option, Some, None, Ok, refl, sym, ap, ◌∙◌, subst, arith, length-append}
use Rattle.std.specs.Bool.{MatchBool}
use Rattle.std.specs.List.{Contains, slice_get}
use Rattle.std.specs.Str.{bytes_eq}
use Rattle.std.proofs.lemmas.List.{get_or-append-add, length-replicate}
use Rattle.std.proofs.lemmas.Option.{same_Some}
use Rattle.std.proofs.lemmas.Slice.Zip.{AllZip-long}
use Rattle.jvm_model.specs.declared.number.ClassNo.{ClassNo}
use Rattle.jvm_model.specs.Code.{CodeBody}
use Rattle.jvm_model.specs.Instructions.{HasDescriptorUnits, made_for}
use Rattle.jvm_model.specs.LinkedPrograms.{IsProgram}
use Rattle.jvm_model.specs.Lookups.{MemberReference, Signature}
use Rattle.jvm_model.specs.Programs.{Method, Program, is_static}
use Rattle.jvm_model.specs.Table.{UnitSource, onward, Action, plain, load_constant, load_element, store_element, probe_element, probe_array, probe_object, get_static, put_static, get_field, put_field, invoke_virtual, invoke_special, invoke_static, invoke_interface, make_object, make_array, throw_object, cast, leave_method, refused, is_call, Raise, null_pointer, array_index, array_store, arithmetic, class_cast, negative_size}
use Rattle.flow_graph.specs.declared.steps.GraphStep.{GraphStep}
use Rattle.flow_graph.specs.Flows.{may_go_next}
use Rattle.flow_graph.specs.Graphing.{HasStep}
use Rattle.op_model.specs.declared.lowered.LoweredMethod.{LoweredMethod}
use Rattle.op_model.specs.declared.op.Call.{Call as NodeCall}
use Rattle.op_model.specs.declared.op.Op.{Op}
use Rattle.op_model.specs.declared.op.Op.TheVariants.{Throw}
use Rattle.op_model.specs.Supplies.{Given}
use Rattle.machine_bytecode.specs.Described.{GivesResult, ThrowsListed}
use Rattle.machine_bytecode.specs.Events.{HasEvents}
use Rattle.machine_bytecode.specs.Machine.{Advances, At, AtInstruction, Calls, EntersTarget, GetsException, GetsResult, HasKind, HasOperands, IsOpen, Raises, Throws, effect, entered, exception_class, value_of}
use Rattle.machine_bytecode.specs.Objects.{Subject}
use Rattle.machine_bytecode.specs.States.{Frame, running, State, Value, is_reference_type, null_value, primitive_value, slot_at, waiting}
use Rattle.machine_nodes.specs.Nodes.{IsClassNumber, StandsAt, of_method, raised}
use Rattle.machine_nodes.specs.NodeSteps.{AtNode, IsTargetOf, Leads, NodeStep, is_selecting_kind}
use Rattle.machine_nodes.specs.NodeSteps.{Advances as NodeAdvances, advances, Calls as NodeCalls, EntersTarget as NodeEnters, enters, GetsResult as NodeResult, gets_result, GetsException as NodeException, gets_exception, Raises as NodeRaises, raises, Throws as NodeThrows, throws}
use Rattle.machine_nodes.specs.Slots.{AreLeft, AreSame, argument_slots, argument_values}
use Rattle.lowering_spec.specs.Operations.{IsAssign, IsOp, Placed, value_slot}
use Rattle.program_laws.proofs.Orders.{first_there}
use Rattle.simulation.proofs.CallNodes.{CallAt, arguments_are, call_at, call_popped, calls_it, node_target, result_kinds, result_left}
use Rattle.simulation.proofs.Effects.{length_after}
use Rattle.simulation.proofs.Fits.{Calling, FitsBelow, FitsRunning, FitsThrowing, Fits, HasDescriptor, IsFull, RunsAt, Stands, called, fits_at, from_code, in_code, running_throws, runs_in}
use Rattle.simulation.proofs.Known.{LoweredCode, base, enough, goes_after, goes_on, here_node, lowest, next_step, node_goes, node_here, op, same_code, shape, stores_within, throws as lists, told}
use Rattle.simulation.proofs.Leads.{effect_pushed, leads_by, top}
use Rattle.simulation.proofs.Left.{ArePopped, arguments_same, left_none}
use Rattle.simulation.proofs.Parameters.{parameters_fit}
use Rattle.simulation.proofs.Targets.{has_receiver, is_called}
use Rattle.simulation.specs.Simulation.{AreLowered, exception_names}

-- a frame that goes on at a successor, with what is pushed in place of what is popped
pub moved_stands : (p : Program) (f : Frame) (now : AtInstruction p f) (next count kept : ℕ)
    → ((l : LoweredMethod) (lc : LoweredCode p now.here.number l) (step : GraphStep) → Contains lc.graph.steps step → step.offset ≡ f.offset → Contains step.successors next)
    → Stands p now.here.number f.offset (IsFull (kept + length now.row.pops)) → count ≡ kept + length now.row.pushes → Stands p now.here.number next (IsFull count)
moved_stands p f now next count kept goes stands e l lc =
    let h = stands l lc in
    let step = h.1.step in
    let there = h.1.there in
    let at = h.1.offset_is in
    let n = next_step p f now l lc step there at next (goes l lc step there at) in
    let few = enough p f now l lc step there at in
    let height : step.height ≡ h.0 = h.1.height_is in
    let full = h.2 in
    (_, n, omega (arith, e, few, height, full))

-- a call goes on at the next instruction
pub onward_next : (p : Program) (f : Frame) (now : AtInstruction p f) → now.row.flow ≡ onward → (l : LoweredMethod) (lc : LoweredCode p now.here.number l) (step : GraphStep) → Contains lc.graph.steps step → step.offset ≡ f.offset
    → Contains step.successors (f.offset + now.instruction.size)
onward_next p f now e l lc step there at = goes_after p f now l lc step there at (ap may_go_next e)

static_throws : (i : Placed) (b : Bool) (o other : Op) → ((value : ℕ) → other ≡ Throw value → ⊥) → MatchBool b (o ≡ other) (IsAssign i o) → (value : ℕ) → o ≡ Throw value → ⊥
static_throws i true o other none is value e = none value (sym is ∙ e)
static_throws i false o other none is value e = absurd (cc (is.is, e))

field_throws : (b : Bool) (one two : Op) → ((value : ℕ) → one ≡ Throw value → ⊥) → ((value : ℕ) → two ≡ Throw value → ⊥) → (value : ℕ) → cond b one two ≡ Throw value → ⊥
field_throws true one two no_one no_two value e = no_one value e
field_throws false one two no_one no_two value e = no_two value e

-- the slot of a throw is the lowest one
throw_slot : (a : Action) (i : Placed) (o : Op) → IsOp a i o → (value : ℕ) → o ≡ Throw value → value ≡ i.base
throw_slot throw_object i o is value e = cc (is, e)
throw_slot plain i o is value e = absurd (cc (is.is, e))
throw_slot load_constant i o is value e = absurd (cc (is.2, e))
throw_slot load_element i o is value e = absurd (cc (is, e))
throw_slot store_element i o is value e = absurd (cc (is, e))
throw_slot probe_element i o is value e = absurd (cc (is, e))
throw_slot probe_array i o is value e = absurd (cc (is, e))
throw_slot probe_object i o is value e = absurd (cc (is, e))
throw_slot get_static i o is value e = absurd (static_throws i (is_reference_type is.names.field.signature.descriptor) o _ (λ v h. cc) is.is value e)
throw_slot put_static i o is value e = absurd (static_throws i (is_reference_type is.names.field.signature.descriptor) o _ (λ v h. cc) is.is value e)
throw_slot get_field i o is value e = absurd (field_throws (is_reference_type is.names.field.signature.descriptor) _ _ (λ v h. cc) (λ v h. cc) value (sym is.is ∙ e))
throw_slot put_field i o is value e = absurd (field_throws (is_reference_type is.names.field.signature.descriptor) _ _ (λ v h. cc) (λ v h. cc) value (sym is.is ∙ e))
throw_slot invoke_virtual i o is value e = absurd (cc (is.is, e))
throw_slot invoke_special i o is value e = absurd (cc (is.is, e))
throw_slot invoke_static i o is value e = absurd (cc (is.is, e))
throw_slot invoke_interface i o is value e = absurd (cc (is.is, e))
throw_slot make_object i o is value e = absurd (cc (is.1, e))
throw_slot make_array i o is value e = absurd (cc (is.2, e))
throw_slot cast i o is value e = absurd (cc (is.1, e))
throw_slot leave_method i o is value e = absurd (cc (is, e))
throw_slot refused i o is value e = absurd is

never : false ≡ true → ⊥
never e = cc

-- only null raises the exception of null
null_alone : (r : Raise) → exception_class r ≡ exception_class null_pointer → r ≡ null_pointer
null_alone null_pointer e = refl
null_alone array_index e = absurd (never (ap (λ (c : List ℕ). bytes_eq c (exception_class null_pointer)) e))
null_alone array_store e = absurd (never (ap (λ (c : List ℕ). bytes_eq c (exception_class null_pointer)) e))
null_alone arithmetic e = absurd (never (ap (λ (c : List ℕ). bytes_eq c (exception_class null_pointer)) e))
null_alone class_cast e = absurd (never (ap (λ (c : List ℕ). bytes_eq c (exception_class null_pointer)) e))
null_alone negative_size e = absurd (never (ap (λ (c : List ℕ). bytes_eq c (exception_class null_pointer)) e))

raised_there : (r : Raise) → Contains exception_names (exception_class r)
raised_there null_pointer = (2, omega arith, refl)
raised_there array_index = (3, omega arith, refl)
raised_there array_store = (4, omega arith, refl)
raised_there arithmetic = (5, omega arith, refl)
raised_there class_cast = (6, omega arith, refl)
raised_there negative_size = (7, omega arith, refl)

module _ (x : Subject) (program : IsProgram x.program) (given : Given) (known : (number : ℕ) (l : LoweredMethod) → given number ≡ Some (Ok l) → LoweredCode x.program number l)
    (exceptions : (name : List ℕ) → Contains exception_names name → (c : ClassNo) × IsClassNumber x.program c name) where
  -- a frame of a method that has nodes stands at one
  abbrev pub stands_in : (f : Frame) (number : ℕ) → f.method ≡ Some number → (l : LoweredMethod) (is : given number ≡ Some (Ok l)) (step : GraphStep) → Contains (known number l is).graph.steps step → step.offset ≡ f.offset → StandsAt x given f
  stands_in f number of l is step there at =
      let node = node_here x.program number l (known number l is) step there f.offset at in
      record { locals = l.slots; nodes = l.nodes; of_method = of_method number l of is refl refl; node = node.node; is = node.found }

  module _ (s t : State) (fits : Fits x s) (low : AreLowered given s) (at : At x.program s) where
    abbrev p : Program
    p = x.program

    abbrev f : Frame
    f = at.frame

    abbrev now : AtInstruction x.program at.frame
    now = at.now

    abbrev number : ℕ
    number = at.now.here.number

    fits_here : FitsRunning x.program at.frame × FitsBelow x at.frame.method at.below
    fits_here = fits_at x s running (at.frame ∷ at.below) at.runs at.frames fits

    runs : Stands x.program at.now.here.number at.frame.offset (IsFull (length at.frame.slots))
    runs = runs_in x.program at.frame at.now.here.number at.now.here.of_frame fits_here.0.place

    lowered : (l : LoweredMethod) × (given at.now.here.number ≡ Some (Ok l))
    lowered = low.each at.frame (subst (λ (fs : List Frame). Contains fs at.frame) (sym at.frames) (first_there at.frame at.below)) at.now.here.number at.now.here.of_frame

    abbrev lc : LoweredCode x.program at.now.here.number lowered.0
    lc = known at.now.here.number lowered.0 lowered.1

    place : (height : ℕ) × HasStep lc.graph.steps at.frame.offset height × IsFull (length at.frame.slots) lc.code height
    place = runs lowered.0 lc

    abbrev step : GraphStep
    step = place.1.step

    abbrev there : Contains lc.graph.steps place.1.step
    there = place.1.there

    abbrev off : place.1.step.offset ≡ at.frame.offset
    off = place.1.offset_is

    abbrev node_at : AtNode x given s
    node_at = record { frame = at.frame; below = at.below; runs = at.runs; frames = at.frames; now = stands_in at.frame at.now.here.number at.now.here.of_frame lowered.0 lowered.1 place.1.step place.1.there place.1.offset_is }

    abbrev node_op : Op
    node_op = (here_node p f now lowered.0 lc step there off).node.op

    -- ---- operands

    popped_long : (kept units : List Value) → HasOperands now.row f.slots kept units → length units ≡ length now.row.pops
    popped_long kept units has = AllZip-long HasKind now.row.pops units has.kinds

    whole_long : (kept units : List Value) → HasOperands now.row f.slots kept units → length f.slots ≡ length kept + length now.row.pops
    whole_long kept units has = ap length has.parts ∙ length-append kept units ∙ ap (λ (n : ℕ). length kept + n) (popped_long kept units has)

    kept_runs : (kept units : List Value) → HasOperands now.row f.slots kept units → Stands p number f.offset (IsFull (length kept + length now.row.pops))
    kept_runs kept units has = subst (λ (n : ℕ). Stands p number f.offset (IsFull n)) (whole_long kept units has) runs

    kept_long : (kept units : List Value) → HasOperands now.row f.slots kept units → base p f now lowered.0 lc step there off ≡ length kept
    kept_long kept units has =
        let whole = whole_long kept units has in
        let low_at = lowest p f now lowered.0 lc step there off in
        let full = place.2 in
        let height = place.1.height_is in
        omega (arith, whole, low_at, full, height)

    stores_fit : (kept units : List Value) → HasOperands now.row f.slots kept units → 0 < length now.row.stores → now.instruction.operand + length now.row.stores ≤ length kept
    stores_fit kept units has some =
        let within = stores_within p f now lowered.0 lc step there off some in
        let few = enough p f now lowered.0 lc step there off in
        let low_at = lowest p f now lowered.0 lc step there off in
        let same = kept_long kept units has in
        omega (arith, within, few, low_at, same)

    op_at : (kept units : List Value) → HasOperands now.row f.slots kept units → IsOp now.row.action (told p f now (length kept)) node_op
    op_at kept units has = subst (λ (b : ℕ). IsOp now.row.action (told p f now b) node_op) (kept_long kept units has) (op p f now lowered.0 lc step there off)

    -- ---- going on

    pub advance : Advances x s t at → NodeStep x given s t × Fits x t
    advance a =
        let slots = effect now.row now.instruction.operand a.made a.kept a.units in
        let op_here = op_at a.kept a.units a.operands in
        let fit = stores_fit a.kept a.units a.operands in
        let shaped = shape p f now lowered.0 lc step there off in
        let leads = leads_by x program f now a.kept a.units a.made s.world a.world node_op a.operands.kinds fit now.row.action shaped.shape op_here a.makes in
        let node_step : NodeAdvances x given s t node_at = record {
          left = slots;
          world = a.world;
          next = a.next;
          leads = subst (λ (old : List Value). Leads node_op x s.world old slots a.world) (sym a.operands.parts) leads;
          goes = node_goes p f now lowered.0 lc step there off a.next (goes_on p f now lowered.0 lc step there off s.world a.units a.next a.goes);
          after = a.after;
        } in
        let moved = moved_stands p f now a.next (length slots) (length a.kept) (λ l c st th o. goes_on p f now l c st th o s.world a.units a.next a.goes) (kept_runs a.kept a.units a.operands)
        (length_after now.row now.instruction.operand a.made a.kept a.units) in
        (advances node_at node_step, subst (λ (u : State). Fits x u) (sym a.after) (record { awake = refl; place = in_code number now.here.of_frame moved }, fits_here.1))

    -- ---- calls

    module _ (c : Calls x s at) where
      is_a_call : is_call now.row.action ≡ true
      is_a_call = calls_it p program f now (length c.kept) node_op now.row.action c.names s.world c.units c.target c.is_target

      told_call : (call : NodeCall) × CallAt p f now (length c.kept) node_op call
      told_call = call_at p program f now (length c.kept) node_op is_a_call (op_at c.kept c.units c.operands) (shape p f now lowered.0 lc step there off).shape

      reads_as : (i : ℕ) → slot_at f.slots (length c.kept + i) ≡ slot_at c.units i
      reads_as i = ap (λ (vs : List Value). slot_at vs (length c.kept + i)) c.operands.parts ∙ get_or-append-add c.kept c.units i primitive_value

      units_are : argument_values told_call.0.arguments f.slots ≡ c.units
      units_are =
          ap (λ (a : List (Option ℕ)). argument_values a f.slots) told_call.1.arguments
          ∙ arguments_are now.row.pops c.units f.slots (length c.kept) told_call.1.pops c.operands.kinds reads_as

      node_target_at : (m : Method) × (slice_get p.methods told_call.0.resolved.0 ≡ Some m) × IsTargetOf told_call.0.kind p told_call.0 m s.world c.units c.target
      node_target_at = node_target p program f now (length c.kept) node_op now.row.action (op_at c.kept c.units c.operands) c.names s.world c.units c.target c.is_target told_call.0 told_call.1.is

      called_is : c.names.called ≡ told_call.1.names.called
      called_is = same_Some c.names.called told_call.1.names.called (sym c.names.named ∙ told_call.1.names.named)

      events_are : HasEvents x (is_selecting_kind told_call.0.kind) (record { name = told_call.0.name; descriptor = told_call.0.descriptor }) (argument_values told_call.0.arguments f.slots) s.world c.world
      events_are =
          subst (λ (vs : List Value). HasEvents x (is_selecting_kind told_call.0.kind) (record { name = told_call.0.name; descriptor = told_call.0.descriptor }) vs s.world c.world) (sym units_are)
          (subst (λ (g : Signature). HasEvents x (is_selecting_kind told_call.0.kind) g c.units s.world c.world) (ap (λ (r : MemberReference). r.signature) called_is ∙ sym told_call.1.signature)
          (subst (λ (b : Bool). HasEvents x b c.names.called.signature c.units s.world c.world) (sym told_call.1.selects) c.events))

      abbrev node_calls : NodeCalls x given s node_at
      node_calls = record {
        number = now.here.number;
        in_method = now.here.of_frame;
        call = told_call.0;
        is_call = told_call.1.is;
        resolved = node_target_at.0;
        stands = node_target_at.1;
        target = c.target;
        is_target = subst (λ (vs : List Value). IsTargetOf told_call.0.kind p told_call.0 node_target_at.0 s.world vs c.target) (sym units_are) node_target_at.2;
        world = c.world;
        events = events_are;
      }

      popped_here : ArePopped c.kept c.units (argument_slots told_call.0.arguments)
      popped_here = subst (λ (a : List (Option ℕ)). ArePopped c.kept c.units (argument_slots a)) (sym told_call.1.arguments) (call_popped c.kept c.units now.row.pops told_call.1.pops c.operands.kinds)

      -- the target has the descriptor that is named
      target_described : HasDescriptor p (Some c.target) told_call.1.names.called.signature.descriptor
      target_described n m same stands =
          let is = is_called p now.here.code.method.class now.here.code.file.pool now.instruction.operand c.names s.world c.units c.target now.row.action c.is_target in
          let number_is : c.target ≡ n = same_Some c.target n same in
          let method : m ≡ is.method = same_Some m is.method (sym stands ∙ ap (slice_get p.methods) (sym number_is) ∙ is.stands) in
          ap (λ (k : Method). k.signature.descriptor) method ∙ ap (λ (g : Signature). g.descriptor) is.same_call ∙ ap (λ (r : MemberReference). r.signature.descriptor) called_is

      -- the new frame has its method's local variables
      units_fit : (l : LoweredMethod) (code : LoweredCode p c.target l) → length c.units ≤ code.code.max_locals
      units_fit l code =
          let is = is_called p now.here.code.method.class now.here.code.file.pool now.instruction.operand c.names s.world c.units c.target now.row.action c.is_target in
          let method : code.method ≡ is.method = same_Some code.method is.method (sym code.stands ∙ is.stands) in
          let text : told_call.1.names.called.signature.descriptor ≡ code.method.signature.descriptor = sym (target_described c.target code.method refl code.stands) in
          let fits = parameters_fit p program c.target l code told_call.1.parameters told_call.1.results (subst (λ (d : List ℕ). HasDescriptorUnits d told_call.1.parameters told_call.1.results) text told_call.1.described) in
          let long = popped_long c.kept c.units c.operands in
          let count = told_call.1.count in
          by (has_receiver now.row.action) refl (λ e. ap is_static method ∙ is.instance e) fits (long ∙ count)
        where
          by : (b : Bool) → has_receiver now.row.action ≡ b → (has_receiver now.row.action ≡ true → is_static code.method ≡ false) → cond (is_static code.method) 0 1 + length told_call.1.parameters ≤ code.code.max_locals
              → length c.units ≡ cond (has_receiver now.row.action) 1 0 + length told_call.1.parameters → length c.units ≤ code.code.max_locals
          by true e instance fit counted =
              let one : ◌≡◌ {A = ℕ} (cond (is_static code.method) 0 1) 1 = ap (λ (b : Bool). cond b 0 1) (instance e) in
              let receiver : ◌≡◌ {A = ℕ} (cond (has_receiver now.row.action) 1 0) 1 = ap (λ (b : Bool). cond b 1 0) e in
              omega (arith, one, receiver, fit, counted)
          by false e instance fit counted =
              let receiver : ◌≡◌ {A = ℕ} (cond (has_receiver now.row.action) 1 0) 0 = ap (λ (b : Bool). cond b 1 0) e in
              omega (arith, receiver, fit, counted)

      waits_here : Calling p (Some c.target) (waiting f c.kept)
      waits_here =
          from_code (record { here = record { number = now.here.number; of_frame = now.here.of_frame; code = now.here.code }; instruction = now.instruction; is = now.is; row = now.row; of_row = now.of_row })
          is_a_call (kept_runs c.kept c.units c.operands)
          (λ named is. let same : told_call.1.names.called ≡ named = same_Some told_call.1.names.called named (sym told_call.1.names.named ∙ is) in
          subst (λ (r : MemberReference). HasDescriptor p (Some c.target) r.signature.descriptor) same target_described)

    pub enter : AreLowered given t → EntersTarget x s t at → NodeStep x given s t × Fits x t
    enter low_t e =
        let c = e.call in
        let new = entered c.target e.enters.code.body c.units in
        let frames : t.frames ≡ new ∷ waiting f c.kept ∷ at.below = ap (λ (u : State). u.frames) e.enters.after in
        let l = low_t.each new (subst (λ (fs : List Frame). Contains fs new) (sym frames) (first_there new (waiting f c.kept ∷ at.below))) c.target refl in
        let left = left_none c.kept c.units (argument_slots (told_call c).0.arguments) primitive_value (popped_here c) in
        let node_step : NodeEnters x given s t node_at = record {
          calls = node_calls c;
          left = c.kept;
          are_left = subst (λ (old : List Value). AreLeft (argument_slots (told_call c).0.arguments) None primitive_value old c.kept) (sym c.operands.parts) left;
          enters = record {
            method = l.0;
            is_given = l.1;
            slots = c.units ++ replicate (e.enters.code.body.max_locals - length c.units) primitive_value;
            arguments = subst (λ (vs : List Value). AreSame vs (c.units ++ replicate (e.enters.code.body.max_locals - length c.units) primitive_value)) (sym (units_are c)) (arguments_same c.units (e.enters.code.body.max_locals - length c.units));
            after = e.enters.after;
          };
        } in
        let runs_new : RunsAt p new = in_code c.target refl (λ k code.
        (let fit = units_fit c k code in
        let body : e.enters.code.body.max_locals ≡ code.code.max_locals = ap (λ (b : CodeBody). b.max_locals) (same_code p c.target e.enters.code k code).body ∙ sym code.same.max_locals in
        (0, code.flow.has_first, omega (arith, fit, body, length-append c.units (replicate (e.enters.code.body.max_locals - length c.units) primitive_value), length-replicate (e.enters.code.body.max_locals - length c.units) primitive_value)))) in (
          enters node_at node_step,
          subst (λ (u : State). Fits x u) (sym e.enters.after) (record { awake = refl; place = runs_new }, (called refl (waits_here c), fits_here.1)),
        )

    pub result : GetsResult x s t at → NodeStep x given s t × Fits x t
    result e =
        let c = e.call in
        let call = told_call c in
        let slots = effect now.row now.instruction.operand e.made c.kept c.units in
        let value = value_of e.made (slot_at (c.kept ++ c.units) now.instruction.operand) c.units in
        let kinds = result_kinds call.1.names.called.signature.descriptor call.1.parameters call.1.results call.1.described in
        let left = result_left c.kept c.units (argument_slots call.0.arguments) call.1.results e.made value refl refl kinds (popped_here c) in
        let slots_are : slots ≡ c.kept ++ map value (map made_for call.1.results) =
        effect_pushed now.row now.instruction.operand e.made c.kept c.units call.1.stores ∙ ap (λ (us : List UnitSource). c.kept ++ map value us) call.1.pushes in
        let next = f.offset + now.instruction.size in
        let node_step : NodeResult x given s t node_at = record {
          calls = node_calls c;
          value = e.made;
          world = e.world;
          gives = subst (λ (vs : List Value). GivesResult x c.target f vs c.world e.made e.world) (sym (units_are c)) e.gives;
          left = slots;
          are_left = subst (λ (o : Option ℕ). AreLeft (argument_slots call.0.arguments) o e.made f.slots slots) (sym call.1.result)
              (subst (λ (new : List Value). AreLeft (argument_slots call.0.arguments) (value_slot (length c.kept) call.1.results) e.made f.slots new) (sym slots_are)
              (subst (λ (old : List Value). AreLeft (argument_slots call.0.arguments) (value_slot (length c.kept) call.1.results) e.made old (c.kept ++ map value (map made_for call.1.results))) (sym c.operands.parts) left));
          next = next;
          goes = node_goes p f now lowered.0 lc step there off next (onward_next p f now call.1.goes lowered.0 lc step there off);
          after = e.after;
        } in
        let moved = moved_stands p f now next (length slots) (length c.kept) (onward_next p f now call.1.goes) (kept_runs c.kept c.units c.operands) (length_after now.row now.instruction.operand e.made c.kept c.units) in
        (gets_result node_at node_step, subst (λ (u : State). Fits x u) (sym e.after) (record { awake = refl; place = in_code number now.here.of_frame moved }, fits_here.1))

    -- ---- exceptions

    throws_here : FitsThrowing p f
    throws_here = running_throws p f now fits_here.0.place

    pub exception : GetsException x s t at → NodeStep x given s t × Fits x t
    exception e =
        let node_step : NodeException x given s t node_at = record {
          calls = node_calls e.call;
          thrown = e.thrown;
          world = e.world;
          throws = subst (λ (vs : List Value). ThrowsListed x e.call.target f vs e.call.world e.thrown e.world) (sym (units_are e.call)) e.throws;
          after = e.after;
        } in
        (gets_exception node_at node_step, subst (λ (u : State). Fits x u) (sym e.after) (throws_here, fits_here.1))

    open_null : (r : Raise) → r ≡ null_pointer → (units : List Value) → IsOpen r x now.row.action now.here.code.file.pool now.instruction.operand s.world units → slot_at units 0 ≡ null_value
    open_null r e units is = subst (λ (k : Raise). IsOpen k x now.row.action now.here.code.file.pool now.instruction.operand s.world units) e is

    pub raise : Raises x s t at → NodeStep x given s t × Fits x t
    raise a =
        let name = exception_class a.raise in
        let class = exceptions name (raised_there a.raise) in
        let listed = (lists p f now lowered.0 lc step there off).all class.0 name class.1 (raised a.raise a.listed refl) in
        let node_step : NodeRaises x given s t node_at = record {
          number = class.0;
          listed = listed;
          class = name;
          is_class = class.1;
          of_null = λ value is e.
              (let slot : value ≡ length a.kept = throw_slot now.row.action (told p f now (length a.kept)) node_op (op_at a.kept a.units a.operands) value is in
              ap (slot_at f.slots) slot ∙ ap (λ (vs : List Value). slot_at vs (length a.kept)) a.operands.parts ∙ top a.kept a.units ∙ open_null a.raise (null_alone a.raise e) a.units a.open_);
          throws = a.throws;
        } in
        (raises node_at node_step, subst (λ (u : State). Fits x u) (sym a.throws.after) (throws_here, fits_here.1))

    pub throw : Throws x s t at → NodeStep x given s t × Fits x t
    throw a =
        let op_is : node_op ≡ Throw (length a.kept) = subst (λ (b : Action). IsOp b (told p f now (length a.kept)) node_op) a.action (op_at a.kept a.units a.operands) in
        let at_slot : slot_at f.slots (length a.kept) ≡ slot_at a.units 0 = ap (λ (vs : List Value). slot_at vs (length a.kept)) a.operands.parts ∙ top a.kept a.units in
        let to = a.thrown.to in
        let node_step : NodeThrows x given s t node_at = record {
          value = length a.kept;
          is_throw = op_is;
          thrown = record { to = record { place = to.place; is = at_slot ∙ to.is; object = to.object; held = to.held }; fits = a.thrown.fits };
          after = a.after;
        } in
        (throws node_at node_step, subst (λ (u : State). Fits x u) (sym a.after) (throws_here, fits_here.1))
