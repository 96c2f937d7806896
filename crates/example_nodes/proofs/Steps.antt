-- Executions up to a state, of bytecode and on nodes at once, and steps from it.
use Rattle.std.proofs.Common.{◌≡◌, ℕ, zero, suc, ◌+◌, Bool, true, false, ◌&&◌, cond, nat_eq, List, [], ◌∷◌, ◌++◌, find, Option, Some, None, Result, Ok, Err, slice_get, refl, sym, subst, append_assoc, option_and_then}
use Rattle.std.proofs.lemmas.Bool.{and_parts}
use Rattle.std.proofs.lemmas.Option.{same_Some, none-some}
use Rattle.jvm_model.specs.declared.reason.Reason.{Reason}
use Rattle.jvm_model.specs.Instructions.{DecodedInstruction, instruction_at}
use Rattle.op_model.specs.declared.lowered.LoweredMethod.{LoweredMethod}
use Rattle.op_model.specs.declared.node.Node.{Node}
use Rattle.op_model.specs.declared.op.Op.{Op}
use Rattle.op_model.specs.declared.op.Op.TheVariants.{Assign}
use Rattle.op_model.specs.Supplies.{Given}
use Rattle.machine_bytecode.proofs.GoingOn.{goes_on}
use Rattle.machine_bytecode.specs.Executions.{IsExecution}
use Rattle.machine_bytecode.specs.Machine.{MethodCode, AtStart, entered, Step, advances, enters_entry}
use Rattle.machine_bytecode.specs.Objects.{Subject}
use Rattle.machine_bytecode.specs.Start.{IsFirst, arguments_of, AreArgumentObjects, start_frame}
use Rattle.machine_bytecode.specs.States.{Value, primitive_value, Object, Frame, World, State, runs_on}
use Rattle.example_machine.proofs.Runs.{first_world, started_in, entered_in, statics_of, frame_at, advance, plain_there, units_of, is_plain, is_onward, operands_fit, begins_so, plain_row, plain_makes, onward_goes, plain_effect}
use Rattle.example_machine.specs.Taking.{Advancing, Shows}
use Rattle.machine_nodes.specs.NodeExecutions.{IsNodeExecution}
use Rattle.machine_nodes.specs.Nodes.{StandsAt, of_method}
use Rattle.machine_nodes.specs.NodeSteps.{AtNode, NodeStep, Leads, advances as advances_node, enters_entry as enters_entry_node}
use Rattle.example_nodes.specs.Taking.{TakesNode, Operating, OperatesTo}
use Rattle.machine_nodes.proofs.GoingOn.{goes_on as goes_on_node}
use Rattle.example_nodes.proofs.Slots.{moves_to, are_moved_by, is_among, stands_among, reads_alike, read_alike}

-- ---- executions up to a state

pub record Arrives (x : Subject) (given : Given) (s : State) : Type 0 where
  pub states : List State
  pub of_bytecode : IsExecution x (states ++ s ∷ [])
  pub of_nodes : IsNodeExecution x given (states ++ s ∷ [])

pub goes : (x : Subject) (given : Given) (s t : State) → Arrives x given s → Step x s t → NodeStep x given s t → Arrives x given t
goes x given s t a step node_step = record {
  states = a.states ++ s ∷ [];
  of_bytecode = subst (IsExecution x) (sym (append_assoc a.states (s ∷ []) (t ∷ []))) (goes_on x a.states s t a.of_bytecode step);
  of_nodes = subst (IsNodeExecution x given) (sym (append_assoc a.states (s ∷ []) (t ∷ []))) (goes_on_node x given a.states s t a.of_nodes node_step);
}

pub takes : (x : Subject) (given : Given) (Kind : State → State → Type 0) (s t : State) → Arrives x given s → Step x s t → NodeStep x given s t → Kind s t → TakesNode x given Kind
takes x given Kind s t a step node_step is = record {
  states = a.states;
  before = s;
  after = t;
  of_bytecode = goes_on x a.states s t a.of_bytecode step;
  of_nodes = goes_on_node x given a.states s t a.of_nodes node_step;
  is = is;
}

-- ---- the first state, and the call of the entry

abbrev first_there : (x : Subject) (code : MethodCode x.program x.entry) (objects : List Object) → AreArgumentObjects x code.method objects → IsFirst x (started_in (first_world x objects))
first_there x code objects arguments = record {
  entry = code.method;
  stands = code.stands;
  objects = objects;
  arguments = arguments;
  statics = statics_of x.program;
  begins = λ number. begins_so x.program number (slice_get x.program.fields number) refl;
  is = refl;
}

pub starts_at : (x : Subject) (given : Given) (code : MethodCode x.program x.entry) (objects : List Object) → AreArgumentObjects x code.method objects → Arrives x given (started_in (first_world x objects))
starts_at x given code objects arguments = record {
  states = [];
  of_bytecode = record { first = _; others = []; begins = refl; is_first = first_there x code objects arguments; steps = tt };
  of_nodes = record { first = _; others = []; begins = refl; is_first = first_there x code objects arguments; steps = tt };
}

abbrev pub at_start : (w : World) → AtStart (started_in w) 0
at_start w = record { frame = start_frame; below = []; runs = refl; frames = refl; no_method = refl; stands = refl }

pub enters_at : (x : Subject) (given : Given) (code : MethodCode x.program x.entry) (m : LoweredMethod) → given x.entry ≡ Some (Ok m)
    → reads_alike (arguments_of x.program code.method) (entered x.entry code.body (arguments_of x.program code.method)).slots ≡ true
    → (w : World) → Arrives x given (started_in w) → Arrives x given (entered_in x code w)
enters_at x given code m is_given alike w a =
    goes x given _ _ a (enters_entry (at_start w) (record { code = code; enters = record { code = code; after = refl } }))
    (enters_entry_node (at_start w) (record {
      entry = code.method;
      stands = code.stands;
      left = [];
      are_left = λ z. refl;
      enters = record { method = m; is_given = is_given; slots = _; arguments = read_alike _ _ alike; after = refl };
    }))

-- ---- where a frame stands

abbrev pub node_at : ℕ → List Node → Option Node
node_at offset nodes = find (λ (n : Node). nat_eq n.offset offset) nodes

abbrev pub stands_on : (x : Subject) (given : Given) (number : ℕ) (m : LoweredMethod) → given number ≡ Some (Ok m) → (offset : ℕ) (slots : List Value) (waits : Bool)
    → (n : Node) → node_at offset m.nodes ≡ Some n → StandsAt x given (record { method = Some number; offset = offset; slots = slots; waits = waits })
stands_on x given number m is_given offset slots waits n is =
    record { locals = m.slots; nodes = m.nodes; of_method = of_method number m refl is_given refl refl; node = n; is = is }

abbrev pub runs_there : (x : Subject) (given : Given) (f : Frame) (below : List Frame) (w : World) → StandsAt x given f → AtNode x given (runs_on (f ∷ below) w)
runs_there x given f below w now = record { frame = f; below = below; runs = refl; frames = refl; now = now }

-- ---- moves

abbrev pub assigns : Op → List Value → List Value → Bool
assigns (Assign moves) before after = moves_to moves before after
assigns _ before after = false

assigns_leads : (op : Op) (x : Subject) (w : World) (before after : List Value) → assigns op before after ≡ true → Leads op x w before after w
assigns_leads (Assign moves) x w before after e = (are_moved_by moves before after e, refl)
assigns_leads _ x w before after e = absurd cc

-- a node does the same, and goes on there
abbrev follows : Node → ℕ → List Value → List Value → Bool
follows n next before after = assigns n.op before after && is_among n.successors next

abbrev pub next_by : ℕ → List Value → Result DecodedInstruction Reason → Option Node → Option (ℕ × List Value)
next_by offset slots (Err r) o = None
next_by offset slots (Ok i) None = None
next_by offset slots (Ok i) (Some n) = cond (plain_there i slots && follows n (offset + i.size) slots (plain_effect i slots)) (Some (offset + i.size, plain_effect i slots)) None

abbrev pub plain_next : ℕ → List ℕ → List Node → ℕ → List Value → Option (ℕ × List Value)
plain_next zero bytes nodes offset slots = Some (offset, slots)
plain_next (suc count) bytes nodes offset slots = option_and_then (λ (n : ℕ × List Value). plain_next count bytes nodes n.0 n.1) (next_by offset slots (instruction_at bytes offset) (node_at offset nodes))

module _ (x : Subject) (given : Given) (number : ℕ) (c : MethodCode x.program number) (m : LoweredMethod) (is_given : given number ≡ Some (Ok m)) (below : List Frame) where
  abbrev there : ℕ → List Value → World → State
  there offset slots w = runs_on (frame_at number offset slots ∷ below) w

  -- an operation goes on
  pub operate : (offset : ℕ) (slots : List Value) (w : World) (n : Node) → node_at offset m.nodes ≡ Some n → (left : List Value) (after : World) (next : ℕ)
      → Leads n.op x w slots left after → is_among n.successors next ≡ true → Operating x given n.op (there offset slots w) (there next left after)
  operate offset slots w n is left after next leads goes_there = record {
    at = runs_there x given (frame_at number offset slots) below w (stands_on x given number m is_given offset slots false n is);
    of_op = refl;
    step = record { left = left; world = after; next = next; leads = leads; goes = stands_among n.successors next goes_there; after = refl };
  }

  -- one instruction that only moves units, and its node
  moves_on : (offset : ℕ) (slots : List Value) (w : World) (i : DecodedInstruction) → instruction_at c.body.bytes offset ≡ Ok i → (n : Node) → node_at offset m.nodes ≡ Some n
      → (plain_there i slots && follows n (offset + i.size) slots (plain_effect i slots)) ≡ true
      → Step x (there offset slots w) (there (offset + i.size) (plain_effect i slots) w) × NodeStep x given (there offset slots w) (there (offset + i.size) (plain_effect i slots) w)
  moves_on offset slots w i is n stands e =
      let both = and_parts (plain_there i slots) (follows n (offset + i.size) slots (plain_effect i slots)) e in
      let a = and_parts (is_plain i.row.action) (is_onward i.row.flow && operands_fit i.row slots) both.0 in
      let b = and_parts (is_onward i.row.flow) (operands_fit i.row slots) a.1 in
      let d = and_parts (assigns n.op slots (plain_effect i slots)) (is_among n.successors (offset + i.size)) both.1 in
      let step = advance x number c below offset slots w i is i.row (plain_row i.row.action c.file.pool i a.0) b.1 primitive_value w (offset + i.size)
      (plain_makes i.row.action x (frame_at number offset slots) c.file.pool i (units_of i.row slots) w a.0) (onward_goes i.row.flow w (offset + i.size) i.targets (units_of i.row slots) b.0) in
      let node_step = operate offset slots w n stands (plain_effect i slots) w (offset + i.size) (assigns_leads n.op x w slots (plain_effect i slots) d.0) d.1 in
      (advances step.at step.step, advances_node node_step.at node_step.step)

  abbrev Moves : ℕ → List Value → World → ℕ × List Value → Type 0
  Moves offset slots w n = Step x (there offset slots w) (there n.0 n.1 w) × NodeStep x given (there offset slots w) (there n.0 n.1 w)

  one_of : (offset : ℕ) (slots : List Value) (w : World) (r : Result DecodedInstruction Reason) → instruction_at c.body.bytes offset ≡ r → (o : Option Node) → node_at offset m.nodes ≡ o
      → (n : ℕ × List Value) → next_by offset slots r o ≡ Some n → Moves offset slots w n
  one_of offset slots w (Err r) is o stands n e = absurd (none-some n e)
  one_of offset slots w (Ok i) is None stands n e = absurd (none-some n e)
  one_of offset slots w (Ok i) is (Some k) stands n e = by (plain_there i slots && follows k (offset + i.size) slots (plain_effect i slots)) refl e where
    by : (b : Bool) → (plain_there i slots && follows k (offset + i.size) slots (plain_effect i slots)) ≡ b → cond b (Some (offset + i.size, plain_effect i slots)) None ≡ Some n → Moves offset slots w n
    by false f g = absurd (none-some n g)
    by true f g = subst (λ (q : ℕ × List Value). Moves offset slots w q) (same_Some (offset + i.size, plain_effect i slots) n g) (moves_on offset slots w i is k stands f)

  -- so many of them
  pub plainly : (count offset : ℕ) (slots : List Value) (w : World) (n : ℕ × List Value) → plain_next count c.body.bytes m.nodes offset slots ≡ Some n → Arrives x given (there offset slots w) → Arrives x given (there n.0 n.1 w)
  plainly zero offset slots w n e a = subst (λ (q : ℕ × List Value). Arrives x given (there q.0 q.1 w)) (same_Some _ n e) a
  plainly (suc count) offset slots w n e a =
      by (λ q. plainly count q.0 q.1 w n) (next_by offset slots (instruction_at c.body.bytes offset) (node_at offset m.nodes)) refl e
    where
      by : ((q : ℕ × List Value) → plain_next count c.body.bytes m.nodes q.0 q.1 ≡ Some n → Arrives x given (there q.0 q.1 w) → Arrives x given (there n.0 n.1 w))
          → (o : Option (ℕ × List Value)) → next_by offset slots (instruction_at c.body.bytes offset) (node_at offset m.nodes) ≡ o
          → option_and_then (λ (q : ℕ × List Value). plain_next count c.body.bytes m.nodes q.0 q.1) o ≡ Some n → Arrives x given (there n.0 n.1 w)
      by more None f g = absurd (none-some n g)
      by more (Some q) f g =
          let step = one_of offset slots w (instruction_at c.body.bytes offset) refl (node_at offset m.nodes) refl q f in
          more q g (goes x given _ _ a step.0 step.1)

-- a step alone, and a step on the way
pub advanced : (x : Subject) (given : Given) (op : Op) (mnemonic : List ℕ) (s t : State) → Arrives x given s → Advancing x mnemonic s t → Operating x given op s t → Arrives x given t
advanced x given op mnemonic s t a step node_step = goes x given s t a (advances step.at step.step) (advances_node node_step.at node_step.step)

pub takes_operation : (x : Subject) (given : Given) (op : Op) (mnemonic : List ℕ) (offset : ℕ) (slots : List Value) (s t : State) → Arrives x given s → Advancing x mnemonic s t → Operating x given op s t → Shows offset slots t
    → TakesNode x given (OperatesTo x given op offset slots)
takes_operation x given op mnemonic offset slots s t a step node_step shown =
    takes x given (OperatesTo x given op offset slots) s t a (advances step.at step.step) (advances_node node_step.at node_step.step) (node_step, shown)
