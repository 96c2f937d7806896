-- The code of a method that has nodes, and what is known of an instruction and its node.
use Rattle.std.proofs.Common.{◌≡◌, ◌⊎◌, inl, inr, ℕ, suc, ◌+◌, ◌-◌, ◌<◌, ◌≤◌, Bool, true, false, cond, List, [], ◌∷◌, ◌++◌, length, Option, Some, None, Ok, refl, sym, ap, ◌∙◌, subst, arith}
use Rattle.std.specs.List.{Contains, find, slice_get, AllZip}
use Rattle.std.specs.Option.{is_some, option_map_or, option_to_list}
use Rattle.std.specs.Prelude.{nat_eq, not, ◌&&◌, option_map}
use Rattle.std.proofs.lemmas.Bool.{eq-eqb, eqb-true}
use Rattle.std.proofs.lemmas.List.Elements.{All-contains, Contains-append_left, Contains-append_right}
use Rattle.std.proofs.lemmas.Option.{same_Some, slice_get-get_or}
use Rattle.jvm_model.specs.declared.class_file.ClassFile.{ClassFile}
use Rattle.jvm_model.specs.declared.class_file.Member.{Member}
use Rattle.jvm_model.specs.declared.code.Code.{Code}
use Rattle.jvm_model.specs.declared.code.Instruction.{Instruction as GivenInstruction}
use Rattle.jvm_model.specs.declared.code.PlacedInstruction.{PlacedInstruction}
use Rattle.jvm_model.specs.Code.{CodeBody, HasCode}
use Rattle.jvm_model.specs.Instructions.{DecodedInstruction, IsRowAt, RowBy, instruction_at}
use Rattle.jvm_model.specs.Programs.{Method, Program, in_file}
use Rattle.jvm_model.specs.Table.{Row, row_of, Action, refused}
use Rattle.code_reader.specs.CodeReading.{ReadsCode, given}
use Rattle.code_reader.specs.MachineCode.{IsCodeOf, ReadsSame}
use Rattle.code_reader.proofs.KnownInstructions.{known_at}
use Rattle.code_reader.proofs.MachineBodies.{one_body}
use Rattle.flow_graph.specs.declared.effect.Effect.{Effect}
use Rattle.flow_graph.specs.declared.steps.Graph.{Graph}
use Rattle.flow_graph.specs.declared.steps.GraphStep.{GraphStep}
use Rattle.flow_graph.specs.Effects.{with_row, IsEffectBy, IsRowEffect}
use Rattle.flow_graph.specs.Flows.{falls_off, goes_next, may_go_next, offset_after}
use Rattle.flow_graph.specs.Graphing.{HasStep, IsFlow, IsStep}
use Rattle.op_model.specs.declared.lowered.LoweredMethod.{LoweredMethod}
use Rattle.op_model.specs.declared.node.Node.{Node}
use Rattle.machine_bytecode.specs.Machine.{AtInstruction, Goes, MethodCode}
use Rattle.machine_bytecode.specs.States.{Frame, Value, World}
use Rattle.machine_nodes.specs.Nodes.{AreThrownAt}
use Rattle.lowering_spec.specs.LoweredMethods.{HasTrigger, IsLowered, IsNodeOf, IsPlacedAt}
use Rattle.lowering_spec.specs.Operations.{IsOp, Placed}
use Rattle.program_laws.proofs.Orders.{first_there, none_there, where_there}
use Rattle.simulation.proofs.Instructions.{each_of, find_zip, goes_by, known_there, met_once, row_without, without_targets}
use Rattle.simulation.proofs.Locals.{uses_locals, stores_fit}
use Rattle.lowering_laws.proofs.OneRow.{row_once}
use Rattle.simulation.proofs.Rows.{IsShaped, names_it, shaped}

-- ---- the code of a method that has nodes

pub record LoweredCode (p : Program) (number : ℕ) (l : LoweredMethod) : Type 0 where
  pub method : Method
  pub stands : slice_get p.methods number ≡ Some method
  pub file : ClassFile
  pub place : ℕ
  pub member : Member
  pub of_file : method.body ≡ in_file file place member
  pub code : Code
  pub read : ReadsCode file place (Ok code)
  pub graph : Graph
  pub flow : IsFlow file code graph
  pub body : CodeBody
  pub has : HasCode file member body
  pub same : IsCodeOf body code
  pub lowered : IsLowered p number file.pool code graph l

-- the machine's code of the method is that code
pub record SameCode (p : Program) (number : ℕ) (c : MethodCode p number) (l : LoweredMethod) (lc : LoweredCode p number l) : Type 0 where
  pub method : c.method ≡ lc.method
  pub file : c.file ≡ lc.file
  pub member : c.member ≡ lc.member
  pub body : c.body ≡ lc.body

pub same_code : (p : Program) (number : ℕ) (c : MethodCode p number) (l : LoweredMethod) (lc : LoweredCode p number l) → SameCode p number c l lc
same_code p number c l lc =
    let method : c.method ≡ lc.method = same_Some c.method lc.method (sym c.stands ∙ lc.stands) in
    let both : in_file c.file c.place c.member ≡ in_file lc.file lc.place lc.member = sym c.of_file ∙ ap (λ (m : Method). m.body) method ∙ lc.of_file in
    let file : c.file ≡ lc.file = cc both in
    let member : c.member ≡ lc.member = cc both in
    let has = subst (λ (f : ClassFile). HasCode f lc.member c.body) file (subst (λ (m : Member). HasCode c.file m c.body) member c.has) in
    record { method = method; file = file; member = member; body = one_body lc.file lc.member c.body lc.body has lc.has }

-- ---- the step of an offset

abbrev Ascend : List GraphStep → Type 0
Ascend steps = (i j : ℕ) (s t : GraphStep) → i < j → slice_get steps i ≡ Some s → slice_get steps j ≡ Some t → s.offset < t.offset

not_same : (a b : ℕ) → a < b → nat_eq a b ≡ false
not_same a b lt = by (nat_eq a b) refl
  where
    by : (t : Bool) → nat_eq a b ≡ t → nat_eq a b ≡ false
    by true e = let same = eqb-true a b e in absurd (omega (arith, same, lt))
    by false e = e

found_step : (steps : List GraphStep) → Ascend steps → (s : GraphStep) → Contains steps s → find (λ (t : GraphStep). nat_eq t.offset s.offset) steps ≡ Some s
found_step [] ascend s there = absurd (none_there s there)
found_step (x ∷ steps) ascend s there = by (where_there x s steps there) (found_step steps (λ i j a b lt at_i at_j. ascend (suc i) (suc j) a b (omega arith) at_i at_j) s)
  where
    by : (x ≡ s) ⊎ Contains steps s → (Contains steps s → find (λ (t : GraphStep). nat_eq t.offset s.offset) steps ≡ Some s) → find (λ (t : GraphStep). nat_eq t.offset s.offset) (x ∷ steps) ≡ Some s
    by (inl e) deeper = ap (λ (b : Bool). cond b (Some x) (find (λ (t : GraphStep). nat_eq t.offset s.offset) steps)) (eq-eqb x.offset s.offset (ap (λ (t : GraphStep). t.offset) e)) ∙ ap (λ (t : GraphStep). Some t) e
    by (inr later) deeper =
        let at : slice_get steps later.0 ≡ Some s = slice_get-get_or steps later.0 s later.1 ∙ ap (λ (t : GraphStep). Some t) later.2 in
        let lt : x.offset < s.offset = ascend 0 (suc later.0) x s (omega arith) refl at in
        ap (λ (b : Bool). cond b (Some x) (find (λ (t : GraphStep). nat_eq t.offset s.offset) steps)) (not_same x.offset s.offset lt) ∙ deeper later

-- ---- the node of a step

pub record NodeHere (p : Program) (number : ℕ) (l : LoweredMethod) (lc : LoweredCode p number l) (step : GraphStep) (offset : ℕ) : Type 0 where
  pub node : Node
  pub found : find (λ (n : Node). nat_eq n.offset offset) l.nodes ≡ Some node
  pub is : IsNodeOf p number lc.method lc.file.pool lc.code step node

pub node_here : (p : Program) (number : ℕ) (l : LoweredMethod) (lc : LoweredCode p number l) (step : GraphStep) → Contains lc.graph.steps step → (offset : ℕ) → step.offset ≡ offset → NodeHere p number l lc step offset
node_here p number l lc step there offset at =
    let found : find (λ (t : GraphStep). nat_eq t.offset offset) lc.graph.steps ≡ Some step =
    subst (λ (o : ℕ). find (λ (t : GraphStep). nat_eq t.offset o) lc.graph.steps ≡ Some step) at (found_step lc.graph.steps lc.flow.ascends step there) in
    let same : lc.lowered.method ≡ lc.method = same_Some lc.lowered.method lc.method (sym lc.lowered.stands ∙ lc.stands) in
    let nodes : AllZip (IsNodeOf p number lc.method lc.file.pool lc.code) lc.graph.steps l.nodes =
    subst (λ (m : Method). AllZip (IsNodeOf p number m lc.file.pool lc.code) lc.graph.steps l.nodes) same lc.lowered.nodes in
    let node = find_zip (IsNodeOf p number lc.method lc.file.pool lc.code) (λ (t : GraphStep). nat_eq t.offset offset) (λ (n : Node). nat_eq n.offset offset) (λ t n is. ap (λ (o : ℕ). nat_eq o offset) is.offset)
    lc.graph.steps l.nodes nodes step found in
    record { node = node.0; found = node.1; is = node.2 }

-- ---- the instruction of a step

-- an instruction that was read at the offset is the machine's
record SameInstruction (i : DecodedInstruction) (placed : PlacedInstruction) : Type 0 where
  given_as : placed.instruction ≡ given i
  row : row_of i.opcode ≡ Some i.row

-- the row of the opcode, with the operand
same_row : (i : DecodedInstruction) (placed : PlacedInstruction) (r : Row) → SameInstruction i placed → row_of placed.instruction.opcode ≡ Some r → with_row placed.instruction r ≡ without_targets i
same_row i placed r same of =
    let row : r ≡ i.row = same_Some r i.row (sym of ∙ ap (λ (g : GivenInstruction). row_of g.opcode) same.given_as ∙ same.row) in
    ap (λ (g : GivenInstruction). with_row g r) same.given_as ∙ ap (λ (s : Row). with_row (given i) s) row

-- the instruction at which a frame stands, as its operation is told
abbrev pub told : (p : Program) (f : Frame) → AtInstruction p f → ℕ → Placed
told p f now base = record {
  program = p;
  method = now.here.number;
  current = now.here.code.method.class;
  pool = now.here.code.file.pool;
  instruction = without_targets now.instruction;
  offset = f.offset;
  row = now.row;
  base = base;
}

module _ (p : Program) (f : Frame) (now : AtInstruction p f) (l : LoweredMethod) (lc : LoweredCode p now.here.number l) (step : GraphStep) (there : Contains lc.graph.steps step) (at : step.offset ≡ f.offset) where
  number : ℕ
  number = now.here.number

  i : DecodedInstruction
  i = now.instruction

  abbrev codes_same : SameCode p now.here.number now.here.code l lc
  codes_same = same_code p now.here.number now.here.code l lc

  known_row : row_of now.instruction.opcode ≡ Some now.instruction.row
  known_row = (known_at now.here.code.body.bytes f.offset now.instruction now.is).row

  -- what the machine reads there
  read_same : (k : ℕ) (placed : PlacedInstruction) → slice_get lc.code.instructions k ≡ Some placed → placed.offset ≡ f.offset → (r : ReadsSame lc.body lc.code k placed) → r.i ≡ now.instruction
  read_same k placed stands offset r =
      let is : instruction_at lc.body.bytes f.offset ≡ Ok r.i = ap (instruction_at lc.body.bytes) (sym offset) ∙ r.is in
      let mine : instruction_at lc.body.bytes f.offset ≡ Ok now.instruction = ap (λ (b : CodeBody). instruction_at b.bytes f.offset) (sym codes_same.body) ∙ now.is in
      cc (is, mine)

  instruction_same : (k : ℕ) (placed : PlacedInstruction) → slice_get lc.code.instructions k ≡ Some placed → placed.offset ≡ f.offset → SameInstruction now.instruction placed
  instruction_same k placed stands offset =
      let r = lc.same.each k placed stands in
      record { given_as = r.same ∙ ap given (read_same k placed stands offset r); row = known_row }

  slice_at : (placed : PlacedInstruction) → (c : Contains lc.code.instructions placed) → slice_get lc.code.instructions c.0 ≡ Some placed
  slice_at placed c = slice_get-get_or lc.code.instructions c.0 placed c.1 ∙ ap (λ (q : PlacedInstruction). Some q) c.2

  -- its row is the machine's
  row_same : (placed : PlacedInstruction) (r resolved : Row) → SameInstruction now.instruction placed → row_of placed.instruction.opcode ≡ Some r → IsRowAt lc.file.pool (with_row placed.instruction r) resolved → resolved ≡ now.row
  row_same placed r resolved same of is =
      let theirs : IsRowAt lc.file.pool (without_targets now.instruction) resolved = subst (λ (j : DecodedInstruction). IsRowAt lc.file.pool j resolved) (same_row now.instruction placed r same of) is in
      let mine : IsRowAt lc.file.pool now.instruction now.row = subst (λ (c : ClassFile). IsRowAt c.pool now.instruction now.row) codes_same.file now.of_row in
      row_once lc.file.pool (without_targets now.instruction) resolved now.row theirs (row_without lc.file.pool now.instruction now.row mine)

  -- ---- the node

  abbrev pub here_node : NodeHere p now.here.number l lc step f.offset
  here_node = node_here p now.here.number l lc step there f.offset at

  abbrev placed_at : IsPlacedAt p now.here.number lc.method lc.file.pool lc.code step here_node.is.instruction
  placed_at = here_node.is.placed

  placed_same : SameInstruction now.instruction placed_at.placed
  placed_same = instruction_same placed_at.stands.0 placed_at.placed (slice_at placed_at.placed placed_at.stands) (placed_at.offset ∙ at)

  row_is : placed_at.row ≡ now.row
  row_is = row_same placed_at.placed placed_at.opcode_row placed_at.row placed_same placed_at.of_opcode placed_at.of_row

  pub base : ℕ
  base = placed_at.base

  told_is : here_node.is.instruction ≡ told p f now placed_at.base
  told_is =
      let class : lc.method.class ≡ now.here.code.method.class = ap (λ (m : Method). m.class) (sym codes_same.method) in
      let pool : lc.file.pool ≡ now.here.code.file.pool = ap (λ (c : ClassFile). c.pool) (sym codes_same.file) in
      let j = same_row now.instruction placed_at.placed placed_at.opcode_row placed_same placed_at.of_opcode in
      let r = row_is in
      placed_at.is
      ∙ (λ k. record {
        program = p;
        method = now.here.number;
        current = class k;
        pool = pool k;
        instruction = j k;
        offset = at k;
        row = r k;
        base = placed_at.base;
      })

  pub op : IsOp now.row.action (told p f now base) here_node.node.op
  unfolding base
  op = subst (λ (q : Placed). IsOp q.row.action q here_node.node.op) told_is here_node.is.op

  pub trigger : HasTrigger (told p f now base) here_node.node.trigger here_node.is.trigger_class
  unfolding base
  trigger = subst (λ (q : Placed). HasTrigger q here_node.node.trigger here_node.is.trigger_class) told_is here_node.is.trigger

  pub throws : AreThrownAt p now.row.raises here_node.is.trigger_class here_node.node.throws
  throws = subst (λ (q : Placed). AreThrownAt p q.row.raises here_node.is.trigger_class here_node.node.throws) told_is here_node.is.throws

  pub lowest : base + length now.row.pops ≡ lc.code.max_locals + step.height
  unfolding base
  lowest = ap (λ (r : Row). placed_at.base + length r.pops) (sym row_is) ∙ placed_at.lowest

  -- ---- the step

  abbrev is_step : IsStep lc.file lc.code lc.graph.steps step
  is_step = All-contains (IsStep lc.file lc.code lc.graph.steps) lc.graph.steps step lc.flow.each there

  step_same : SameInstruction now.instruction is_step.placed
  step_same = instruction_same is_step.number is_step.placed is_step.stands (sym is_step.offset_is ∙ at)

  row_effect : (a : Action) (g : GivenInstruction) (r : Row) (e : Effect) → now.instruction.row.action ≡ a → RowBy a now.here.code.file.pool now.instruction now.row → IsEffectBy a lc.file.pool g r e → IsRowEffect lc.file.pool g r e
  row_effect refused g r e is by effect =
      absurd (subst (λ (b : Action). IsOp b (told p f now base) here_node.node.op) (ap (λ (s : Row). s.action) by ∙ is) op)
  row_effect _ g r e is by effect = effect

  abbrev HasUnits : Effect → Type 0
  HasUnits e = (e.pops ≡ length now.row.pops) × (e.pushes ≡ length now.row.pushes)

  units_same : HasUnits is_step.effect
  units_same =
      let of : is_step.has.row ≡ now.instruction.row =
      same_Some is_step.has.row now.instruction.row (sym is_step.has.of_opcode ∙ ap (λ (g : GivenInstruction). row_of g.opcode) step_same.given_as ∙ known_row) in
      let effect = row_effect now.instruction.row.action is_step.placed.instruction is_step.has.row is_step.effect refl now.of_row
      (subst (λ (r : Row). IsEffectBy r.action lc.file.pool is_step.placed.instruction is_step.has.row is_step.effect) of is_step.has.is_effect) in
      let row = row_same is_step.placed is_step.has.row effect.resolved step_same is_step.has.of_opcode effect.is_row in (
        ap (λ (e : Effect). e.pops) effect.effect_is ∙ ap (λ (r : Row). length r.pops) row,
        ap (λ (e : Effect). e.pushes) effect.effect_is ∙ ap (λ (r : Row). length r.pushes) row,
      )

  pub enough : length now.row.pops ≤ step.height
  enough = let few = is_step.enough in let e = units_same.0 in omega (arith, few, e)

  -- a successor is a step of the height that the instruction leaves
  pub next_step : (next : ℕ) → Contains step.successors next → HasStep lc.graph.steps next (step.height - length now.row.pops + length now.row.pushes)
  next_step next c =
      let has = each_of _ step.successors next is_step.successors_there c in
      let pops = units_same.0 in
      let pushes = units_same.1 in
      record { step = has.step; there = has.there; offset_is = has.offset_is; height_is = has.height_is ∙ omega (arith, pops, pushes) }

  pub node_goes : (next : ℕ) → Contains step.successors next → Contains here_node.node.successors next
  node_goes next c = (here_node.is.successors next).1 c

  pub shape : IsShaped now.here.code.file.pool now.instruction now.row
  shape = shaped now.here.code.file.pool now.instruction now.row known_row now.of_row

  -- ---- where it goes on

  abbrev onward_of : Bool → List ℕ
  onward_of b = cond b (option_to_list (offset_after lc.code.instructions is_step.number)) []

  is_successor : (next : ℕ) → Contains (onward_of (goes_next is_step.placed) ++ is_step.placed.instruction.targets) next → Contains step.successors next
  is_successor next c = subst (λ (s : List ℕ). Contains s next) (sym is_step.successors_are) (met_once [] _ next c)

  next_offset : (o : Option PlacedInstruction) → slice_get lc.code.instructions (is_step.number + 1) ≡ o → goes_next is_step.placed ≡ true → offset_after lc.code.instructions is_step.number ≡ Some (f.offset + now.instruction.size)
  next_offset None none goes =
      let falls : falls_off lc.code.instructions is_step.number is_step.placed ≡ true =
      ap (λ (b : Bool). b && not (is_some (offset_after lc.code.instructions is_step.number))) goes ∙ ap (λ (o : Option PlacedInstruction). not (is_some (option_map (λ (x : PlacedInstruction). x.offset) o))) none in
      absurd (cc (falls, is_step.stays))
  next_offset (Some q) some goes =
      let r = lc.same.each is_step.number is_step.placed is_step.stands in
      let same = read_same is_step.number is_step.placed is_step.stands (sym is_step.offset_is ∙ at) r in
      let offset : is_step.placed.offset ≡ f.offset = sym is_step.offset_is ∙ at in
      ap (option_map (λ (x : PlacedInstruction). x.offset)) some
      ∙ ap (λ (n : ℕ). Some n) (r.next q some ∙ ap (λ (o : ℕ). o + r.i.size) offset ∙ ap (λ (j : DecodedInstruction). f.offset + j.size) same)

  pub goes_after : may_go_next now.row.flow ≡ true → Contains step.successors (f.offset + now.instruction.size)
  goes_after goes =
      let after = f.offset + now.instruction.size in
      let row : row_of is_step.placed.instruction.opcode ≡ Some now.instruction.row = ap (λ (g : GivenInstruction). row_of g.opcode) step_same.given_as ∙ known_row in
      let is : goes_next is_step.placed ≡ true =
      ap (λ (o : Option Row). option_map_or (λ (r : Row). may_go_next r.flow) o false) row ∙ ap may_go_next (sym shape.keeps.flow) ∙ goes in
      let there_after : Contains (onward_of true) after =
      subst (λ (o : Option ℕ). Contains (option_to_list o) after) (sym (next_offset (slice_get lc.code.instructions (is_step.number + 1)) refl is)) (first_there after []) in
      is_successor after (subst (λ (b : Bool). Contains (onward_of b ++ is_step.placed.instruction.targets) after) (sym is) (Contains-append_left (onward_of true) is_step.placed.instruction.targets after there_after))

  pub goes_on : (w : World) (units : List Value) (next : ℕ) → Goes now.row.flow w (f.offset + now.instruction.size) now.instruction.targets units next → Contains step.successors next
  goes_on w units next g =
      goes_by (f.offset + now.instruction.size) next now.instruction.targets step.successors
      (λ y c. is_successor y (Contains-append_right (onward_of (goes_next is_step.placed)) is_step.placed.instruction.targets y
      (subst (λ (h : GivenInstruction). Contains h.targets y) (sym step_same.given_as) (known_there now.instruction.targets y c))))
      now.row.flow w units goes_after g

  -- ---- what it stores

  pub stores_within : 0 < length now.row.stores → now.instruction.operand + length now.row.stores ≤ lc.code.max_locals
  stores_within some = by shape.keeps.stores
    where
      by : (now.row.stores ≡ now.instruction.row.stores) ⊎ (now.row.stores ≡ []) → now.instruction.operand + length now.row.stores ≤ lc.code.max_locals
      by (inr none) = let no_store : length now.row.stores ≡ 0 = ap length none in absurd (omega (arith, some, no_store))
      by (inl same) =
          let uses = uses_locals lc.file lc.place lc.code lc.read is_step.number is_step.placed is_step.stands in
          let read_as : given uses.decoded ≡ given now.instruction = sym uses.same ∙ step_same.given_as in
          let operand : uses.decoded.operand ≡ now.instruction.operand = ap (λ (g : GivenInstruction). g.operand) read_as in
          let row : uses.decoded.row ≡ now.instruction.row = same_Some uses.decoded.row now.instruction.row (sym uses.row ∙ ap (λ (g : GivenInstruction). row_of g.opcode) read_as ∙ known_row) in
          let long : length uses.decoded.row.stores ≡ length now.row.stores = ap (λ (r : Row). length r.stores) row ∙ ap length (sym same) in
          let fits = stores_fit lc.code.max_locals uses.decoded uses.fits (names_it uses.decoded.opcode uses.decoded.row uses.row (omega (arith, some, long))) in
          omega (arith, fits, operand, long)
