-- Each step without a reason has a node in order, where no entry that covers it takes a class that is not in the program.
use Rattle.std.proofs.Common.{◌≡◌, ◌⊎◌, inl, inr, ℕ, suc, ◌+◌, ◌<◌, true, false, List, [], ◌∷◌, length, map, Option, Some, None, refl, sym, ap, ◌∙◌, subst, arith}
use Rattle.std.specs.List.{Contains, slice_get}
use Rattle.std.proofs.lemmas.List.Elements.{All-contains}
use Rattle.std.proofs.lemmas.Option.{same_Some}
use Rattle.jvm_model.specs.declared.code.Code.{Code}
use Rattle.jvm_model.specs.declared.code.PlacedInstruction.{PlacedInstruction}
use Rattle.jvm_model.specs.declared.number.ClassNo.{ClassNo}
use Rattle.jvm_model.specs.declared.opcode.Row.{Row as CodeRow}
use Rattle.jvm_model.specs.LinkedPrograms.{IsProgram, IsThere}
use Rattle.jvm_model.specs.Lookups.{class_name_at}
use Rattle.jvm_model.specs.Programs.{Class, Field, Method, Program}
use Rattle.jvm_model.specs.RowViews.{row_view}
use Rattle.jvm_model.specs.Subtypes.{class_named}
use Rattle.jvm_model.specs.Table.{Row, row_of, is_trigger, Action, get_static, put_static, invoke_static, make_object, refused}
use Rattle.code_reader.proofs.ToldCodes.{Contains-from_slice_get}
use Rattle.program_model.specs.Numbers.{name_at}
use Rattle.flow_graph.specs.declared.steps.Graph.{Graph}
use Rattle.flow_graph.specs.declared.steps.GraphStep.{GraphStep}
use Rattle.flow_graph.specs.Effects.{with_row}
use Rattle.flow_graph.specs.Graphing.{IsStep}
use Rattle.lowering_laws.specs.StepRows.{HasRow as HasStepRow, IsResolved}
use Rattle.lowering_laws.proofs.StepRows.{step_row}
use Rattle.hierarchy.proofs.ClassPlaces.{class_of_method, contained, place_there}
use Rattle.lowering_reasons.specs.declared.judgement.NamedMember.{NamedMember}
use Rattle.lowering_reasons.specs.declared.judgement.NamedMember.TheVariants as members
use Rattle.lowering_reasons.specs.Judgements.{IsNamedMember}
use Rattle.lowering_reasons.specs.Reasons.{Judged, IsFirstReason, wants_static}
use Rattle.machine_nodes.specs.Nodes.{AreThrownAt, IsClassNumber}
use Rattle.lowering_operations.specs.ByAction.{HasRow}
use Rattle.lowering_operations.specs.Orders.{IsOrderedOp}
use Rattle.lowering_operations.specs.declared.placement.Placement.{Placement}
use Rattle.lowering_operations.proofs.Lifting.{not_refused}
use Rattle.lowering_handlers.specs.Entries.{AreKnown}
use Rattle.lowering_handlers.specs.Exceptions.{IsThrownList, IsTriggerOf}
use Rattle.lowering_handlers.proofs.AddedClasses.{no_trigger_name, trigger_name}
use Rattle.op_model.specs.declared.node.Node.{Node}
use Rattle.op_model.specs.declared.op.Op.{Op}
use Rattle.program_laws.proofs.Orders.{none_there, where_there}
use Rattle.lowering_laws.proofs.OneRefusal.{one_placed, own_order}
use Rattle.lowering_laws.proofs.OneRow.{row_once}
use Rattle.lowering.specs.Bodies.{HasStepOperation, HasStepOrder, IsJudgedStep, IsMadeClass, IsMethodCode, NamesOwner, TriggersAt, judged_step, made, no_name, not_there, nothing}
use Rattle.lowering.specs.Orders.{IsInOrder}
use Rattle.lowering.specs.Refusals.{HasFirstReason, IsOwnCode}
use Rattle.lowering.proofs.CodeFacts.{sound_instruction}
use Rattle.lowering.proofs.MadeClasses.{object_trigger}
use Rattle.lowering.proofs.MemberOwners.{member_number}
use Rattle.lowering.proofs.MethodParts.{LoweredCode, LoweredStep}
use Rattle.lowering.proofs.NamedMembers.{names_member}
use Rattle.lowering.proofs.NodesMade.{ordered_node}
use Rattle.lowering.proofs.StaticOwners.{static_trigger}
use Rattle.lowering_laws.proofs.Handlers.{handlers_of, number_of}
use Rattle.lowering_laws.proofs.Members.{member_there}
use Rattle.lowering_laws.proofs.Operations.{lowest, lowest_slot, operation_of}
use Rattle.lowering_laws.proofs.Own.{code_of, flow, member_of}
use Rattle.lowering_laws.proofs.RowsShown.{shown_row}
use Rattle.lowering_laws.proofs.ThrownClasses.{thrown}

-- ---- the class that declares a member

numbered_among : (classes : List Class) (name : List ℕ) → Contains (map (λ (c : Class). c.name) classes) name → (place : ℕ) × (c : Class) × (slice_get classes place ≡ Some c) × (c.name ≡ name)
numbered_among [] name there = absurd (none_there name there)
numbered_among (c ∷ classes) name there = by (where_there c.name name (map (λ (d : Class). d.name) classes) there) (numbered_among classes name)
  where
    by : (c.name ≡ name) ⊎ Contains (map (λ (d : Class). d.name) classes) name
        → (Contains (map (λ (d : Class). d.name) classes) name → (place : ℕ) × (d : Class) × (slice_get classes place ≡ Some d) × (d.name ≡ name))
        → (place : ℕ) × (d : Class) × (slice_get (c ∷ classes) place ≡ Some d) × (d.name ≡ name)
    by (inl e) deeper = (0, c, refl, e)
    by (inr more) deeper = let d = deeper more in (suc d.0, d.1, d.2, d.3)

numbered : (p : Program) (name : List ℕ) → IsThere p name → (n : ClassNo) × IsClassNumber p n name
numbered p name there =
    let n = numbered_among p.classes name there in
    let number : ClassNo = record { 0 = n.0 } in
    (number, record { class = n.1; stands = n.2; named = n.3 })

owner_of : (p : Program) → IsProgram p → (j : Judged) → j.program ≡ p → (m : NamedMember) → IsNamedMember j m → (owner : Option ClassNo) × NamesOwner p m owner
owner_of p program j same members.NoMember is = (None, refl)
owner_of p program j same (members.Field field) is =
    let f = place_there p.fields field.0 (subst (λ (q : Program). field.0 < length q.fields) same (member_number j (members.Field field) is)) in
    let n = numbered p f.0.class (All-contains (λ (g : Field). IsThere p g.class) p.fields f.0 program.fields (contained p.fields field.0 f.0 f.1)) in
    (Some n.0, (n.0, refl, λ g at. subst (λ (x : Field). IsClassNumber p n.0 x.class) (same_Some f.0 g (sym f.1 ∙ at)) n.1))
owner_of p program j same (members.Method resolved target) is =
    let m = place_there p.methods resolved.0 (subst (λ (q : Program). resolved.0 < length q.methods) same (member_number j (members.Method resolved target) is)) in
    let n = numbered p m.0.class (All-contains (λ (g : Method). IsThere p g.class) p.methods m.0 program.methods (contained p.methods resolved.0 m.0 m.1)) in
    (Some n.0, (n.0, refl, λ g at. subst (λ (x : Method). IsClassNumber p n.0 x.class) (same_Some m.0 g (sym m.1 ∙ at)) n.1))

-- ---- what starts an initialisation

data IsStarting (a : Action) : Type 0 where
  idle : is_trigger a ≡ false → IsStarting a
  static : wants_static a ≡ true → IsStarting a
  object : a ≡ make_object → IsStarting a

starting : (a : Action) → IsStarting a
starting get_static = static refl
starting put_static = static refl
starting invoke_static = static refl
starting make_object = object refl
starting _ = idle refl

module _ (b : LoweredCode) (known : IsMethodCode b) (program : IsProgram b.program.now) (step : GraphStep) (j : LoweredStep) (is : IsJudgedStep b step j) where
  class_made : (class : Option ClassNo) × IsMadeClass b j class
  class_made = by (class_name_at b.class.now.pool j.placed.now.instruction.operand) refl
    where
      by_class : (name : List ℕ) → class_name_at b.class.now.pool j.placed.now.instruction.operand ≡ Some name → (o : Option Class) → class_named b.program.now name ≡ o → (class : Option ClassNo) × IsMadeClass b j class
      by_class name named None none = (None, not_there name named none refl)
      by_class name named (Some c) there = let n = number_of b.program.now name c there in (Some n.0, made name n.0 named n.1 refl)

      by : (o : Option (List ℕ)) → class_name_at b.class.now.pool j.placed.now.instruction.operand ≡ o → (class : Option ClassNo) × IsMadeClass b j class
      by None none = (None, no_name none refl)
      by (Some name) named = by_class name named (class_named b.program.now name) refl

  trigger_of : (trigger : Option ClassNo) × TriggersAt b j trigger
  trigger_of = by (starting (row_view j.row.now).action)
    where
      by : IsStarting (row_view j.row.now).action → (trigger : Option ClassNo) × TriggersAt b j trigger
      by (idle e) = (None, nothing e refl)
      by (static e) = let owner = owner_of b.program.now program (judged_step b j) refl j.member is.member in (owner.0, static_trigger b j e owner.0 is.member owner.1)
      by (object e) = let class = class_made in (class.0, object_trigger b known j step is e class.0 class.1)

  abbrev Thrown : Option ClassNo → Type 0
  Thrown trigger = (throws : List ClassNo) × ((name : Option (List ℕ)) → IsTriggerOf b.program.now trigger name → AreThrownAt b.program.now (row_view j.row.now).raises name throws)
      × ((name : Option (List ℕ)) → IsTriggerOf b.program.now trigger name → IsThrownList b.program.now (row_view j.row.now).raises name throws)

  thrown_for : (trigger : Option ClassNo) (class : Option (List ℕ)) → ((name : Option (List ℕ)) → IsTriggerOf b.program.now trigger name → name ≡ class) → Thrown trigger
  thrown_for trigger class named =
      let all = thrown b.program.now program (row_view j.row.now).raises class in (
        all.0,
        λ name of. subst (λ (o : Option (List ℕ)). AreThrownAt b.program.now (row_view j.row.now).raises o all.0) (sym (named name of)) all.1,
        λ name of. subst (λ (o : Option (List ℕ)). IsThrownList b.program.now (row_view j.row.now).raises o all.0) (sym (named name of)) all.2,
      )

  thrown_by : (trigger : Option ClassNo) → Thrown trigger
  thrown_by None = thrown_for None None (λ name of. no_trigger_name b.program.now None name refl of)
  thrown_by (Some n) = thrown_for (Some n) (Some (name_at b.program.now n.0)) (λ name of. trigger_name b.program.now (Some n) n name refl of)

-- ---- the node

module _ (p : Program) (program : IsProgram p) (number : ℕ) (code : Code) (graph : Graph) (own : IsOwnCode p number code graph) where
  abbrev body : LoweredCode
  body = record {
    program = record { ref_ptr = (0, 0); now = p };
    method = record { 0 = number };
    current = record { 0 = (class_of_method p program number own.method own.stands).0 };
    class = record { ref_ptr = (0, 0); now = own.file };
    code = record { ref_ptr = (0, 0); now = code };
  }

  of_class : name_at p body.current.0 ≡ own.method.class
  of_class = (class_of_method p program number own.method own.stands).2

  known : IsMethodCode body
  known = record {
    method = own.method;
    stands = own.stands;
    class = (class_of_method p program number own.method own.stands).1;
    of_class = of_class;
    checked = (member_of p program number code graph own).checked;
    code = code_of p program number code graph own;
  }

  module _ (step : GraphStep) (there : Contains graph.steps step) (reason : HasFirstReason p own.method own.file.pool code step None) (entries : AreKnown p own.file.pool code.handlers graph.steps) where
    abbrev placed : PlacedInstruction
    placed = reason.at.placed

    abbrev shown : CodeRow
    shown = (shown_row reason.at.row).0

    shown_is : row_view shown ≡ reason.at.row
    shown_is = (shown_row reason.at.row).1

    of_opcode : row_of placed.instruction.opcode ≡ Some (row_view shown)
    of_opcode = reason.at.of_opcode ∙ ap (λ (r : Row). Some r) (sym shown_is)

    abbrev judged : Judged
    judged = record {
      program = p;
      current = name_at p body.current.0;
      pool = own.file.pool;
      action = (row_view shown).action;
      operands = (row_view shown).operands;
      operand = placed.instruction.operand;
    }

    judged_is : reason.judged ≡ judged
    judged_is = reason.at.is ∙ (λ i. record {
      program = p;
      current = sym of_class i;
      pool = own.file.pool;
      action = (sym shown_is i).action;
      operands = (sym shown_is i).operands;
      operand = placed.instruction.operand;
    })

    free : IsFirstReason judged None
    free = subst (λ (j : Judged). IsFirstReason j None) judged_is reason.is

    member : (m : NamedMember) × IsNamedMember judged m
    member = member_there judged program free (names_member p (name_at p body.current.0) own.file placed.instruction (row_view shown) (sound_instruction body known placed reason.at.stands) of_opcode)

    abbrev step_judged : LoweredStep
    step_judged = record { placed = record { ref_ptr = (0, 0); now = placed }; row = record { ref_ptr = (0, 0); now = shown }; member = member.0 }

    is_judged : IsJudgedStep body step step_judged
    is_judged = record { stands = reason.at.stands; offset = reason.at.offset; of_opcode = of_opcode; free = free; member = member.1 }

    abbrev at : Placement
    at = record {
      program = body.program;
      method = body.method;
      current = body.current;
      class = body.class;
      instruction = record { ref_ptr = (0, 0); now = placed.instruction };
      row = record { ref_ptr = (0, 0); now = shown };
      member = member.0;
      offset = step.offset;
      top = code.max_locals + step.height;
    }

    -- the row of the step is that of the judged instruction
    resolved : ((row_view shown).action ≡ refused) ⊎ IsResolved own.file.pool placed.instruction (row_view shown) step.height
    resolved =
        let has : HasStepRow own.file code step = step_row own.file code graph (flow p program number code graph own) step there in
        let same : has.placed ≡ placed =
        one_placed code.instructions (own_order p number code graph own) has.placed placed (Contains-from_slice_get code.instructions has.number has.placed has.stands) reason.at.stands (sym has.offset_is ∙ sym reason.at.offset) in
        let row : has.row ≡ row_view shown = same_Some has.row (row_view shown) (sym has.of_opcode ∙ ap (λ (q : PlacedInstruction). row_of q.instruction.opcode) same ∙ of_opcode) in
        subst (λ (r : Row). (r.action ≡ refused) ⊎ IsResolved own.file.pool placed.instruction r step.height) row
        (subst (λ (q : PlacedInstruction). (has.row.action ≡ refused) ⊎ IsResolved own.file.pool q.instruction has.row step.height) same has.resolved)

    has_row : HasRow at
    has_row = by resolved
      where
        by : ((row_view shown).action ≡ refused) ⊎ IsResolved own.file.pool placed.instruction (row_view shown) step.height → HasRow at
        by (inl e) = absurd (not_refused judged free e)
        by (inr r) = let enough = r.enough in record { row = r.resolved; of_row = r.is_row; enough = omega (arith, enough) }

    operation : (op : Op) × HasStepOperation body step step_judged op × HasStepOrder body step step_judged op
    operation =
        let sound = sound_instruction body known placed reason.at.stands in
        let o = operation_of at program sound of_opcode free has_row in
        let base = lowest_slot at program sound of_opcode free has_row in
        let low : base + length has_row.row.pops ≡ code.max_locals + step.height = lowest at program sound of_opcode free has_row in (
          o.0,
          record { row = has_row.row; of_row = has_row.of_row; base = base; lowest = low; is = o.1 },
          record {
            for_row = λ row of_row other lowest_other.
                (let same : has_row.row ≡ row = row_once own.file.pool (with_row placed.instruction (row_view shown)) has_row.row row has_row.of_row of_row in
                let pops : length has_row.row.pops ≡ length row.pops = ap (λ (r : Row). length r.pops) same in
                let bases : base ≡ other = omega (arith, pops, low, lowest_other) in
                subst (λ (r : Row). IsOrderedOp r placed.instruction.operand other o.0) same (subst (λ (z : ℕ). IsOrderedOp has_row.row placed.instruction.operand z o.0) bases o.2));
          },
        )

    pub node : (n : Node) × IsInOrder p number own.method own.file.pool code step n
    node =
        let is_step : IsStep own.file code graph.steps step = All-contains (IsStep own.file code graph.steps) graph.steps step (flow p program number code graph own).each there in
        let handlers = handlers_of p own.file code (member_of p program number code graph own).checked.sound (code_of p program number code graph own) step.offset step.handlers is_step.handlers_are
        (λ place covers unknown. entries place (record { step = step; there = there; covers = covers }) unknown) in
        let trigger = trigger_of body known program step step_judged is_judged in
        let throws = thrown_by body known program step step_judged is_judged trigger.0 in
        let made_node : Node = record { offset = step.offset; op = operation.0; successors = step.successors; handlers = handlers.0; trigger = trigger.0; throws = throws.0 } in
        (made_node, ordered_node body known step step_judged is_judged operation.0 operation.1 step.successors handlers.0 trigger.0 throws.0 refl handlers.1 trigger.1 throws.1 operation.2 throws.2 own.method own.stands)
