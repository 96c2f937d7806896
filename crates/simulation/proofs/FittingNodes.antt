-- The nodes of a method that lowering accepts read its own slots, the objects that stand for constants are there from the start, and arrays have the names of
-- arrays.
use Rattle.std.proofs.Common.{◌≡◌, ◌⊎◌, inl, inr, ℕ, ◌+◌, ◌<◌, ◌≤◌, true, List, ◌∷◌, length, Some, sym, ap, ◌∙◌, subst, arith}
use Rattle.std.specs.List.{Contains}
use Rattle.std.proofs.lemmas.List.Elements.{All-contains}
use Rattle.std.proofs.lemmas.Option.{same_Some, slice_get-get_or}
use Rattle.jvm_model.specs.declared.code.Code.{Code}
use Rattle.jvm_model.specs.declared.code.Instruction.{Instruction as GivenInstruction}
use Rattle.jvm_model.specs.declared.code.PlacedInstruction.{PlacedInstruction}
use Rattle.jvm_model.specs.declared.pool.PoolEntry.{PoolEntry}
use Rattle.jvm_model.specs.Instructions.{DecodedInstruction, IsRowAt, RowBy, kinds_of}
use Rattle.jvm_model.specs.InstructionUses.{leads_right, locals_fit, within_dimensions}
use Rattle.jvm_model.specs.LinkedPrograms.{IsProgram}
use Rattle.jvm_model.specs.Programs.{Program}
use Rattle.jvm_model.specs.Table.{Row, row_of, Action, plain, put_static, put_field, reference}
use Rattle.code_reader.specs.CodeReading.{given}
use Rattle.flow_graph.specs.declared.steps.Graph.{Graph}
use Rattle.flow_graph.specs.declared.steps.GraphStep.{GraphStep}
use Rattle.flow_graph.specs.Effects.{with_row}
use Rattle.flow_graph.specs.Graphing.{IsStep}
use Rattle.lowering_laws.proofs.Own.{flow}
use Rattle.op_model.specs.declared.lowered.LoweredMethod.{LoweredMethod}
use Rattle.op_model.specs.declared.node.Node.{Node}
use Rattle.lowering_spec.specs.LoweredMethods.{IsNodeOf}
use Rattle.lowering_spec.specs.Operations.{Placed, IsOp}
use Rattle.lowering.specs.Refusals.{IsAccepted}
use Rattle.simulation.proofs.Pairs.{first_of}
use Rattle.simulation.proofs.Locals.{uses_locals}
use Rattle.simulation.proofs.Rows.{IsShaped, shaped}
use Rattle.simulation.proofs.CheckedIndexes.{has_checked_index}
use Rattle.simulation.proofs.Operations.{FitsIn, fits}
use Rattle.simulation.proofs.RowUnits.{field_kind, plain_reads}

-- ---- an instruction

-- what a field is given is popped
kept_action : (pool : List PoolEntry) (i : DecodedInstruction) (r : Row) (a : Action) → IsShaped pool i r → IsRowAt pool i r → r.action ≡ a → (plain ≡ a → ⊥) → RowBy a pool i r
kept_action pool i r a s by is other = at s.keeps.action
  where
    at : (r.action ≡ i.row.action) ⊎ (r.action ≡ plain) → RowBy a pool i r
    at (inl same) = subst (λ (b : Action). RowBy b pool i r) (sym same ∙ is) by
    at (inr moves) = absurd (other (sym moves ∙ is))

value_popped : (pool : List PoolEntry) (i : DecodedInstruction) (r : Row) → IsShaped pool i r → IsRowAt pool i r → r.action ≡ put_static → 0 < length r.pops
value_popped pool i r s by is =
    let f = kept_action pool i r put_static s by is (λ e. absurd cc) in
    let some = field_kind f.field.signature.descriptor f.is in
    let long : length r.pops ≡ length (kinds_of f.field.signature.descriptor) = ap (λ (x : Row). length x.pops) f.row_is in
    omega (arith, some, long)

both_popped : (pool : List PoolEntry) (i : DecodedInstruction) (r : Row) → IsShaped pool i r → IsRowAt pool i r → r.action ≡ put_field → 1 < length r.pops
both_popped pool i r s by is =
    let f = kept_action pool i r put_field s by is (λ e. absurd cc) in
    let some = field_kind f.field.signature.descriptor f.is in
    let long : length r.pops ≡ length (reference ∷ kinds_of f.field.signature.descriptor) = ap (λ (x : Row). length x.pops) f.row_is in
    omega (arith, some, long)

-- ---- the method

module _ (p : Program) (program : IsProgram p) (number : ℕ) (code : Code) (graph : Graph) (l : LoweredMethod) (a : IsAccepted p number code graph l) where
  pub node_fits : (n : Node) → Contains l.nodes n → FitsIn (l.slots + l.stack) n.op
  node_fits n there =
      let s = first_of (IsNodeOf p number a.lowered.method a.own.file.pool code) graph.steps l.nodes n a.lowered.nodes there in
      let step = All-contains (IsStep a.own.file code graph.steps) graph.steps s.0 (flow p program number code graph a.own).each s.1 in
      by s.0 s.2 step.room
    where
      by : (step : GraphStep) → IsNodeOf p number a.lowered.method a.own.file.pool code step n → step.height ≤ code.max_stack → FitsIn (l.slots + l.stack) n.op
      by step is room =
          let at = is.placed in
          let j = with_row at.placed.instruction at.opcode_row in
          let pool = a.own.file.pool in
          let uses = uses_locals a.own.file a.own.place code a.own.read at.stands.0 at.placed (slice_get-get_or code.instructions at.stands.0 at.placed at.stands.1 ∙ ap (λ (q : PlacedInstruction). Some q) at.stands.2) in
          let row : uses.decoded.row ≡ at.opcode_row = same_Some uses.decoded.row at.opcode_row (sym uses.row ∙ ap (λ (g : GivenInstruction). row_of g.opcode) (sym uses.same) ∙ at.of_opcode) in
          let local : locals_fit code.max_locals j ≡ true = ap (λ (g : GivenInstruction). locals_fit code.max_locals (with_row g at.opcode_row)) uses.same ∙ ap (λ (r : Row). locals_fit code.max_locals (with_row (given uses.decoded) r)) (sym row) ∙ uses.fits in
          let index = has_checked_index a.own.file a.own.place code a.own.read at.stands.0 at.placed (slice_get-get_or code.instructions at.stands.0 at.placed at.stands.1 ∙ ap (λ (q : PlacedInstruction). Some q) at.stands.2) in
          let index_row : index.decoded.row ≡ at.opcode_row = same_Some index.decoded.row at.opcode_row (sym index.row ∙ ap (λ (g : GivenInstruction). row_of g.opcode) (sym index.same) ∙ at.of_opcode) in
          let leads : leads_right pool j ≡ true = ap (λ (g : GivenInstruction). leads_right pool (with_row g at.opcode_row)) index.same ∙ ap (λ (r : Row). leads_right pool (with_row (given index.decoded) r)) (sym index_row) ∙ index.leads in
          let named : within_dimensions pool j ≡ true = ap (λ (g : GivenInstruction). within_dimensions pool (with_row g at.opcode_row)) index.same ∙ ap (λ (r : Row). within_dimensions pool (with_row (given index.decoded) r)) (sym index_row) ∙ index.within in
          let shape = shaped pool j at.row at.of_opcode at.of_row in
          let told : Placed = record { program = p; method = number; current = a.lowered.method.class; pool = pool; instruction = j; offset = step.offset; row = at.row; base = at.base } in
          let op = subst (λ (k : Placed). IsOp k.row.action k n.op) at.is is.op in
          let lowest = at.lowest in
          let slots = a.lowered.slots in
          let stack = a.lowered.stack in
          fits (l.slots + l.stack) code.max_locals told n.op (omega (arith, lowest, room, slots, stack)) (omega (arith, slots))
          (plain_reads pool code.max_locals j at.of_opcode local at.row at.of_row) (value_popped pool j at.row shape at.of_row) (both_popped pool j at.row shape at.of_row)
          leads named shape.shape op
