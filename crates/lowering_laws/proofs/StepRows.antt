-- Each step of a flow graph has a row.
use Rattle.std.proofs.Common.{◌≡◌, ◌⊎◌, inl, inr, ℕ, ◌≤◌, List, Contains, refl, ap, subst}
use Rattle.std.proofs.lemmas.List.Elements.{All-contains}
use Rattle.jvm_model.specs.declared.class_file.ClassFile.{ClassFile}
use Rattle.jvm_model.specs.declared.code.Code.{Code}
use Rattle.jvm_model.specs.declared.code.Instruction.{Instruction as Given}
use Rattle.jvm_model.specs.declared.pool.PoolEntry.{PoolEntry}
use Rattle.jvm_model.specs.Table.{Row, Action, refused}
use Rattle.flow_graph.specs.declared.effect.Effect.{Effect}
use Rattle.flow_graph.specs.declared.steps.Graph.{Graph}
use Rattle.flow_graph.specs.declared.steps.GraphStep.{GraphStep}
use Rattle.flow_graph.specs.Effects.{IsRowEffect, IsEffectBy}
use Rattle.flow_graph.specs.Graphing.{IsStep, IsFlow}
use Rattle.lowering_laws.specs.StepRows.{IsResolved, HasRow}

resolved_of : (pool : List PoolEntry) (i : Given) (r : Row) (e : Effect) (height : ℕ) → e.pops ≤ height → IsRowEffect pool i r e → IsResolved pool i r height
resolved_of pool i r e height enough is =
    record { resolved = is.resolved; is_row = is.is_row; enough = subst (λ (n : ℕ). n ≤ height) (ap (λ (f : Effect). f.pops) is.effect_is) enough }

by_action : (a : Action) (pool : List PoolEntry) (i : Given) (r : Row) (e : Effect) (height : ℕ) → e.pops ≤ height → IsEffectBy a pool i r e → (a ≡ refused) ⊎ IsResolved pool i r height
by_action refused pool i r e height enough is = inl refl
by_action _ pool i r e height enough is = inr (resolved_of pool i r e height enough is)

has_row : (c : ClassFile) (code : Code) (steps : List GraphStep) (s : GraphStep) → IsStep c code steps s → HasRow c code s
has_row c code steps s is = record {
  number = is.number;
  placed = is.placed;
  stands = is.stands;
  offset_is = is.offset_is;
  row = is.has.row;
  of_opcode = is.has.of_opcode;
  resolved = by_action is.has.row.action c.pool is.placed.instruction is.has.row is.effect s.height is.enough is.has.is_effect;
}

pub step_row : (c : ClassFile) (code : Code) (g : Graph) → IsFlow c code g → (s : GraphStep) → Contains g.steps s → HasRow c code s
step_row c code g flow s there = has_row c code g.steps s (All-contains (IsStep c code g.steps) g.steps s flow.each there)
