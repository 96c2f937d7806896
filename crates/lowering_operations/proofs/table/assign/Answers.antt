use Rattle.std.proofs.Common.{refl, ◌∙◌, arith}
use Rattle.std.proofs.lemmas.List.{length-map}
use Rattle.jvm_model.specs.RowViews.{row_view, kind_view, source_view}
use Rattle.flow_graph.proofs.Rows.{few_pops, few_pushes}
use Rattle.lowering_operations.proofs.MovesMade.{are_moves_of}
use Rattle.lowering_operations.proofs.RowFacts.{few_stores, plain_makes_nothing}
use Rattle.lowering_operations.proofs.table.assign.Goals as goal

pub moves_of-requires-clause-pops : goal.moves_of-requires-clause-pops
moves_of-requires-clause-pops c = omega (arith, few_pops c.args.at.instruction.now.opcode (row_view c.args.at.row.now) c.requires.row, length-map c.args.at.row.now.pops.now kind_view)

pub moves_of-requires-clause-pushes : goal.moves_of-requires-clause-pushes
moves_of-requires-clause-pushes c = omega (arith, few_pushes c.args.at.instruction.now.opcode (row_view c.args.at.row.now) c.requires.row, length-map c.args.at.row.now.pushes.now source_view)

pub moves_of-requires-clause-stores : goal.moves_of-requires-clause-stores
moves_of-requires-clause-stores c = omega (arith, few_stores c.args.at.instruction.now.opcode (row_view c.args.at.row.now) c.requires.row, length-map c.args.at.row.now.stores.now source_view)

pub returns-clause-operation : goal.returns-clause-operation
returns-clause-operation c =
    let at = c.args.at in
    let r = row_view at.row.now in
    record {
      moves = c.from_vec.result;
      is = refl;
      each = rw (c.from_vec.ensures, c.in_ok-moves.ensures) (are_moves_of r at.instruction.now.operand c.args.base (plain_makes_nothing at.instruction.now.opcode r c.requires.row c.requires.action));
    }

pub returns-clause-order : goal.returns-clause-order
returns-clause-order c = c.from_vec.ensures ∙ c.in_ok-moves.ensures
