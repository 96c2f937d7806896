use Rattle.std.proofs.Common.{◌≡◌, List, drop, subst, ap, arith}
use Rattle.op_model.specs.declared.op.Move.{Move}
use Rattle.op_model.specs.declared.op.Source.TheVariants.{Slot}
use Rattle.slot_names.specs.MovedRows.{IsMoved}
use Rattle.slot_names.proofs.MovedVariables.{moved_more}
use Rattle.slot_names.proofs.moved.moved_row.Goals as goal

-- a move past the end
abbrev past : Move
past = record { source = Slot 0; target = 0 }

pub loop-left-preserved : goal.loop-left-preserved
loop-left-preserved c = record {
  moved = moved_more c.args.rows.now c.loop-left.rows c.set.new.self c.args.method c.args.entry c.args.moves.now c.args.offset c.loop-left.row c.in_ok-row.row c.loop-left.left past
      c.moved_variable-variable.result c.requires c.loop-left.invariant.moved c.loop-left-test.true c.loop-left.invariant.within c.moved_variable-variable.ensures c.in_ok-row.ensures;
  within = omega (arith, c.loop-left.invariant.within);
}

pub returns : goal.returns
returns c =
    let none : c.loop-left.left ≡ 0 = omega arith in
    subst (λ (ms : List Move). IsMoved c.args.rows.now c.loop-left.rows c.args.method c.args.entry ms c.args.offset c.loop-left.row)
    (ap (λ k. drop k c.args.moves.now) none) c.loop-left.invariant.moved
