use Rattle.std.proofs.Common.{ℕ, List, ap}
use Rattle.op_model.specs.declared.op.Op.TheVariants.{Cast}
use Rattle.lowering_operations.proofs.table.cast.Goals as goal

pub returns-clause-operation : goal.returns-clause-operation
returns-clause-operation c = (record { class = c.class_at-class.result.now; named = c.class_at-class.ensures }, ap (λ (name : List ℕ). Cast name c.args.base) c.in_ok-copy_of.ensures)
