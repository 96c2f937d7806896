use Rattle.std.proofs.Common.{sym, arith}
use Rattle.std.proofs.lemmas.Option.{slice_get_past}
use Rattle.jvm_model.specs.Table.{rows}
use Rattle.jvm_model.proofs.opcode.row_of_opcode.Goals as goal

-- the table has 202 rows
pub returns-in_default : goal.returns-in_default
returns-in_default c = sym (slice_get_past rows c.args.opcode (omega (arith, c.in_default)))
