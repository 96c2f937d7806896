use Rattle.std.proofs.Common.{ap}
use Rattle.jvm_model.specs.declared.site.Site.{Site}
use Rattle.op_model.specs.declared.op.Op.TheVariants.{New}
use Rattle.lowering_operations.proofs.table.make_object.Goals as goal

pub returns-clause-operation : goal.returns-clause-operation
returns-clause-operation c = (record { class = c.class_at-class.result.now; named = c.class_at-class.ensures }, ap (λ (s : Site). New s c.args.base) c.in_ok-new_site.ensures)
