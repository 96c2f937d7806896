use Rattle.jvm_model.specs.Lookups.{lent_signature}
use Rattle.program_model.specs.Numbers.{name_at}
use Rattle.hierarchy.proofs.LeastMethods.{least_found}
use Rattle.hierarchy.proofs.least.least_inherited.Goals as goal

pub returns : goal.returns
returns c =
    let p = c.args.program.now in
    let is = c.well_formed-2.ensures in
    least_found p is.program is.ranked (lent_signature c.args.signature) (name_at p c.args.class.0) c.fold_upward.result c.fold_upward.ensures
