use Rattle.jvm_model.specs.Lookups.{lent_signature}
use Rattle.program_model.specs.Numbers.{name_at}
use Rattle.hierarchy.proofs.Inheriting.{inherited_found}
use Rattle.hierarchy.proofs.superinterfaces.first_inherited.Goals as goal

pub returns : goal.returns
returns g c =
    let p = c.args.program.now in
    let is = c.well_formed-2.ensures in
    inherited_found p is.program is.ranked (lent_signature c.args.signature) (g.S.Sought.takes c.args.sought.now p) (name_at p c.args.class.0) c.first_upward.result c.first_upward.ensures
