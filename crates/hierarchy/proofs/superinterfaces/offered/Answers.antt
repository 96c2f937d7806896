use Rattle.std.proofs.Common.{◌∙◌, sym}
use Rattle.jvm_model.specs.Lookups.{lent_signature}
use Rattle.hierarchy.proofs.Inheriting.{offered_declared}
use Rattle.hierarchy.proofs.superinterfaces.offered.Goals as goal

pub returns : goal.returns
returns g c =
    let p = c.args.program.now in
    offered_declared p (lent_signature c.args.signature) (g.S.Sought.takes c.args.sought.now p) c.args.interface.0 c.declared.result c.requires.class
    (λ class at. sym (c.is_interface.ensures class at) ∙ c.if-not-is_interface.false) c.declared.ensures
