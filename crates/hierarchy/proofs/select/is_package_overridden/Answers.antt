use Rattle.jvm_model.specs.Lookups.{lent_signature}
use Rattle.program_model.specs.Numbers.{name_at}
use Rattle.hierarchy.proofs.ClassPlaces.{method_there}
use Rattle.hierarchy.proofs.Hiding.{hidden_iff}
use Rattle.hierarchy.proofs.select.is_package_overridden.Goals as goal

pub returns : goal.returns
returns c =
    let p = c.args.program.now in
    let m = method_there p c.args.resolved.0 c.requires.resolved in
    hidden_iff p (name_at p c.args.class.0) (name_at p c.class_of.result.0) (lent_signature c.signature_of.result) c.args.resolved.0 m.0 c.is_hidden.result m.1
    ((c.is_package_private.ensures m.0 m.1).0 c.if-not-is_package_private.false) (c.class_of.ensures.class m.0 m.1) (c.signature_of.ensures m.0 m.1)
    c.is_hidden.ensures.0 c.is_hidden.ensures.1
