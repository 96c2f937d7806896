use Rattle.jvm_model.specs.Linking.{claim, of_kind, Meets}
use Rattle.program_linking.proofs.ClaimSteps.{one_met, one_unmet}
use Rattle.program_linking.proofs.KnownClasses.{other_kind, same_bool, not_same_bool}
use Rattle.std.proofs.Common.{Bool, subst}
use Rattle.program_linking.proofs.supers.check_kind.Goals as goal

pub returns-then-is_interface-as_interface : goal.returns-then-is_interface-as_interface
returns-then-is_interface-as_interface c =
    let wanted = claim c.args.file.now c.args.offset (of_kind c.args.as_interface c.args.name.now) in
    let same = same_bool c.in-Some.is_interface c.args.as_interface c.if-is_interface-as_interface.true in
    one_met c.args.known.now wanted (subst (λ (kind : Bool). Meets c.args.known.now (of_kind kind c.args.name.now)) same c.in-Some.ensures.found.only)

pub returns-else-is_interface-as_interface : goal.returns-else-is_interface-as_interface
returns-else-is_interface-as_interface c =
    let wanted = claim c.args.file.now c.args.offset (of_kind c.args.as_interface c.args.name.now) in
    one_unmet ⊥ c.args.known.now wanted c.refused.result
    (other_kind c.args.known.now c.args.name.now c.in-Some.is_interface c.args.as_interface c.in-Some.ensures.found
    (not_same_bool c.in-Some.is_interface c.args.as_interface c.if-is_interface-as_interface.false))
    c.refused.ensures
