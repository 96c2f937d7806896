use Rattle.std.proofs.Common.{Some, ◌∙◌, sym}
use Rattle.hierarchy.proofs.ClassPlaces.{method_there}
use Rattle.points_to_calls.proofs.Origins.{static_constraint, special_constraint}
use Rattle.points_to_calls.proofs.giving.first_constraint.Goals as goal

pub class_name-requires : goal.class_name-requires
class_name-requires c = let m = method_there c.args.program.now c.args.resolved.0 c.requires.resolved in (c.method.ensures m.0 m.1).below

pub returns-in_ok-class-in-Special : goal.returns-in_ok-class-in-Special
returns-in_ok-class-in-Special c = λ h held.
    let m = method_there c.args.program.now c.args.resolved.0 c.requires.resolved in
    let e = c.in_ok-class-in-Special.ensures in
    let name = c.class_name.ensures ∙ sym (c.method.ensures m.0 m.1).class in
    special_constraint c.args.program.now c.args.tables.now c.class_name-in-Special.new.self c.args.kind c.args.resolved c.in_ok-class-in-Special.class c.args.to h m.0 c.in-Special.is m.1
    (e.stands ∙ (λ i. Some (name i))) e.grows e.calls held

pub returns-in-Static : goal.returns-in-Static
returns-in-Static c = λ h held. static_constraint c.args.program.now c.args.tables.now c.args.kind c.args.resolved c.args.to h c.in-Static.is held
