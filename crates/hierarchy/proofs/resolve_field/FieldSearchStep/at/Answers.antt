use Rattle.jvm_model.specs.Lookups.{lent_signature}
use Rattle.hierarchy.proofs.FieldWalks.{field_here, found_among, none_among}
use Rattle.hierarchy.proofs.resolve_field.FieldSearchStep.at.Goals as goal

pub returns-in-Some : goal.returns-in-Some
returns-in-Some c = λ class stands. field_here c.args.program.now (lent_signature c.args.self.now.signature) c.args.class.0 class c.in-Some.field stands c.in-Some.ensures.found

pub returns-in-Some-declared_field : goal.returns-in-Some-declared_field
returns-in-Some-declared_field c = λ class stands.
    found_among c.args.program.now (lent_signature c.args.self.now.signature) c.args.class.0 class c.through_interfaces-interfaces.result.now c.loop-number.number-index
    c.in-Some-declared_field.field stands (c.through_interfaces-interfaces.ensures.order class stands) c.in_default.ensures.none c.loop-number.invariant
    c.loop-number-test.true c.in-Some-declared_field.ensures.found

pub returns : goal.returns
returns c = λ class stands.
    none_among c.args.program.now (lent_signature c.args.self.now.signature) c.args.class.0 class c.through_interfaces-interfaces.result.now c.loop-number.number-index
    stands (c.through_interfaces-interfaces.ensures.order class stands) c.in_default.ensures.none c.loop-number.invariant c.loop-number-test.false
