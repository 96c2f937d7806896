use Rattle.std.proofs.Common.{sym, subst, Option}
use Rattle.points_to_calls.specs.declared.origin.Origin.{Origin}
use Rattle.points_to_calls.specs.Describing.{IsOriginFor}
use Rattle.points_to_calls.specs.Parts.{ArgumentGives}
use Rattle.points_to_calls.proofs.Stubs.{no_unit_origin, unit_origin}
use Rattle.points_to_calls.proofs.described.argument_origin.Goals as goal

pub returns-in_default : goal.returns-in_default
returns-in_default c = λ n r at. no_unit_origin n c.args.description.now.stub.now c.args.argument r c.in_default.ensures

pub returns : goal.returns
returns c = λ n r at.
    let stub = c.args.description.now.stub.now in
    subst (λ (origin : Option Origin). IsOriginFor n (ArgumentGives stub r c.args.argument) origin) (sym c.origin_of_unit.ensures)
    (unit_origin n stub c.args.argument c.args.description.now.receiver r c.in-Some.unit at c.in-Some.ensures)
