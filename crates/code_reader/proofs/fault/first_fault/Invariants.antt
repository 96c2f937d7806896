use Rattle.std.proofs.Common.{◌≡◌, drop}
use Rattle.code_reader.specs.Division.{fault_of, first_fault}
use Rattle.code_reader.proofs.fault.first_fault.Given as goal

abbrev pub invariant-loop-spot : goal.invariant-loop-spot
invariant-loop-spot l =
    let test = fault_of l.pool (record { limit = l.locals.limit; parameters = l.locals.parameters }) l.division.spots.items l.division.stop in
    first_fault test l.division.stop l.division.spots.items ≡ first_fault test l.division.stop (drop l.spot-index l.division.spots.items)
