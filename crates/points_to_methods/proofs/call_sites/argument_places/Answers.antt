use Rattle.std.proofs.Common.{refl, arith}
use Rattle.points_to_numbers.proofs.Growing.{grows_same}
use Rattle.points_to_methods.specs.CallEntries.{StandsForUnit}
use Rattle.points_to_methods.proofs.EntryLists.{entry_more, entries_all}
use Rattle.points_to_methods.proofs.NumberedSites.{longer_unit}
use Rattle.points_to_methods.proofs.call_sites.argument_places.Goals as goal

pub loop-argument-init : goal.loop-argument-init
loop-argument-init c = λ n at. record { grows = grows_same c.args.tables.now; calls = refl; holds = rw c.in_ok-places.ensures.items tt }

pub loop-argument-preserved : goal.loop-argument-preserved
loop-argument-preserved c = λ n at.
    let l = c.args.at.now.method.now in
    rw c.in_ok-push.ensures.items (entry_more (StandsForUnit l n) (longer_unit l n) c.args.tables.now c.loop-argument.tables c.argument_place.new.tables c.args.arguments.now c.loop-argument.argument-index _
    c.loop-argument.places.items c.in_ok-place.place c.loop-argument-test.true (c.loop-argument.invariant n at) (c.in_ok-place.ensures n at))

pub returns : goal.returns
returns c = λ n at.
    let l = c.args.at.now.method.now in
    rw c.from_vec.ensures (entries_all (StandsForUnit l n) (longer_unit l n) c.args.tables.now c.loop-argument.tables c.args.arguments.now c.loop-argument.argument-index c.loop-argument.places.items (omega arith)
    (c.loop-argument.invariant n at))
