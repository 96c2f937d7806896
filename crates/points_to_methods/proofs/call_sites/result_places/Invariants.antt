use Rattle.std.proofs.Common.{take}
use Rattle.std.specs.List.{AllZip}
use Rattle.points_to_methods.specs.CallEntries.{GrowsTo, StandsForResult}
use Rattle.points_to_methods.proofs.call_sites.result_places.Given as goal

abbrev pub invariant-loop-offset : goal.invariant-loop-offset
invariant-loop-offset l = GrowsTo (λ numbered. AllZip (StandsForResult l.at.method.now l.slot numbered) (take l.offset-index l.offset-items) l.places.items) l.fn.tables l.tables
