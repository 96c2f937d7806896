use Rattle.std.proofs.Common.{◌-◌, length}
use Rattle.chained_lists.specs.Entries.{IsOn, passed}
use Rattle.stage_tests.proofs.chains.listed.Given as goal

abbrev pub invariant-loop-place : goal.invariant-loop-place
invariant-loop-place l = record { on : IsOn l.chains l.number l.last }

abbrev pub decreases-loop-place : goal.decreases-loop-place
decreases-loop-place l = length l.chains - passed l.last
