use Rattle.std.proofs.Common.{◌-◌, ◌^◌}
use Rattle.stage_tests.proofs.number_sets.listed.Given as goal

abbrev pub decreases-loop-number : goal.decreases-loop-number
decreases-loop-number l = 2 ^ 32 - l.from
