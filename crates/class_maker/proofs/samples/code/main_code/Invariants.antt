use Rattle.std.proofs.Common.{◌≡◌}
use Rattle.std.specs.List.{flat_map}
use Rattle.class_maker.specs.Sample.{below, call_of}
use Rattle.class_maker.proofs.samples.code.main_code.Given as goal

abbrev pub invariant-loop-number : goal.invariant-loop-number
invariant-loop-number l = l.code.items ≡ flat_map call_of (below l.number)
