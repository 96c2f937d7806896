use Rattle.std.proofs.Common.{◌≡◌, ◌-◌, ◌++◌, map}
use Rattle.machine_bytecode.specs.Machine.{nested_arrays}
use Rattle.lowering_operations.specs.ByAction.{site_at}
use Rattle.lowering_operations.proofs.arrays.nested_sites.Given as goal

abbrev pub invariant-loop : goal.invariant-loop
invariant-loop l = l.sites.items ++ map (site_at l.at) (nested_arrays (l.count - l.counter) l.rest) ≡ map (site_at l.at) (nested_arrays l.count l.array)
