use Rattle.std.proofs.Common.{◌≡◌, ◌≤◌, ◌<◌, ◌+◌, ◌*◌, ◌-◌, ◌∷◌, ◌++◌, length}
use Rattle.jvm_model.specs.Instructions.{table_targets}
use Rattle.code_reader.proofs.switch.table_targets.Given as goal

abbrev pub invariant-loop : goal.invariant-loop
invariant-loop l =
    (l.targets.items ++ table_targets l.offset l.table.entry (l.table.count - l.counter) l.rest ≡ l.fn.default ∷ table_targets l.offset l.table.entry l.table.count l.entries)
    × (l.counter < l.table.count → l.table.entry * (l.table.count - l.counter) + 4 ≤ length l.rest + l.table.entry)
