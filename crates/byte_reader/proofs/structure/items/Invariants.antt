use Rattle.std.proofs.Common.{◌≡◌, ◌-◌}
use Rattle.byte_reader.specs.Reading.{items_at}
use Rattle.byte_reader.proofs.Loop.{with_front}
use Rattle.byte_reader.proofs.structure.items.Given as goal

abbrev pub invariant-loop : goal.invariant-loop
invariant-loop g l = with_front l.items.items (items_at g.X.Structure.reading (l.count - l.counter) l.input) ≡ items_at g.X.Structure.reading l.count l.fn.input
