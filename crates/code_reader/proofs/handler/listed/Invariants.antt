use Rattle.std.proofs.Common.{◌≡◌, ◌-◌}
use Rattle.byte_reader.specs.Reading.{items_at}
use Rattle.byte_reader.proofs.Loop.{with_front}
use Rattle.code_reader.specs.CodeReading.{handler_at}
use Rattle.code_reader.proofs.handler.listed.Given as goal

abbrev pub invariant-loop : goal.invariant-loop
invariant-loop l =
    let read = handler_at l.pool l.long l.division.spots.items in
    with_front l.handlers.items (items_at read (l.count - l.counter) l.input) ≡ items_at read l.count l.fn.input
