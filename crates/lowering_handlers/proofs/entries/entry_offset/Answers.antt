use Rattle.std.proofs.Common.{ℕ, ◌+◌, ◌*◌, ap}
use Rattle.lowering_handlers.proofs.entries.entry_offset.Goals as goal

pub returns : goal.returns
returns c = λ m body stands has. ap (λ (n : ℕ). c.args.code.now.at + n + 2 + 8 * c.args.place) (c.code_length-code_length.ensures.said m body stands has)
