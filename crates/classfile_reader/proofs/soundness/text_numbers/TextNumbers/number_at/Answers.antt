use Rattle.std.proofs.Common.{sym}
use Rattle.classfile_reader.specs.declared.soundness.text_numbers.TextNumbers.{TextNumbers}
use Rattle.classfile_reader.proofs.TextNumbers.{numbers_more}
use Rattle.classfile_reader.proofs.soundness.text_numbers.TextNumbers.number_at.Goals as goal

pub returns-in_ok-insert-in-Some-text_at-clause-known : goal.returns-in_ok-insert-in-Some-text_at-clause-known
returns-in_ok-insert-in-Some-text_at-clause-known c =
    let new : TextNumbers = record { by_text = c.number_of.new.by_text; by_index = c.insert.new.self } in
    let number = c.in_ok-number-in-Some-text_at in
    numbers_more c.args.pool.now c.args.self.now new c.args.index number.number c.in-Some-text_at.text.now c.requires (sym c.in-Some-text_at.ensures) number.ensures.number number.ensures.known c.in_ok-insert-in-Some-text_at.ensures.updates.0
