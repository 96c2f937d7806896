use Rattle.std.proofs.Common.{Some}
use Rattle.std.proofs.lemmas.Map.Text.{hash_map_updates_str}
use Rattle.classfile_reader.proofs.soundness.text_numbers.number_of.Goals as goal

pub returns-in_ok-insert-in-None-clause-known : goal.returns-in_ok-insert-in-None-clause-known
returns-in_ok-insert-in-None-clause-known c =
    hash_map_updates_str c.args.text.now c.args.by_text.now c.insert.new.self (Some c.args.index) c.in_ok-insert-in-None.ensures.updates
