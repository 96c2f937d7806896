use Rattle.std.proofs.Common.{◌∙◌, sym}
use Rattle.end_numbers.specs.KeyRows.{keys_from}
use Rattle.end_numbers.proofs.KeyRows.{length-keys}
use Rattle.end_numbers.proofs.ReadEnds.{ends_length}
use Rattle.end_numbers.proofs.numbers.EndNumbers.len.Goals as goal

pub returns : goal.returns
returns c = c.len.ensures ∙ sym (length-keys c.self.inside.rows.rows) ∙ ends_length c.self.inside.facts.rows (keys_from c.self.inside.rows.rows) c.args.self.now c.self.view_is
