use Rattle.std.proofs.Common.{◌∙◌, Some, sym, ap}
use Rattle.end_numbers.specs.declared.key.EndKey.{EndKey}
use Rattle.end_numbers.proofs.KeyRows.{key_of_row, row_length}
use Rattle.end_numbers.proofs.key.key_at.Goals as goal

pub read_key-requires : goal.read_key-requires
read_key-requires c = row_length c.args.rows.now.rows c.requires.keys c.args.number c.words.result.now c.words.ensures

pub returns : goal.returns
returns c =
    key_of_row c.args.rows.now.rows c.args.number c.words.result.now c.words.ensures ∙ ap (λ (key : EndKey). Some key) (sym c.read_key.ensures)
