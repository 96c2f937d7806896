use Rattle.std.proofs.Common.{ap, length, ◌-◌, ◌∙◌}
use Rattle.std.specs.Prelude.{slice_get}
use Rattle.jvm_model.specs.RowViews.{row_view}
use Rattle.jvm_model.specs.Table.{rows}
use Rattle.jvm_model.proofs.TableParts.{in_part}
use Rattle.jvm_model.proofs.ViewedItems.{viewed_item}
use Rattle.jvm_model.proofs.opcode.row_in.Goals as goal

-- the rows of the part, seen, are those of the table from the first on
pub returns : goal.returns
returns c =
    viewed_item (λ r. row_view r) c.args.part.now (c.args.opcode - c.args.first) c.get.result c.get.ensures.lookup
    ∙ ap (λ xs. slice_get xs (c.args.opcode - c.args.first)) c.requires.rows
    ∙ in_part c.args.first (length c.args.part.now) rows c.args.opcode c.requires.from c.requires.until
