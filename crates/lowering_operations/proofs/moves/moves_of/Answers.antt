use Rattle.std.proofs.Common.{refl}
use Rattle.std.proofs.lemmas.List.{length-map}
use Rattle.jvm_model.specs.RowViews.{kind_view, source_view}
use Rattle.lowering_operations.proofs.moves.moves_of.Goals as goal

pub returns : goal.returns
returns c =
    rw (c.in_ok-push_cleared.ensures, c.in_ok-push_moves-2.ensures, c.in_ok-push_moves.ensures, c.new-moves.ensures.items, c.saturating_sub.ensures, length-map c.args.row.now.pops.now kind_view, length-map c.args.row.now.pushes.now source_view) refl
