use Rattle.std.proofs.Common.{sym, subst}
use Rattle.op_model.specs.declared.op.CallKind.{CallKind}
use Rattle.points_to_rules.specs.Calls.{SelectsFor}
use Rattle.call_selection.specs.OnlyAnswers.{IsOnlyAnswer}
use Rattle.call_selection.proofs.selection.selected_for.Goals as goal

pub returns-in-Virtual : goal.returns-in-Virtual
returns-in-Virtual c = λ s e.
    subst (λ (k : CallKind). IsOnlyAnswer (SelectsFor k c.args.program.now c.args.resolved s) c.selected_from.result) (sym c.in-Virtual.is) (c.selected_from.ensures s e)

pub returns-in-Interface : goal.returns-in-Interface
returns-in-Interface c = λ s e.
    subst (λ (k : CallKind). IsOnlyAnswer (SelectsFor k c.args.program.now c.args.resolved s) c.selected_from-in-Interface.result) (sym c.in-Interface.is)
    (c.selected_from-in-Interface.ensures s e)
