use Rattle.std.proofs.Common.{ℕ, Option, sym, subst}
use Rattle.op_model.specs.declared.op.Op.TheVariants.{Return}
use Rattle.points_to_constraints.specs.NodeItems.{OpItem}
use Rattle.points_to_numbers.specs.Steps.{Makes}
use Rattle.points_to_methods.proofs.operations.return_slot.Goals as goal

pub returns : goal.returns
returns c = λ n at.
    let l = c.args.at.now.method.now in
    subst (λ (value : Option ℕ). Makes c.args.work.now.tables c.leave_slot.new.work.tables (OpItem (Return value) c.args.at.now.program.now l.method l n) c.args.work.now.steps.items c.leave_slot.new.work.steps.items)
    (sym c.in-Some.is) (c.in_ok-leave_slot.ensures n at)
