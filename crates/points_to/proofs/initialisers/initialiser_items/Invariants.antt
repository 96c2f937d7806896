use Rattle.std.proofs.Common.{take}
use Rattle.jvm_model.specs.declared.number.MethodNo.{MethodNo}
use Rattle.points_to_constraints.specs.Items.{Item as RuleItem}
use Rattle.points_to_methods.specs.Initiated.{IsInitiated}
use Rattle.points_to_numbers.proofs.Adding.{OfOne}
use Rattle.points_to_numbers.specs.Steps.{Makes}
use Rattle.points_to.proofs.initialisers.initialiser_items.Given as goal

abbrev pub invariant-loop-initialiser : goal.invariant-loop-initialiser
invariant-loop-initialiser l =
    Makes l.initial.work.tables l.work.tables (OfOne (λ (i : MethodNo) (x : RuleItem). IsInitiated i x) (take l.initialiser-index l.initialiser-items)) l.initial.work.steps.items l.work.steps.items
