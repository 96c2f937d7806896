use Rattle.std.proofs.Common.{◌≡◌, Some, take}
use Rattle.std.specs.List.{slice_get}
use Rattle.jvm_model.specs.declared.number.MethodNo.{MethodNo}
use Rattle.points_to_constraints.specs.Items.{CatchChain}
use Rattle.points_to_numbers.proofs.Adding.{OfOne}
use Rattle.points_to_numbers.specs.Steps.{Makes}
use Rattle.points_to_methods.specs.Started.{IsStarted}
use Rattle.points_to_methods.proofs.triggers.trigger_items.Given as goal

abbrev pub invariant-loop-initialiser : goal.invariant-loop-initialiser
invariant-loop-initialiser l =
    (catch_chain : CatchChain) → slice_get l.initial.work.tables.catch_chains l.catch_chain.0 ≡ Some catch_chain
    → Makes l.initial.work.tables l.work.tables (OfOne (λ (i : MethodNo). IsStarted i catch_chain) (take l.initialiser-index l.initialiser-items)) l.fn.work.steps.items l.work.steps.items
