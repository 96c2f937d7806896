use Rattle.std.proofs.Common.{◌≡◌, map, take}
use Rattle.jvm_model.specs.RowViews.{raise_view}
use Rattle.machine_bytecode.specs.Machine.{exception_class}
use Rattle.lowering_handlers.specs.Exceptions.{AreRaised, numbers_named}
use Rattle.lowering_handlers.proofs.exceptions.raised_classes.Given as goal

abbrev pub invariant-loop-raise : goal.invariant-loop-raise
invariant-loop-raise l = record {
  so_far : AreRaised l.program (map (λ r. raise_view r) (take l.raise-index l.raises)) l.raised.items;
  ordered : l.raised.items ≡ numbers_named l.program (map (λ raise. exception_class raise) (map (λ r. raise_view r) (take l.raise-index l.raises)));
}
