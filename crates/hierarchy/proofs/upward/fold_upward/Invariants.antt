use Rattle.program_model.specs.Numbers.{name_at}
use Rattle.hierarchy.specs.Upward.{IsFoldedUpward}
use Rattle.hierarchy.proofs.Chains.{HasRoom}
use Rattle.hierarchy.proofs.upward.fold_upward.Given as goal

-- what the classes from the current one on make of the current value is what those from the first on make of the first value
abbrev pub invariant-upward : goal.invariant-upward
invariant-upward g l = record {
  room : HasRoom l.program l.current.0 l._passed;
  same : (last : _) → IsFoldedUpward l.program (g.F.Fold.makes l.fold l.program) (name_at l.program l.current.0) l.value last
      → IsFoldedUpward l.program (g.F.Fold.makes l.fold l.program) (name_at l.program l.fn.class.0) l.fn.start last;
}
