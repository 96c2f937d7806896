use Rattle.program_model.specs.Numbers.{name_at}
use Rattle.hierarchy.specs.Upward.{IsFirstUpward}
use Rattle.hierarchy.proofs.Chains.{HasRoom}
use Rattle.hierarchy.proofs.upward.first_upward.Given as goal

-- what a walk from the current class on gives is what one from the first class gives
abbrev pub invariant-upward : goal.invariant-upward
invariant-upward g l = record {
  room : HasRoom l.program l.current.0 l._passed;
  same : (found : _) → IsFirstUpward l.program (g.S.Step.answers l.step l.program) (name_at l.program l.current.0) found
      → IsFirstUpward l.program (g.S.Step.answers l.step l.program) (name_at l.program l.fn.class.0) found;
}
