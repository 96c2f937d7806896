use Rattle.std.proofs.Common.{◌≡◌, take, nat_eq, false}
use Rattle.std.specs.List.{list_any}
use Rattle.op_model.specs.declared.op.Move.{Move}
use Rattle.stage_flow.proofs.written.is_target.Given as goal

abbrev pub invariant-loop-step : goal.invariant-loop-step
invariant-loop-step l = list_any (λ (m : Move). nat_eq l.slot m.target) (take l.step-index l.moves) ≡ false
