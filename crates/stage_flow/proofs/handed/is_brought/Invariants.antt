use Rattle.std.proofs.Common.{◌≡◌, take, false}
use Rattle.std.specs.List.{list_any}
use Rattle.op_model.specs.declared.op.Move.{Move}
use Rattle.stage_flow.specs.Shapes.{brings}
use Rattle.stage_flow.proofs.handed.is_brought.Given as goal

abbrev pub invariant-loop-step : goal.invariant-loop-step
invariant-loop-step k = list_any (λ (m : Move). brings k.set k.path k.target m.source m.target) (take k.step-index k.moves) ≡ false
