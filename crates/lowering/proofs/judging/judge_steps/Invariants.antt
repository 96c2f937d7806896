use Rattle.std.proofs.Common.{take}
use Rattle.std.specs.List.{AllZip}
use Rattle.lowering.specs.Bodies.{IsJudgedStep}
use Rattle.lowering.proofs.judging.judge_steps.Given as goal

abbrev pub invariant-loop-step : goal.invariant-loop-step
invariant-loop-step l = AllZip (IsJudgedStep l.body) (take l.step-index l.steps) l.judged.items
