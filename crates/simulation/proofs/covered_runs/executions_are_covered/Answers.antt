use Rattle.std.specs.List.{Contains}
use Rattle.lowering_supply.proofs.EachAnswer.{each_answer}
use Rattle.lowering_supply.specs.Supplied.{IsSupplied}
use Rattle.simulation.proofs.CoveredExecutions.{executions_covered}
use Rattle.simulation.proofs.covered_runs.executions_are_covered.Goals as goal

pub returns : goal.returns
returns c = λ x given facts run map whole closed unrefused states execution.
    executions_covered x given (IsSupplied x.program) (Contains facts) run map (λ number coded. each_answer x.program number run.program coded) whole closed unrefused states execution
