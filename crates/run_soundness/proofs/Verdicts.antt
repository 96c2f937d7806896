-- A site that the first stage proves safe never errs, in any execution of the bytecode.
use Rattle.std.proofs.Common.{inl, List, Contains}
use Rattle.jvm_model.specs.declared.site.Site.{Site}
use Rattle.jvm_model.specs.LinkedPrograms.{IsProgram}
use Rattle.machine_bytecode.specs.Executions.{Errs}
use Rattle.machine_bytecode.specs.Objects.{Subject}
use Rattle.op_model.specs.Supplies.{Given, IsMapOf}
use Rattle.least_sets.specs.Rules.{IsClosedSet}
use Rattle.points_to_rules.specs.Facts.{Fact}
use Rattle.points_to_rules.specs.Refusals.{IsUnrefused}
use Rattle.points_to_rules.specs.Rules.{Instance}
use Rattle.lowering_supply.proofs.EachAnswer.{each_answer}
use Rattle.lowering_supply.proofs.Maps.{is_map}
use Rattle.lowering_supply.specs.Supplied.{IsSupplied}
use Rattle.simulation.proofs.Supplied.{supplied_runs}
use Rattle.simulation.specs.Simulation.{HasEntry, HasExceptions, IsRun}
use Rattle.coverage.proofs.Refused.{calls_unrefused}
use Rattle.simulation.proofs.Whole.{supplied_whole}
use Rattle.simulation.proofs.CoveredExecutions.{executions_covered}
use Rattle.prune_stage.specs.Pruning.{IsPruned}
use Rattle.report_spec.specs.AllFacts.{AreAllFacts}
use Rattle.run_soundness.specs.ClosedFacts.{AreClosedFacts}
use Rattle.run_soundness.proofs.Words.{never_errs}

pub pruned_never_errs : (x : Subject) (given : Given) (facts : List Fact) → IsRun x given → IsMapOf given (IsSupplied x.program)
    → IsClosedSet (Instance x.program (IsSupplied x.program) (record { 0 = x.entry })) (Contains facts) → IsUnrefused x.program (IsSupplied x.program) (Contains facts)
    → (s : Site) → IsPruned (IsSupplied x.program) (Contains facts) x.property s → Errs x s → ⊥
pruned_never_errs x given facts run map closed unrefused s pruned e =
    let whole = supplied_whole x.program in
    let all = executions_covered x given (IsSupplied x.program) (Contains facts) run map (λ number coded. each_answer x.program number run.program coded) whole closed unrefused
    e.states e.execution in
    never_errs x given (IsSupplied x.program) (Contains facts) map closed whole (calls_unrefused x.program (IsSupplied x.program) (Contains facts) run.program whole unrefused) s pruned
    (record {
      states = e.states;
      execution = all.1;
      state = e.state;
      reached = e.reached;
      object = e.object;
      lives = e.lives;
      of_site = e.of_site;
      in_error = e.in_error;
    })

-- So it is by any closed facts of a folder.
pub closed_never_errs : (x : Subject) (facts : List Fact) → IsProgram x.program → HasExceptions x.program → HasEntry x → AreClosedFacts x facts
    → (s : Site) → IsPruned (IsSupplied x.program) (Contains facts) x.property s → Errs x s → ⊥
closed_never_errs x facts program exceptions entry are s pruned e =
    let m = is_map x.program program in
    pruned_never_errs x m.0 facts (supplied_runs x m.0 program exceptions entry m.1) m.1 (λ premises fact instance hold. are.closed premises fact (inl instance) hold) are.unrefused s pruned e

-- The least facts are closed ones.
pub least_are_closed : (x : Subject) (facts : List Fact) → AreAllFacts x.program (IsSupplied x.program) (record { 0 = x.entry }) facts → AreClosedFacts x facts
least_are_closed x facts all = record { closed = λ premises fact instance hold. all.least.closed premises fact instance hold; unrefused = all.unrefused }
