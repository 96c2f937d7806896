-- A closed list covers each execution on the methods of a folder.
use Rattle.std.proofs.Common.{inl, inr, List, Contains}
use Rattle.jvm_model.specs.LinkedPrograms.{IsProgram}
use Rattle.least_sets.specs.Rules.{IsClosedSet}
use Rattle.op_model.specs.Supplies.{Given, IsMapOf}
use Rattle.machine_bytecode.specs.Objects.{Subject}
use Rattle.points_to_rules.specs.Facts.{Fact}
use Rattle.points_to_rules.specs.Refusals.{IsUnrefused}
use Rattle.points_to_rules.specs.Writes.{AnyInstance}
use Rattle.lowering_supply.specs.Supplied.{IsSupplied}
use Rattle.coverage.specs.Changes.{ChangesAreWritten}
use Rattle.coverage.specs.Covering.{CoversAll}
use Rattle.coverage.specs.Uses.{InformsAll}
use Rattle.coverage.proofs.Changed.{changes_written}
use Rattle.coverage.proofs.Executions.{covers_all}
use Rattle.coverage.proofs.Refused.{calls_unrefused}
use Rattle.coverage.proofs.Uses.{informs_all}
use Rattle.simulation.proofs.Whole.{supplied_whole}

pub closed_covers : (x : Subject) (given : Given) (facts : List Fact) → IsProgram x.program → IsMapOf given (IsSupplied x.program)
    → IsClosedSet (AnyInstance x.program (IsSupplied x.program) (record { 0 = x.entry })) (Contains facts)
    → IsUnrefused x.program (IsSupplied x.program) (Contains facts)
    → CoversAll x given (IsSupplied x.program) (Contains facts) × InformsAll x given (IsSupplied x.program) (Contains facts) × ChangesAreWritten x given (Contains facts)
closed_covers x given facts program map closed unrefused =
    let whole = supplied_whole x.program in
    let calls = calls_unrefused x.program (IsSupplied x.program) (Contains facts) program whole unrefused in (
      covers_all x given (IsSupplied x.program) (Contains facts) map (λ premises fact instance hold. closed premises fact (inl instance) hold) whole calls,
      informs_all x given (IsSupplied x.program) (Contains facts) map (λ premises fact instance hold. closed premises fact (inl instance) hold) whole calls,
      changes_written x given (IsSupplied x.program) (Contains facts) map (λ premises fact instance hold. closed premises fact (inl instance) hold)
          (λ premises fact instance hold. closed premises fact (inr instance) hold) whole calls,
    )
