-- This crate's own proofs alone rest on this module.
-- What is said where the analysis has no sets.
use Rattle.std.specs.Prelude.{[], ◌∷◌}
use Rattle.failure.specs.declared.Failure.{Failure}
use Rattle.failure.specs.declared.Failure.TheVariants.{Cause, OutOfMemory}
use Rattle.jvm_model.specs.declared.reason.Reason.TheVariants.{PairLimit}
use Rattle.points_to_rules.specs.declared.solve_fault.SolveFault.{SolveFault}
use Rattle.points_to_rules.specs.declared.solve_fault.SolveFault.TheVariants as solve_faults
use Rattle.run_spec.specs.declared.status.Status.TheVariants as statuses
use Rattle.run_spec.specs.Lines.{no_file, refused_line}
use Rattle.typestate_core.specs.declared.answer.Answer.{Answer}
use Rattle.typestate_core.specs.Answers.{Says}

-- There are too many pairs, of which no file is said to be the cause; or a file is refused. What has too much to number, or no memory, is no answer.
abbrev pub SaysEnd : Answer → Failure SolveFault → Type 0
SaysEnd a (Cause (solve_faults.PairLimit pairs)) = Says a statuses.Refused (refused_line no_file 0 PairLimit ∷ [])
SaysEnd a (Cause (solve_faults.Refused r)) = Says a statuses.Refused (refused_line r.file r.offset r.reason ∷ [])
SaysEnd a (Cause solve_faults.TooMany) = ⊥
SaysEnd a OutOfMemory = ⊥
