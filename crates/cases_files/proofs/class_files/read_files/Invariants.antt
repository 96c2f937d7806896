use Rattle.std.proofs.Common.{All}
use Rattle.program_linking.specs.LinkAnswers.{IsSoundFile}
use Rattle.cases_files.proofs.class_files.read_files.Given as goal

abbrev pub invariant-loop-name : goal.invariant-loop-name
invariant-loop-name g l = All IsSoundFile l.files.items
