use Rattle.std.proofs.Common.{◌≡◌, map, take}
use Rattle.report_analysis.specs.Written.{verdict_of}
use Rattle.report_analysis.proofs.verdicts.first_verdicts.Given as goal

abbrev pub invariant-loop-answer : goal.invariant-loop-answer
invariant-loop-answer l = record { told : l.verdicts.items ≡ map verdict_of (take l.answer-index l.answers) }
