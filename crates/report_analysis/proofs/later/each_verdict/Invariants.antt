use Rattle.std.proofs.Common.{take}
use Rattle.std.specs.List.{AllZip}
use Rattle.report_analysis.specs.Later.{IsVerdictOf}
use Rattle.report_analysis.proofs.later.each_verdict.Given as goal

abbrev pub invariant-loop-place : goal.invariant-loop-place
invariant-loop-place l = record { told : AllZip (IsVerdictOf l.asked) (take l.place l.sites) l.verdicts.items }
