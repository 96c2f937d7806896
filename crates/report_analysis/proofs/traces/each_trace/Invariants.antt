use Rattle.std.proofs.Common.{take, true}
use Rattle.std.specs.List.{AllZip}
use Rattle.std.specs.Prelude.{zip}
use Rattle.report_analysis.specs.Judging.{IsToldBelowBy}
use Rattle.report_analysis.proofs.traces.each_trace.Given as goal

abbrev pub invariant-loop-place : goal.invariant-loop-place
invariant-loop-place l = record { told : AllZip (IsToldBelowBy l.asked true) (take l.place (zip l.sites l.verdicts)) l.traces.items }
