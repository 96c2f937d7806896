use Rattle.report_analysis.proofs.FoundLines.{LeavesLines}
use Rattle.report_analysis.proofs.writing.site_lines.Given as goal

abbrev pub invariant-loop-place : goal.invariant-loop-place
invariant-loop-place l = record { left : LeavesLines l.program l.sites l.judged.verdicts.items l.judged.traces.items l.text.items l.place }
