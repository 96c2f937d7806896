use Rattle.std.proofs.Common.{◌≡◌, take}
use Rattle.std.specs.List.{flat_map}
use Rattle.stage_verdicts.specs.TraceTexts.{line_at}
use Rattle.stage_verdicts.proofs.trace.lines_at.Given as goal

abbrev pub invariant-loop-place : goal.invariant-loop-place
invariant-loop-place l = record { told : l.text.items ≡ flat_map (line_at l.setting.stage l.setting.site.now l.edges.edges) (take l.place-index l.places) }
