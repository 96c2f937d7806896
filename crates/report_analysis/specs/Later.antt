-- This crate's own proofs alone rest on this module.
-- The verdicts by the stages that are asked for, with what is asked as the later stages take it.
use Rattle.jvm_model.specs.declared.site.Site.{Site}
use Rattle.machine_bytecode.specs.Objects.{Subject}
use Rattle.site_report.specs.declared.tracked_site.TrackedSite.{TrackedSite}
use Rattle.site_report.specs.declared.verdict.Verdict.{Verdict}
use Rattle.site_report.specs.Sites.{site_in}
use Rattle.report_spec.specs.Verdicts.{IsVerdictBy}
use Rattle.stage_verdicts.specs.declared.asked.LaterStages.{LaterStages}
use Rattle.stage_verdicts.specs.LaterVerdicts.{IsAtLimitBy, IsSafeBy}

-- The program and its entry, with the property.
abbrev pub subject_in : LaterStages → Subject
subject_in a = record { program = a.ground.now.program; property = a.automaton.now; entry = a.entry.0 }

-- The verdict of a site.
abbrev pub IsVerdictAt : LaterStages → Site → Verdict → Type 0
IsVerdictAt a s v = IsVerdictBy (IsSafeBy a (subject_in a) s) (IsAtLimitBy a (subject_in a) s) a.stages v

-- The verdict of a tracked site.
abbrev pub IsVerdictOf : LaterStages → TrackedSite → Verdict → Type 0
IsVerdictOf a t v = IsVerdictAt a (site_in a.ground.now.program t) v
