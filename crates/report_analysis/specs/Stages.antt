-- Public contracts rest on this module.
-- What a report is asked for.
use Rattle.std.specs.Prelude.{◌<◌, ◌≤◌}
use Rattle.jvm_model.specs.declared.automaton.Automaton.{Automaton}
use Rattle.jvm_model.specs.Programs.{Program}
use Rattle.machine_bytecode.specs.Objects.{Subject}
use Rattle.report_spec.specs.Verdicts.{Asked}
use Rattle.report_analysis.specs.declared.asked.ReportStages.{ReportStages}

-- There are one to four stages, a path has three fields at most, and the limit is not zero.
pub record AreInRange (w : Asked) : Type 0 where
  pub some : 1 ≤ w.stages
  pub stages : w.stages ≤ 4
  pub depth : w.depth ≤ 3
  pub limit : 0 < w.fact_limit

-- The last stage, the depth and the limit.
abbrev pub asked_of : ReportStages → Asked
asked_of a = record { stages = a.stages; depth = a.depth; fact_limit = a.fact_limit }

-- The program and its entry, with the property.
abbrev pub subject_of : Program → Automaton → ReportStages → Subject
subject_of p property a = record { program = p; property = property; entry = a.entry.0 }
