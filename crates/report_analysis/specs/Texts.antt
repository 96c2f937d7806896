-- Public contracts rest on this module.
-- The text of a report.
use Rattle.std.specs.Prelude.{◌≡◌, ℕ, Bool, List}
use Rattle.std.specs.List.{flat_map}
use Rattle.machine_bytecode.specs.Objects.{Subject}
use Rattle.op_model.specs.Supplies.{GivenAs}
use Rattle.points_to_rules.specs.Facts.{Fact}
use Rattle.report_spec.specs.Traces.{IsTracedReport}
use Rattle.report_spec.specs.Verdicts.{Asked}

-- The lines, one after another.
abbrev pub text_of : List (List ℕ) → List ℕ
text_of lines = flat_map (λ line. line) lines

-- The text is that of the lines of the report on what is asked, with derivations if these are asked for, and it is said whether all sites are safe.
pub record IsReportText (x : Subject) (gives : GivenAs) (S : Fact → Type 0) (w : Asked) (trace : Bool) (text : List ℕ) (all_safe : Bool) : Type 0 where
  pub lines : List (List ℕ)
  pub text_is : text ≡ text_of lines
  pub report : IsTracedReport x gives S w trace lines all_safe
