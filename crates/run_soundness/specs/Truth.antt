-- Public contracts rest on this module.
-- What is true of a line that says that a site is safe.
use Rattle.std.specs.Prelude.{codes, ◌≡◌, ℕ, List, ◌++◌}
use Rattle.machine_bytecode.specs.Executions.{Errs}
use Rattle.machine_bytecode.specs.Objects.{Subject}
use Rattle.site_report.specs.declared.tracked_site.TrackedSite.{TrackedSite}
use Rattle.site_report.specs.declared.verdict.Verdict.TheVariants.{Safe}
use Rattle.site_report.specs.Lines.{verdict_line}
use Rattle.site_report.specs.Sites.{site_in}

-- The line begins with the word that says that a site is safe.
abbrev pub SaysSafe : List ℕ → Type 0
SaysSafe line = (rest : List ℕ) × (line ≡ codes "safe " ++ rest)

-- The line is that of a site which is safe by some stage, and no execution of the bytecode, of any length, has a state in which an object of the site is
-- in the error state.
pub record IsTrueLine (x : Subject) (line : List ℕ) : Type 0 where
  pub site : TrackedSite
  pub stage : ℕ
  pub is : line ≡ verdict_line x.program site (Safe stage)
  pub never : Errs x (site_in x.program site) → ⊥
