-- This crate's own proofs alone rest on this module.
-- The sites that lines name.
use Rattle.std.specs.Prelude.{List, Contains}
use Rattle.jvm_model.specs.declared.site.Site.{Site}
use Rattle.certificate_lines.specs.declared.line.Line.{Line}
use Rattle.certificate_ground.specs.Listed.{named_sites}

-- The list has the sites.
pub record HasAll (wanted sites : List Site) : Type 0 where
  pub each : (s : Site) → Contains wanted s → Contains sites s

-- The new list has what the old one had, and the sites.
pub record HasMore (wanted old new : List Site) : Type 0 where
  pub kept : (s : Site) → Contains old s → Contains new s
  pub has : HasAll wanted new

-- The list has the sites that each line names.
pub record AreNumbered (all : List Line) (sites : List Site) : Type 0 where
  pub each : (x : Line) → Contains all x → HasAll (named_sites x) sites
