use Rattle.std.proofs.Common.{take}
use Rattle.certificate_ground.specs.Sites.{AreNumbered}
use Rattle.certificate_ground.proofs.line_sites.sites_of.Given as goal

abbrev pub invariant-loop-line : goal.invariant-loop-line
invariant-loop-line l = record { named : AreNumbered (take l.line-index l.lines) l.sites }
