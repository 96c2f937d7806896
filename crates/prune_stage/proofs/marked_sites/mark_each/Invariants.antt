use Rattle.std.proofs.Common.{take}
use Rattle.prune_stage.specs.Places.{StandsInTable}
use Rattle.prune_stage.specs.Marks.{AreMarked, OfOne, SiteMarks}
use Rattle.prune_stage.proofs.marked_sites.mark_each.Given as goal

abbrev pub invariant-loop-site : goal.invariant-loop-site
invariant-loop-site l = record { marked : AreMarked (OfOne (SiteMarks (StandsInTable l.places) l.event) (take l.site-index l.found)) l.initial.sets l.sets }
