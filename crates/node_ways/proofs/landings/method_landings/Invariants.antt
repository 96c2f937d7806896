use Rattle.std.proofs.Common.{[], take}
use Rattle.ground.specs.Added.{AreAdded, OfOne}
use Rattle.node_ways.specs.Parts.{SiteLands}
use Rattle.node_ways.proofs.landings.method_landings.Given as goal

abbrev pub invariant-loop-site : goal.invariant-loop-site
invariant-loop-site l = record { added : AreAdded (OfOne (SiteLands l.ground l.node) (take l.site-index l.site-items)) [] l.landings.items }
