use Rattle.std.proofs.Common.{take}
use Rattle.ground.specs.Added.{AreAdded, OfOne}
use Rattle.node_ways.specs.Parts.{ThrowableLands}
use Rattle.node_ways.proofs.landings.add_all_throwable.Given as goal

abbrev pub invariant-loop-site : goal.invariant-loop-site
invariant-loop-site l = record { added : AreAdded (OfOne (ThrowableLands l.ground l.node) (take l.site-index l.sites)) l.initial.landings.items l.landings.items }
