use Rattle.std.proofs.Common.{take}
use Rattle.ground.specs.Added.{AreAdded, OfOne}
use Rattle.report_sites.specs.Found.{IsSiteOf}
use Rattle.report_sites.proofs.nodes.add_nodes.Given as goal

abbrev pub invariant-loop-node : goal.invariant-loop-node
invariant-loop-node l = record {
  added : AreAdded (OfOne (IsSiteOf l.wanted.program.now l.ground l.wanted.upper l.method) (take l.node-index l.nodes))
      l.initial.sites.items l.sites.items;
}
