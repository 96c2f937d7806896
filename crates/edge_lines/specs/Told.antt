-- Public contracts rest on this module.
-- The path edge that is told.
use Rattle.stage_facts.specs.Plain.{fact_of}
use Rattle.stage_edges.specs.Rules.{Edge, edge}
use Rattle.edge_lines.specs.declared.edge_line.EdgeText.{EdgeText}

abbrev pub told_edge : EdgeText → Edge
told_edge e = edge e.method (fact_of e.entry.now) e.spot (fact_of e.fact.now)
