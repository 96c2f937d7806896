use Rattle.flow_graph.proofs.uncaught.+add_levels.Given as goal

abbrev pub decreases-add_levels : goal.decreases-add_levels
decreases-add_levels l = l.width
