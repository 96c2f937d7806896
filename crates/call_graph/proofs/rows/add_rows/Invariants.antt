use Rattle.call_graph.specs.Rows.{AddsRowsBelow}
use Rattle.call_graph.proofs.rows.add_rows.Given as goal

abbrev pub invariant-loop-place : goal.invariant-loop-place
invariant-loop-place l = record { added : AddsRowsBelow l.rows.items l.place l.initial.sites.groups.items l.sites.groups.items }
