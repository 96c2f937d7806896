use Rattle.std.proofs.Common.{◌≡◌, ◌++◌, drop}
use Rattle.flow_graph.specs.HandlerSpans.{spans_from}
use Rattle.flow_graph.proofs.handlers.spans_of.Given as goal

abbrev pub invariant-loop-place : goal.invariant-loop-place
invariant-loop-place l = l.spans.items ++ spans_from l.place (drop l.place l.handlers) ≡ spans_from 0 l.handlers
