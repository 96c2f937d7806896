use Rattle.std.proofs.Common.{◌≤◌, All, take}
use Rattle.flow_graph.specs.declared.handlers.Span.{Span}
use Rattle.flow_graph.proofs.handlers.latest_of.Given as goal

abbrev pub invariant-loop-span : goal.invariant-loop-span
invariant-loop-span l = All (λ (s : Span). s.finish ≤ l.latest) (take l.span-index l.spans)
