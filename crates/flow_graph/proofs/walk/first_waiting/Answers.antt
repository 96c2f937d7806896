use Rattle.std.proofs.Common.{sym, ◌∙◌}
use Rattle.flow_graph.proofs.Awaiting.{first_is, none_waits, not_below, not_any}
use Rattle.flow_graph.proofs.walk.first_waiting.Goals as goal

pub returns-then-waits_at-clause-first : goal.returns-then-waits_at-clause-first
returns-then-waits_at-clause-first c =
    let marks = c.args.marks.now in
    sym (first_is marks c.in-Some.number (sym c.waits_at.ensures ∙ c.if-waits_at.true) (not_below c.loop-number.awaited marks c.in-Some.number c.loop-number.invariant c.in-Some.ensures.least))

pub returns-clause-first : goal.returns-clause-first
returns-clause-first c =
    let marks = c.args.marks.now in
    sym (none_waits marks (not_any c.loop-number.awaited marks c.loop-number.invariant c.in_default.ensures.none))
