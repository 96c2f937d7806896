use Rattle.edge_checker.proofs.Leading.{nothing_from_exit, nothing_from_nowhere, seen_at}
use Rattle.edge_checker.proofs.nodes.failure_at.Goals as goal

pub returns-in_default : goal.returns-in_default
returns-in_default c = nothing_from_exit c.args.checking.now.question.now c.args.checking.now.listed.now c.args.a.now c.in_default.ensures

pub returns-in_default-node : goal.returns-in_default-node
returns-in_default-node c =
    nothing_from_nowhere c.args.checking.now.question.now c.args.checking.now.listed.now c.args.a.now c.in-Some.node c.in-Some.ensures c.in_default-node.ensures.none

pub failure_from-requires-clause-seen : goal.failure_from-requires-clause-seen
failure_from-requires-clause-seen c =
    seen_at c.args.checking.now.question.now c.args.checking.now.listed.now c.args.a.now c.in-Some.node c.in-Some-node.seen c.in-Some.ensures c.in-Some-node.ensures.found
