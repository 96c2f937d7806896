use Rattle.std.proofs.Common.{None, subst}
use Rattle.std.specs.List.{Contains}
use Rattle.std.proofs.lemmas.Result.{IfOk-weaker}
use Rattle.op_model.specs.declared.node.Node.{Node}
use Rattle.node_ways.specs.Ways.{AreWaysOf}
use Rattle.node_ways.proofs.Alike.{calls_alike, call_throws_nothing, return_throws_nothing, same_return}
use Rattle.node_ways.proofs.Throwing.{none_thrown}
use Rattle.node_ways.proofs.node.ways_of_start.Goals as goal

pub returns-clause-call : goal.returns-clause-call
returns-clause-call c =
    let g = c.args.ground.now in
    let node = c.args.node.now in
    IfOk-weaker c.ways_of.result _ _
    (λ ways are x l n same first second.
    calls_alike x (Contains g.facts) l node n first second ways (are x l same (none_thrown g l node (λ slot op. call_throws_nothing x node first slot op))))
    c.ways_of.ensures

pub returns-clause-returning : goal.returns-clause-returning
returns-clause-returning c =
    let g = c.args.ground.now in
    let node = c.args.node.now in
    IfOk-weaker c.ways_of.result _ _
    (λ ways are x l n same first second.
    subst (λ (k : Node). AreWaysOf x (Contains g.facts) None l k ways) (same_return node n first second) (are x l same (none_thrown g l node (λ slot op. return_throws_nothing node first slot op))))
    c.ways_of.ensures
