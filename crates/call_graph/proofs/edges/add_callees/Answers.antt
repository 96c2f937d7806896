use Rattle.std.proofs.Common.{get_or}
use Rattle.std.proofs.lemmas.Option.{slice_get-get_or}
use Rattle.jvm_model.specs.declared.number.MethodNo.{MethodNo}
use Rattle.call_graph.specs.declared.edges.Edge.{Edge}
use Rattle.ground.proofs.Adding.{added_all, added_more}
use Rattle.call_graph.proofs.ExactEdges.{same_edges, tells_edges}
use Rattle.ground.proofs.KeySets.{inserted_adds}
use Rattle.call_graph.proofs.NodeEdges.{IsEdgeTo, callees_added}
use Rattle.call_graph.proofs.edges.add_callees.Goals as goal

pub loop-callee-preserved : goal.loop-callee-preserved
loop-callee-preserved c =
    let callees = c.args.callees.now in
    let k = c.loop-callee.callee-index in
    let past : MethodNo = record { 0 = 0 } in
    let callee = get_or callees k past in
    let e : Edge = record { callee = callee; caller = c.args.caller } in
    let b = c.loop-callee.edges.keys in
    let new = c.insert.new.self.keys in
    record {
      added = added_more (IsEdgeTo c.args.caller) callees k callee (slice_get-get_or callees k past c.loop-callee-test.true) c.args.edges.now.keys b new c.loop-callee.invariant.added
          (inserted_adds same_edges tells_edges b new e c.in_ok-insert.ensures.keys);
    }

pub returns : goal.returns
returns c =
    let a = c.args.edges.now.keys in
    let b = c.loop-callee.edges.keys in
    callees_added c.args.caller c.args.callees.now a b
    (added_all (IsEdgeTo c.args.caller) c.args.callees.now c.loop-callee.callee-index c.loop-callee-test.false a b c.loop-callee.invariant.added)
