use Rattle.std.proofs.Common.{[], refl, length}
use Rattle.std.proofs.lemmas.Option.{slice_get_read}
use Rattle.least_sets.proofs.Places.{contains_at}
use Rattle.points_to_rules.specs.declared.running_method.RunningMethod.{RunningMethod}
use Rattle.call_graph.specs.Edges.{IsEdgeOf, OfRunning}
use Rattle.ground.proofs.Adding.{added_all, added_more}
use Rattle.call_graph.proofs.NodeEdges.{all_edges}
use Rattle.call_graph.proofs.edges.edges_of.Goals as goal

pub add_running-requires : goal.add_running-requires
add_running-requires c =
    let methods = c.args.methods.now in
    let r = c.method-item.result in
    let at = slice_get_read methods (length methods) c.loop-method.method-index r refl c.loop-method-test.true c.method-item.is in
    (c.requires r (contains_at methods c.loop-method.method-index r at)).numbers

pub loop-method-preserved : goal.loop-method-preserved
loop-method-preserved c =
    let s = c.args.sets.now in
    let methods = c.args.methods.now in
    let k = c.loop-method.method-index in
    let r = c.method-item.result in
    let at = slice_get_read methods (length methods) k r refl c.loop-method-test.true c.method-item.is in
    record {
      added = added_more (λ (r : RunningMethod). OfRunning s.running.keys (IsEdgeOf c.args.program.now s) r.method) methods k r at [] c.loop-method.edges.keys c.add_running.new.edges.keys
          c.loop-method.invariant.added c.in_ok-add_running.ensures;
    }

pub returns : goal.returns
returns c =
    let p = c.args.program.now in
    let s = c.args.sets.now in
    let methods = c.args.methods.now in
    let edges = c.loop-method.edges.keys in
    all_edges p methods s edges
    (added_all (λ (r : RunningMethod). OfRunning s.running.keys (IsEdgeOf p s) r.method) methods c.loop-method.method-index c.loop-method-test.false [] edges c.loop-method.invariant.added)
