use Rattle.std.proofs.Common.{[], refl, length}
use Rattle.std.proofs.lemmas.Option.{slice_get_read}
use Rattle.points_to_rules.specs.declared.running_method.RunningMethod.{RunningMethod}
use Rattle.call_graph.specs.Edges.{IsStoreOf, OfRunning}
use Rattle.ground.proofs.Adding.{added_all, added_more}
use Rattle.call_graph.proofs.NodeEdges.{all_stores}
use Rattle.call_graph.proofs.stores.stores_of.Goals as goal

pub loop-method-preserved : goal.loop-method-preserved
loop-method-preserved c =
    let methods = c.args.methods.now in
    let running = c.args.running.now.keys in
    let k = c.loop-method.method-index in
    let at = slice_get_read methods (length methods) k c.method-item.result refl c.loop-method-test.true c.method-item.is in
    record {
      added = added_more (λ (r : RunningMethod). OfRunning running IsStoreOf r.method) methods k c.method-item.result at [] c.loop-method.writes.keys c.add_running.new.writes.keys
          c.loop-method.invariant.added c.in_ok-add_running.ensures;
    }

pub returns : goal.returns
returns c =
    let methods = c.args.methods.now in
    let running = c.args.running.now.keys in
    let writes = c.loop-method.writes.keys in
    all_stores methods running writes
    (added_all (λ (r : RunningMethod). OfRunning running IsStoreOf r.method) methods c.loop-method.method-index c.loop-method-test.false [] writes c.loop-method.invariant.added)
