use Rattle.ground.specs.declared.lists.FieldWrite.{FieldWrite}
use Rattle.ground.proofs.ExactKeys.{same_writes, tells_writes}
use Rattle.ground.proofs.KeySets.{inserted_adds}
use Rattle.call_graph.proofs.NodeEdges.{store_added}
use Rattle.call_graph.proofs.stores.add_node.Goals as goal

pub returns : goal.returns
returns c =
    let a = c.args.writes.now.keys in
    let b = c.insert.new.self.keys in
    let w : FieldWrite = record { method = c.args.method; field = c.in-Store.field } in
    store_added c.args.method c.args.node.now c.in-Store.object c.in-Store.value c.in-Store.field c.in-Store.is a b (inserted_adds same_writes tells_writes a b w c.in_ok-insert.ensures.keys)
