use Rattle.std.proofs.lemmas.Result.{on_ok_weaker}
use Rattle.stage_transfer.specs.Stages.{transfer_of}
use Rattle.edge_steps.specs.Parts.{BegunFrom}
use Rattle.edge_steps.proofs.Adding.{one_of, two_of}
use Rattle.edge_steps.proofs.node_edges.add_called.Goals as goal

pub returns-in-One : goal.returns-in-One
returns-in-One g c =
    on_ok_weaker c.add_sent.result
    (λ added. λ w like. one_of (BegunFrom (transfer_of w) c.args.call.now c.args.view.now.ways.now.called.items) c.args.sent.now c.in-One.fact c.in-One.is c.args.methods.now.items c.add_sent.new.methods.items
    (added w like))
    c.add_sent.ensures

pub returns-in_ok-add_sent-in-Two : goal.returns-in_ok-add_sent-in-Two
returns-in_ok-add_sent-in-Two g c =
    on_ok_weaker c.add_sent-in-Two-2.result
    (λ added. λ w like. two_of (BegunFrom (transfer_of w) c.args.call.now c.args.view.now.ways.now.called.items) c.args.sent.now c.in-Two.first c.in-Two.second c.in-Two.is c.args.methods.now.items c.add_sent-in-Two.new.methods.items
    c.add_sent-in-Two-2.new.methods.items (c.in_ok-add_sent-in-Two.ensures w like) (added w like))
    c.add_sent-in-Two-2.ensures
