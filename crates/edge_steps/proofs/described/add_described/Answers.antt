use Rattle.std.proofs.lemmas.Result.{on_ok_weaker}
use Rattle.stage_transfer.specs.Stages.{transfer_of}
use Rattle.edge_steps.specs.Parts.{DescribedFrom}
use Rattle.edge_steps.proofs.Adding.{one_of, two_of}
use Rattle.edge_steps.proofs.described.add_described.Goals as goal

pub returns-in-One : goal.returns-in-One
returns-in-One g c =
    on_ok_weaker c.add_targets.result
    (λ added. λ w l like known. one_of (DescribedFrom (transfer_of w) l c.args.view.now.method c.args.view.now.node.now c.args.call.now c.args.view.now.ways.now.described.items) c.args.sent.now c.in-One.fact c.in-One.is c.args.within.now.items c.add_targets.new.within.items
    (added w l like known))
    c.add_targets.ensures

pub returns-in_ok-add_targets-in-Two : goal.returns-in_ok-add_targets-in-Two
returns-in_ok-add_targets-in-Two g c =
    on_ok_weaker c.add_targets-in-Two-2.result
    (λ added. λ w l like known. two_of (DescribedFrom (transfer_of w) l c.args.view.now.method c.args.view.now.node.now c.args.call.now c.args.view.now.ways.now.described.items) c.args.sent.now c.in-Two.first c.in-Two.second c.in-Two.is c.args.within.now.items c.add_targets-in-Two.new.within.items
    c.add_targets-in-Two-2.new.within.items (c.in_ok-add_targets-in-Two.ensures w l like known) (added w l like known))
    c.add_targets-in-Two-2.ensures
