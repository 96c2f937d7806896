use Rattle.std.proofs.Common.{sym, subst}
use Rattle.std.proofs.lemmas.Result.{on_ok_weaker}
use Rattle.op_model.specs.declared.node.Spot.{Spot}
use Rattle.op_model.specs.declared.node.Spot.TheVariants as spots
use Rattle.ground.specs.Added.{AreAdded}
use Rattle.ground.proofs.Adding.{added_none}
use Rattle.stage_facts.specs.Plain.{fact_of}
use Rattle.stage_transfer.specs.Stages.{transfer_of}
use Rattle.stage_views.specs.Views.{entering_of}
use Rattle.edge_steps.specs.Parts.{After}
use Rattle.edge_steps.proofs.method_exits.add_after.Goals as goal

pub returns-in-Node : goal.returns-in-Node
returns-in-Node g c = λ w l like known.
    let a = c.args.within.now.items in
    let At = After (transfer_of w) l c.args.view.now.node.now (entering_of c.args.by) c.args.landings.now (fact_of c.args.after.now) in
    subst (λ (spot : Spot). AreAdded (At spot) a a) (sym c.in-Node.is) (added_none (At (spots.Node c.in-Node.field-0)) a (λ x none. none))

pub returns-in-Returned : goal.returns-in-Returned
returns-in-Returned g c =
    on_ok_weaker c.add_after_return.result
    (λ added. λ w l like known.
    subst (λ (spot : Spot). AreAdded (After (transfer_of w) l c.args.view.now.node.now (entering_of c.args.by) c.args.landings.now (fact_of c.args.after.now) spot) c.args.within.now.items
    c.add_after_return.new.within.items) (sym c.in-Returned.is) (added w l like known))
    c.add_after_return.ensures

pub returns-in-Thrown : goal.returns-in-Thrown
returns-in-Thrown g c =
    on_ok_weaker c.add_after_throw.result
    (λ added. λ w l like known.
    subst (λ (spot : Spot). AreAdded (After (transfer_of w) l c.args.view.now.node.now (entering_of c.args.by) c.args.landings.now (fact_of c.args.after.now) spot) c.args.within.now.items
    c.add_after_throw.new.within.items) (sym c.in-Thrown.is) (added w l like known))
    c.add_after_throw.ensures
