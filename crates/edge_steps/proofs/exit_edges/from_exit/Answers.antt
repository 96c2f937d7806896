use Rattle.std.proofs.Common.{[], List, Contains, subst}
use Rattle.std.proofs.lemmas.Result.{on_ok_weaker}
use Rattle.ground.specs.Added.{AreAdded}
use Rattle.ground.specs.Findings.{gives_listed}
use Rattle.ground.proofs.Adding.{added_alone, added_both}
use Rattle.stage_facts.specs.Plain.{fact_of}
use Rattle.stage_transfer.specs.Stages.{transfer_of}
use Rattle.stage_transfer.specs.Calls.{by_trigger}
use Rattle.node_ways.specs.declared.ways.EnteredMethod.{EnteredMethod}
use Rattle.edge_steps.specs.declared.conclusions.Conclusion.{Conclusion}
use Rattle.edge_steps.specs.Parts.{LeavesCall, LeavesTrigger, LeftOne}
use Rattle.edge_steps.proofs.AllOfTwo.{two_follow}
use Rattle.edge_steps.proofs.TwoPremises.{Leaves}
use Rattle.edge_steps.proofs.exit_edges.from_exit.Goals as goal

pub returns : goal.returns
returns g c =
    let view = c.args.view.now in
    let n = view.node.now in
    let ways = view.ways.now in
    let f = fact_of c.args.fact.now in
    let target = c.args.exit.method in
    let entry = fact_of c.args.exit.entry.now in
    let spot = c.args.exit.spot in
    let out = fact_of c.args.exit.fact.now in
    let mid = c.add_from_call.new.within.items in
    let new = c.add_from_methods.new.within.items in
    on_ok_weaker c.add_from_methods.result
    (λ ended. λ x methods facts w like looked.
    two_follow x (gives_listed methods) (Contains facts) w view.setting.now (g.V.NodeSlots.knows view.slots.now) n ways like new view.method f target entry spot out looked
    (record {
      conclusions_are = λ v k alike known.
          let called = LeavesCall (transfer_of v) k n ways f target entry spot out in
          let started = LeavesTrigger (transfer_of v) k n ways f target entry spot out in
          let first = subst (λ (old : List Conclusion). AreAdded called old mid) c.clear.ensures.items (c.in_ok-add_from_call.ensures v k alike known) in
          let second = subst (λ (methods : List EnteredMethod). AreAdded (LeftOne (transfer_of v) k n by_trigger target entry spot out methods f) mid new) c.as_slice-started.ensures.value
          (ended v k alike known) in
          added_alone (Leaves (transfer_of v) k n ways f target entry spot out) new (added_both called started [] mid new first second);
    }))
    c.add_from_methods.ensures
