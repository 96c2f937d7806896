use Rattle.std.proofs.Common.{ℕ, [], List, Option, Contains, subst}
use Rattle.std.proofs.lemmas.Result.{on_ok_weaker}
use Rattle.ground.specs.Added.{AreAdded, OfOne}
use Rattle.ground.specs.Findings.{gives_listed}
use Rattle.ground.proofs.Adding.{added_alone, added_both}
use Rattle.stage_facts.specs.Plain.{fact_of}
use Rattle.stage_transfer.specs.Stages.{transfer_of}
use Rattle.edge_steps.specs.declared.conclusions.Conclusion.{Conclusion}
use Rattle.edge_steps.specs.declared.conclusions.EnteredWith.{EnteredWith}
use Rattle.edge_steps.specs.Parts.{Calls, Done, Raised, Starts}
use Rattle.edge_steps.proofs.AllOfOne.{one_follows}
use Rattle.edge_steps.proofs.OnePremise.{Begins, Goes}
use Rattle.edge_steps.proofs.node_edges.from_node.Goals as goal

pub returns : goal.returns
returns g c =
    let view = c.args.view.now in
    let m = view.method in
    let n = view.node.now in
    let ways = view.ways.now in
    let f = fact_of c.args.fact.now in
    let mid = c.add_done.new.within.items in
    let new = c.add_raised.new.within.items in
    let called = c.add_done.new.methods.items in
    let begun = c.add_started.new.methods.items in
    on_ok_weaker c.add_started.result
    (λ started. λ x methods facts w like looked.
    one_follows x (gives_listed methods) (Contains facts) w view.setting.now (g.V.NodeSlots.knows view.slots.now) n ways like new begun m f looked
    (record {
      conclusions_are = λ v k alike known.
          let done = Done (transfer_of v) k m n ways f in
          let raised = Raised (transfer_of v) k n f in
          let first = subst (λ (old : List Conclusion). AreAdded done old mid) c.clear.ensures.items (c.in_ok-add_done.ensures.within v k alike known) in
          let second = subst (λ (landings : List (Option ℕ)). AreAdded (OfOne raised landings) mid new) c.as_slice-raised.ensures.value (c.in_ok-add_raised.ensures v k alike known) in
          added_alone (Goes (transfer_of v) k m n ways f) new (added_both done (OfOne raised ways.raised.items) [] mid new first second);
      methods_are = λ v k alike known.
          let calls = Calls (transfer_of v) k n ways f in
          let first = subst (λ (old : List EnteredWith). AreAdded calls old called) c.clear-2.ensures.items (c.in_ok-add_done.ensures.methods v k alike known) in
          added_alone (Begins (transfer_of v) k n ways f) begun
          (added_both calls (Starts (transfer_of v) ways f) [] called begun first (started v alike));
    }))
    c.add_started.ensures
