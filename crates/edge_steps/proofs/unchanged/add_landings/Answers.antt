use Rattle.std.proofs.Common.{ℕ, List, [], ◌∷◌, Option, None, get_or, sym, subst}
use Rattle.std.proofs.lemmas.List.{take_all}
use Rattle.ground.specs.Added.{AreAdded, OfOne}
use Rattle.std.proofs.lemmas.Option.{slice_get-get_or}
use Rattle.ground.proofs.Adding.{added_more}
use Rattle.stage_facts.specs.Plain.{fact_of}
use Rattle.stage_transfer.specs.Stages.{transfer_of}
use Rattle.edge_steps.specs.Parts.{IsAt, Raised, landing}
use Rattle.edge_steps.proofs.Adding.{of_one, placed}
use Rattle.edge_steps.proofs.Staying.{raise_stays}
use Rattle.edge_steps.proofs.unchanged.add_landings.Goals as goal

pub loop-handler-preserved : goal.loop-handler-preserved
loop-handler-preserved g c = record {
  added = λ w l.
      let n = c.args.view.now.node.now in
      let f = fact_of c.args.fact.now in
      let handlers = c.args.landings.now in
      let k = c.loop-handler.handler-index in
      let handler = get_or handlers k None in
      let spot = c.landing.result in
      let b = c.loop-handler.within.items in
      let new = c.add_fact.new.within.items in
      added_more (Raised (transfer_of w) l n f) handlers k handler (slice_get-get_or handlers k None c.loop-handler-test.true) c.args.within.now.items b new
      (c.loop-handler.invariant.added w l)
      (placed spot (landing handler) (f ∷ []) ((transfer_of w).raise l n handler f) b new c.landing.ensures (sym (raise_stays w l n handler f c.requires))
      (of_one (IsAt spot) f b new c.in_ok-add_fact.ensures));
}

pub returns : goal.returns
returns g c = λ w l.
    let landings = c.args.landings.now in
    let k = c.loop-handler.handler-index in
    subst (λ (handlers : List (Option ℕ)). AreAdded (OfOne (Raised (transfer_of w) l c.args.view.now.node.now (fact_of c.args.fact.now)) handlers) c.args.within.now.items c.loop-handler.within.items)
    (take_all k landings c.loop-handler-test.false) (c.loop-handler.invariant.added w l)
