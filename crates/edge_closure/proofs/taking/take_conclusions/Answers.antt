use Rattle.std.proofs.Common.{◌≡◌, List, take, subst}
use Rattle.std.specs.List.{Contains}
use Rattle.std.proofs.lemmas.List.Elements.{All-more, All-weaker}
use Rattle.list_laws.proofs.Members.{all_from_front}
use Rattle.stage_edges.specs.Rules.{Edge}
use Rattle.edge_steps.specs.declared.conclusions.Conclusion.{Conclusion}
use Rattle.edge_steps.specs.Steps.{within}
use Rattle.ground_views.specs.Questions.{edges_in}
use Rattle.edge_closure.proofs.Lists.{adds_more, adds_weaker, grows_more, read_there, still_at, still_below, still_there}
use Rattle.edge_closure.proofs.taking.take_conclusions.Goals as goal

abbrev OneOf : List Conclusion → Edge → Edge → Type 0
OneOf conclusions p e = (c : Conclusion) × Contains conclusions c × (e ≡ within p.method p.entry c)

pub returns-in_err-take_conclusion-clause-adds : goal.returns-in_err-take_conclusion-clause-adds
returns-in_err-take_conclusion-clause-adds c = λ p at.
    let all = c.args.conclusions.now in
    let one = c.conclusion-item.result in
    let there = read_there all c.loop-conclusion.conclusion-index one c.loop-conclusion-test.true c.conclusion-item.is in
    let first = edges_in c.args.edges.now.items in
    let old = edges_in c.loop-conclusion.edges.items in
    let new = edges_in c.take_conclusion.new.edges.items in
    let now = still_at first old c.args.place p c.loop-conclusion.invariant.grows at in
    adds_more (OneOf all p) first old new (c.loop-conclusion.invariant.adds p at)
    (adds_weaker (λ (e : Edge). e ≡ within p.method p.entry one) (OneOf all p) (λ e is. (one, there, is)) old new (c.take_conclusion.ensures.adds p now))

pub returns-in_err-take_conclusion-clause-grows : goal.returns-in_err-take_conclusion-clause-grows
returns-in_err-take_conclusion-clause-grows c =
    grows_more (edges_in c.args.edges.now.items) (edges_in c.loop-conclusion.edges.items) (edges_in c.take_conclusion.new.edges.items) c.loop-conclusion.invariant.grows
    c.take_conclusion.ensures.grows

pub loop-conclusion-preserved : goal.loop-conclusion-preserved
loop-conclusion-preserved c =
    let all = c.args.conclusions.now in
    let one = c.conclusion-item.result in
    let first = edges_in c.args.edges.now.items in
    let old = edges_in c.loop-conclusion.edges.items in
    let new = edges_in c.take_conclusion.new.edges.items in
    record {
      there = still_below c.loop-conclusion.edges.items c.take_conclusion.new.edges.items c.args.place c.take_conclusion.ensures.grows c.loop-conclusion.invariant.there;
      grows = grows_more first old new c.loop-conclusion.invariant.grows c.take_conclusion.ensures.grows;
      roomy = c.in_ok-take_conclusion.ensures.roomy;
      adds = λ p at.
          let now = still_at first old c.args.place p c.loop-conclusion.invariant.grows at in
          let there = read_there all c.loop-conclusion.conclusion-index one c.loop-conclusion-test.true c.conclusion-item.is in
          adds_more (OneOf all p) first old new (c.loop-conclusion.invariant.adds p at)
          (adds_weaker (λ (e : Edge). e ≡ within p.method p.entry one) (OneOf all p) (λ e is. (one, there, is)) old new (c.take_conclusion.ensures.adds p now));
      held = λ p at.
          let now = still_at first old c.args.place p c.loop-conclusion.invariant.grows at in
          All-more (λ (d : Conclusion). Contains new (within p.method p.entry d)) all c.loop-conclusion.conclusion-index one c.loop-conclusion-test.true
          (All-weaker (λ (d : Conclusion). Contains old (within p.method p.entry d)) (λ (d : Conclusion). Contains new (within p.method p.entry d))
          (λ d before. still_there old new (within p.method p.entry d) c.take_conclusion.ensures.grows before) (take c.loop-conclusion.conclusion-index all)
          (c.loop-conclusion.invariant.held p at))
          (subst (λ (d : Conclusion). Contains new (within p.method p.entry d)) c.conclusion-item.is (c.in_ok-take_conclusion.ensures.held p now));
    }

pub returns-clause-held : goal.returns-clause-held
returns-clause-held c = λ p at.
    all_from_front (λ (d : Conclusion). Contains (edges_in c.loop-conclusion.edges.items) (within p.method p.entry d)) c.args.conclusions.now c.loop-conclusion.conclusion-index
    c.loop-conclusion-test.false (c.loop-conclusion.invariant.held p at)
