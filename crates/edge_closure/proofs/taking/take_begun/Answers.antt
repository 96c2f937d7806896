use Rattle.std.proofs.Common.{◌≡◌, ◌∙◌, List, take, subst}
use Rattle.std.specs.List.{Contains}
use Rattle.std.proofs.lemmas.List.Elements.{All-more, All-weaker}
use Rattle.list_laws.proofs.Members.{all_from_front}
use Rattle.stage_edges.specs.Rules.{Edge}
use Rattle.edge_steps.specs.declared.conclusions.EnteredWith.{EnteredWith}
use Rattle.edge_steps.specs.Steps.{begun}
use Rattle.ground_views.specs.Questions.{edge_of, edges_in}
use Rattle.edge_closure.proofs.Lists.{adds_more, adds_weaker, grows_more, read_there, still_there}
use Rattle.edge_closure.proofs.taking.take_begun.Goals as goal

abbrev OneOf : List EnteredWith → Edge → Type 0
OneOf entered e = (b : EnteredWith) × Contains entered b × (e ≡ begun b)

pub returns-in_err-take-clause-adds : goal.returns-in_err-take-clause-adds
returns-in_err-take-clause-adds c =
    let entered = c.args.entered.now in
    let one = c.one-item.result in
    let there = read_there entered c.loop-one.one-index one c.loop-one-test.true c.one-item.is in
    let old = edges_in c.loop-one.edges.items in
    let new = edges_in c.take.new.edges.items in
    adds_more (OneOf entered) (edges_in c.args.edges.now.items) old new c.loop-one.invariant.adds
    (adds_weaker (λ (e : Edge). e ≡ edge_of c.begun_edge.result) (OneOf entered) (λ e is. (one, there, is ∙ c.begun_edge.ensures)) old new c.take.ensures.adds)

pub returns-in_err-take-clause-grows : goal.returns-in_err-take-clause-grows
returns-in_err-take-clause-grows c =
    grows_more (edges_in c.args.edges.now.items) (edges_in c.loop-one.edges.items) (edges_in c.take.new.edges.items) c.loop-one.invariant.grows c.take.ensures.grows

pub loop-one-preserved : goal.loop-one-preserved
loop-one-preserved c =
    let entered = c.args.entered.now in
    let one = c.one-item.result in
    let there = read_there entered c.loop-one.one-index one c.loop-one-test.true c.one-item.is in
    let old = edges_in c.loop-one.edges.items in
    let new = edges_in c.take.new.edges.items in
    record {
      grows = grows_more (edges_in c.args.edges.now.items) old new c.loop-one.invariant.grows c.take.ensures.grows;
      roomy = c.in_ok-take.ensures.roomy;
      adds =
          adds_more (OneOf entered) (edges_in c.args.edges.now.items) old new c.loop-one.invariant.adds
          (adds_weaker (λ (e : Edge). e ≡ edge_of c.begun_edge.result) (OneOf entered) (λ e is. (one, there, is ∙ c.begun_edge.ensures)) old new c.take.ensures.adds);
      held =
          All-more (λ (b : EnteredWith). Contains new (begun b)) entered c.loop-one.one-index one c.loop-one-test.true
          (All-weaker (λ (b : EnteredWith). Contains old (begun b)) (λ (b : EnteredWith). Contains new (begun b)) (λ b before. still_there old new (begun b) c.take.ensures.grows before)
          (take c.loop-one.one-index entered) c.loop-one.invariant.held)
          (subst (λ (b : EnteredWith). Contains new (begun b)) c.one-item.is (subst (Contains new) c.begun_edge.ensures c.in_ok-take.ensures.held));
    }

pub returns-clause-held : goal.returns-clause-held
returns-clause-held c =
    all_from_front (λ (b : EnteredWith). Contains (edges_in c.loop-one.edges.items) (begun b)) c.args.entered.now c.loop-one.one-index c.loop-one-test.false c.loop-one.invariant.held
