use Rattle.std.proofs.Common.{◌≡◌, ◌∙◌, List, [], refl, sym, subst, arith}
use Rattle.std.specs.List.{All, Contains}
use Rattle.std.proofs.lemmas.Option.{same_Some}
use Rattle.std.proofs.lemmas.Result.{on_ok_weaker}
use Rattle.std.proofs.lemmas.List.Elements.{All-weaker}
use Rattle.list_laws.proofs.Places.{contains_at}
use Rattle.stage_facts.specs.Plain.{fact_of}
use Rattle.stage_edges.specs.Rules.{Edge}
use Rattle.edge_steps.specs.declared.conclusions.Conclusion.{Conclusion}
use Rattle.edge_steps.specs.declared.conclusions.EnteredWith.{EnteredWith}
use Rattle.edge_steps.specs.Steps.{begun, within}
use Rattle.ground_views.specs.Questions.{GroundInstance, edge_of, edges_in}
use Rattle.edge_closure.specs.Tried.{Adds, IsTried}
use Rattle.edge_closure.proofs.Following.{sound_first, sound_second, tried_all}
use Rattle.edge_closure.proofs.Lists.{count_edges, grows_more, read_at, sound_more, still_at, still_below, still_seen, still_there}
use Rattle.edge_closure.proofs.trying.try_node.Goals as goal

pub after_node-requires : goal.after_node-requires
after_node-requires c = (c.requires.seen.node, c.requires.seen.seen)

pub returns-in_err-take_conclusions-clause-grows : goal.returns-in_err-take_conclusions-clause-grows
returns-in_err-take_conclusions-clause-grows c = c.take_conclusions.ensures.grows

pub returns-in_err-take_conclusions-clause-sound : goal.returns-in_err-take_conclusions-clause-sound
returns-in_err-take_conclusions-clause-sound c =
    let q = c.args.closing.now.question.now in
    let old = edges_in c.args.edges.now.items in
    let mid = edges_in c.take_conclusions.new.edges.items in
    let premise = c.index.result.now in
    let p : Edge = edge_of premise in
    let at = read_at c.args.edges.now.items c.args.place premise c.requires.there c.index.ensures in
    record {
      each = λ x w asked.
          sound_first q x w asked c.args.seen.now p (c.requires.seen.method p at) (c.requires.seen.spot p at) (fact_of premise.fact) refl [] c.after_node.new.following.within.items
          c.after_node.new.following.entered.items c.in_ok-after_node.ensures old mid (contains_at old c.args.place p at) tt
          (subst (λ (all : List Conclusion). Adds (λ (e : Edge). (d : Conclusion) × Contains all d × (e ≡ within p.method p.entry d)) old mid) c.as_slice.ensures.value
          (c.take_conclusions.ensures.adds p at));
    }

pub returns-in_err-take_begun-clause-grows : goal.returns-in_err-take_begun-clause-grows
returns-in_err-take_begun-clause-grows c =
    grows_more (edges_in c.args.edges.now.items) (edges_in c.take_conclusions.new.edges.items) (edges_in c.take_begun.new.edges.items) c.take_conclusions.ensures.grows
    c.take_begun.ensures.grows

pub returns-in_err-take_begun-clause-sound : goal.returns-in_err-take_begun-clause-sound
returns-in_err-take_begun-clause-sound c =
    let q = c.args.closing.now.question.now in
    let old = edges_in c.args.edges.now.items in
    let mid = edges_in c.take_conclusions.new.edges.items in
    let far = edges_in c.take_begun.new.edges.items in
    let premise = c.index.result.now in
    let p : Edge = edge_of premise in
    let at = read_at c.args.edges.now.items c.args.place premise c.requires.there c.index.ensures in
    record {
      each = λ x w asked.
          sound_more (GroundInstance q x w) old mid far
          (sound_first q x w asked c.args.seen.now p (c.requires.seen.method p at) (c.requires.seen.spot p at) (fact_of premise.fact) refl [] c.after_node.new.following.within.items
          c.after_node.new.following.entered.items c.in_ok-after_node.ensures old mid (contains_at old c.args.place p at) tt
          (subst (λ (all : List Conclusion). Adds (λ (e : Edge). (d : Conclusion) × Contains all d × (e ≡ within p.method p.entry d)) old mid) c.as_slice.ensures.value
          (c.take_conclusions.ensures.adds p at)))
          (sound_second q x w asked c.args.seen.now p (c.requires.seen.method p at) (c.requires.seen.spot p at) (fact_of premise.fact) refl [] c.after_node.new.following.within.items
          c.after_node.new.following.entered.items c.in_ok-after_node.ensures old mid far (contains_at old c.args.place p at) tt c.take_conclusions.ensures.grows
          (subst (λ (all : List EnteredWith). Adds (λ (e : Edge). (b : EnteredWith) × Contains all b × (e ≡ begun b)) mid far) c.as_slice-2.ensures.value c.take_begun.ensures.adds));
    }

pub try_exits-requires-clause-there : goal.try_exits-requires-clause-there
try_exits-requires-clause-there c =
    still_below c.args.edges.now.items c.take_begun.new.edges.items c.args.place
    (grows_more (edges_in c.args.edges.now.items) (edges_in c.take_conclusions.new.edges.items) (edges_in c.take_begun.new.edges.items) c.take_conclusions.ensures.grows
    c.take_begun.ensures.grows) c.requires.there

pub try_exits-requires-clause-seen : goal.try_exits-requires-clause-seen
try_exits-requires-clause-seen c =
    let size = count_edges c.args.edges.now.items in
    let there = c.requires.there in
    still_seen c.args.closing.now.question.now c.args.seen.now c.args.place (edges_in c.args.edges.now.items) (edges_in c.take_begun.new.edges.items)
    (grows_more (edges_in c.args.edges.now.items) (edges_in c.take_conclusions.new.edges.items) (edges_in c.take_begun.new.edges.items) c.take_conclusions.ensures.grows
    c.take_begun.ensures.grows) (omega (arith, size, there)) c.requires.seen

pub returns-clause-grows : goal.returns-clause-grows
returns-clause-grows c =
    grows_more (edges_in c.args.edges.now.items) (edges_in c.take_begun.new.edges.items) (edges_in c.try_exits.new.edges.items)
    (grows_more (edges_in c.args.edges.now.items) (edges_in c.take_conclusions.new.edges.items) (edges_in c.take_begun.new.edges.items) c.take_conclusions.ensures.grows
    c.take_begun.ensures.grows) c.try_exits.ensures.grows

pub returns-clause-sound : goal.returns-clause-sound
returns-clause-sound c =
    let q = c.args.closing.now.question.now in
    let old = edges_in c.args.edges.now.items in
    let mid = edges_in c.take_conclusions.new.edges.items in
    let far = edges_in c.take_begun.new.edges.items in
    let new = edges_in c.try_exits.new.edges.items in
    let premise = c.index.result.now in
    let p : Edge = edge_of premise in
    let at = read_at c.args.edges.now.items c.args.place premise c.requires.there c.index.ensures in
    record {
      each = λ x w asked.
          sound_more (GroundInstance q x w) old far new
          (sound_more (GroundInstance q x w) old mid far
          (sound_first q x w asked c.args.seen.now p (c.requires.seen.method p at) (c.requires.seen.spot p at) (fact_of premise.fact) refl [] c.after_node.new.following.within.items
          c.after_node.new.following.entered.items c.in_ok-after_node.ensures old mid (contains_at old c.args.place p at) tt
          (subst (λ (all : List Conclusion). Adds (λ (e : Edge). (d : Conclusion) × Contains all d × (e ≡ within p.method p.entry d)) old mid) c.as_slice.ensures.value
          (c.take_conclusions.ensures.adds p at)))
          (sound_second q x w asked c.args.seen.now p (c.requires.seen.method p at) (c.requires.seen.spot p at) (fact_of premise.fact) refl [] c.after_node.new.following.within.items
          c.after_node.new.following.entered.items c.in_ok-after_node.ensures old mid far (contains_at old c.args.place p at) tt c.take_conclusions.ensures.grows
          (subst (λ (all : List EnteredWith). Adds (λ (e : Edge). (b : EnteredWith) × Contains all b × (e ≡ begun b)) mid far) c.as_slice-2.ensures.value c.take_begun.ensures.adds)))
          (c.try_exits.ensures.sound.each x w asked);
    }

pub returns-clause-tried : goal.returns-clause-tried
returns-clause-tried c =
    let q = c.args.closing.now.question.now in
    let old = edges_in c.args.edges.now.items in
    let mid = edges_in c.take_conclusions.new.edges.items in
    let far = edges_in c.take_begun.new.edges.items in
    let new = edges_in c.try_exits.new.edges.items in
    let grows = grows_more old mid far c.take_conclusions.ensures.grows c.take_begun.ensures.grows in
    let premise = c.index.result.now in
    let p : Edge = edge_of premise in
    let at = read_at c.args.edges.now.items c.args.place premise c.requires.there c.index.ensures in
    let conclusions = c.after_node.new.following.within.items in
    let entered = c.after_node.new.following.entered.items in
    let held : All (λ (d : Conclusion). Contains mid (within p.method p.entry d)) conclusions =
    subst (λ (xs : List Conclusion). All (λ (d : Conclusion). Contains mid (within p.method p.entry d)) xs) c.as_slice.ensures.value (c.in_ok-take_conclusions.ensures.held p at) in
    let began : All (λ (b : EnteredWith). Contains far (begun b)) entered =
    subst (λ (xs : List EnteredWith). All (λ (b : EnteredWith). Contains far (begun b)) xs) c.as_slice-2.ensures.value c.in_ok-take_begun.ensures.held in
    let still : All (λ (d : Conclusion). Contains far (within p.method p.entry d)) conclusions =
    All-weaker (λ (d : Conclusion). Contains mid (within p.method p.entry d)) (λ (d : Conclusion). Contains far (within p.method p.entry d))
    (λ d there. still_there mid far (within p.method p.entry d) c.take_begun.ensures.grows there) conclusions held in
    on_ok_weaker c.try_exits.result (λ tried. record {
      each = λ x w r asked here.
          subst (λ (e : Edge). IsTried (GroundInstance q x w) e old new) (same_Some p r (sym at ∙ here)) (record {
            alone = λ to i.
                still_there far new to c.try_exits.ensures.grows
                (tried_all q x w asked c.args.seen.now p (c.requires.seen.method p at) (c.requires.seen.spot p at) (fact_of premise.fact) refl [] conclusions entered
                c.in_ok-after_node.ensures far still began to i);
            beside = λ s there. tried.each x w p s asked (still_at old far c.args.place p grows at) (still_there old far s grows there);
          });
    }) c.try_exits.ensures.tried
