use Rattle.std.proofs.Common.{◌≡◌, ◌∙◌, List, [], ◌∷◌, Option, Some, refl, sym, ap, subst, arith}
use Rattle.std.specs.List.{All, Contains}
use Rattle.std.proofs.lemmas.Option.{none-some, same_Some}
use Rattle.std.proofs.lemmas.Result.{on_ok_weaker}
use Rattle.list_laws.proofs.Places.{contains_at}
use Rattle.jvm_model.specs.declared.number.MethodNo.{MethodNo}
use Rattle.ground.specs.Findings.{gives_listed}
use Rattle.stage_facts.specs.Plain.{fact_of}
use Rattle.stage_transfer.specs.Stages.{transfer_of}
use Rattle.stage_edges.specs.Rules.{Edge, edge as edge_with}
use Rattle.edge_steps.specs.declared.conclusions.Conclusion.{Conclusion}
use Rattle.edge_steps.specs.Steps.{within}
use Rattle.ground_views.specs.declared.path_edge.PathEdge.{PathEdge}
use Rattle.ground_views.specs.Questions.{GroundInstance, edge_of, edges_in}
use Rattle.ground_views.proofs.Shapes.{second_of_method}
use Rattle.edge_closure.specs.Tried.{Adds, IsTriedWith}
use Rattle.edge_closure.proofs.Following.{sound_first, tried_all}
use Rattle.edge_closure.proofs.Lists.{read_at}
use Rattle.edge_closure.proofs.trying.try_exit.Goals as goal

-- an edge with a method, and the parts of the value
of_parts : (e : PathEdge) (m : MethodNo) → e.method ≡ Some m → edge_of e ≡ edge_with (Some m) (fact_of e.entry) e.spot (fact_of e.fact)
of_parts e m is = ap (λ (k : Option MethodNo). edge_with k (fact_of e.entry) e.spot (fact_of e.fact)) is

pub returns-in_default-clause-tried : goal.returns-in_default-clause-tried
returns-in_default-clause-tried c = record {
  each = λ x w p r asked at there. record {
    each = λ to i.
        let g = c.args.closing.now.question.now.ground.now in
        let ended = c.index-ended.result.now in
        let stands = read_at c.args.edges.now.items c.args.other ended c.requires.beside c.index-ended.ensures in
        let is_r : edge_of ended ≡ r = same_Some (edge_of ended) r (sym stands ∙ there) in
        let of_method = second_of_method x (gives_listed g.methods) (Contains g.facts) (transfer_of w) p r to i in
        absurd (none-some of_method.0 (sym c.in_default.is ∙ ap (λ (e : Edge). e.method) is_r ∙ of_method.1));
  };
}

pub after_exit-requires : goal.after_exit-requires
after_exit-requires c = (c.requires.seen.node, c.requires.seen.seen)

pub returns-clause-sound : goal.returns-clause-sound
returns-clause-sound c =
    let q = c.args.closing.now.question.now in
    let edges = c.args.edges.now.items in
    let old = edges_in edges in
    let new = edges_in c.take_conclusions.new.edges.items in
    let ended = c.index-ended.result.now in
    let premise = c.index-premise.result.now in
    let p : Edge = edge_of premise in
    let at = read_at edges c.args.place premise c.requires.there c.index-premise.ensures in
    let stands = read_at edges c.args.other ended c.requires.beside c.index-ended.ensures in
    let beside : Edge = edge_with (Some c.in-Some.method) (fact_of ended.entry) ended.spot (fact_of ended.fact) in
    let is_beside : edge_of ended ≡ beside = of_parts ended c.in-Some.method c.in-Some.is in
    record {
      each = λ x w asked.
          sound_first q x w asked c.args.seen.now p (c.requires.seen.method p at) (c.requires.seen.spot p at) (fact_of premise.fact) refl (beside ∷ [])
          c.after_exit.new.conclusions.items [] c.in_ok-after_exit.ensures old new (contains_at old c.args.place p at)
          (subst (Contains old) is_beside (contains_at old c.args.other (edge_of ended) stands), tt)
          (subst (λ (all : List Conclusion). Adds (λ (e : Edge). (d : Conclusion) × Contains all d × (e ≡ within p.method p.entry d)) old new) c.as_slice.ensures.value
          (c.take_conclusions.ensures.adds p at));
    }

pub returns-clause-tried : goal.returns-clause-tried
returns-clause-tried c =
    let q = c.args.closing.now.question.now in
    let edges = c.args.edges.now.items in
    let old = edges_in edges in
    let new = edges_in c.take_conclusions.new.edges.items in
    let ended = c.index-ended.result.now in
    let premise = c.index-premise.result.now in
    let p : Edge = edge_of premise in
    let at = read_at edges c.args.place premise c.requires.there c.index-premise.ensures in
    let stands = read_at edges c.args.other ended c.requires.beside c.index-ended.ensures in
    let beside : Edge = edge_with (Some c.in-Some.method) (fact_of ended.entry) ended.spot (fact_of ended.fact) in
    let is_beside : edge_of ended ≡ beside = of_parts ended c.in-Some.method c.in-Some.is in
    on_ok_weaker c.take_conclusions.result (λ held. record {
      each = λ x w r s asked here there.
          let is_p : p ≡ r = same_Some p r (sym at ∙ here) in
          let is_s : beside ≡ s = sym is_beside ∙ same_Some (edge_of ended) s (sym stands ∙ there) in
          let all : All (λ (d : Conclusion). Contains new (within p.method p.entry d)) c.after_exit.new.conclusions.items =
          subst (λ (xs : List Conclusion). All (λ (d : Conclusion). Contains new (within p.method p.entry d)) xs) c.as_slice.ensures.value held in
          subst (λ (e : Edge). IsTriedWith (GroundInstance q x w) e s new) is_p
          (subst (λ (e : Edge). IsTriedWith (GroundInstance q x w) p e new) is_s (record {
            each =
                tried_all q x w asked c.args.seen.now p (c.requires.seen.method p at) (c.requires.seen.spot p at) (fact_of premise.fact) refl (beside ∷ [])
                c.after_exit.new.conclusions.items [] c.in_ok-after_exit.ensures new all (λ k d short. absurd (omega arith));
          }));
    }) (c.take_conclusions.ensures.held p at)
