-- What may be taken in, and what may lead where.
use Rattle.std.proofs.Common.{◌≡◌, ◌∙◌, ℕ, [], ◌∷◌, Option, Some, refl, sym, ap, subst}
use Rattle.std.specs.List.{slice_get}
use Rattle.std.proofs.lemmas.Option.{same_Some}
use Rattle.jvm_model.specs.declared.number.MethodNo.{MethodNo}
use Rattle.op_model.specs.declared.node.Spot.TheVariants as spots
use Rattle.stage_facts.specs.Plain.{fact_of}
use Rattle.stage_edges.specs.Rules.{edge}
use Rattle.edge_steps.specs.declared.conclusions.Conclusion.{Conclusion}
use Rattle.edge_steps.specs.declared.conclusions.EnteredWith.{EnteredWith}
use Rattle.edge_numbers.specs.declared.because.EdgeNo.{EdgeNo}
use Rattle.edge_numbers.specs.declared.numbered.NumberedEdge.{NumberedEdge}
use Rattle.edge_numbers.specs.declared.because.Because.TheVariants.{One}
use Rattle.edge_numbers.specs.Premises.{FollowsFrom, others}
use Rattle.edge_numbers.proofs.Reasons.{stand_still}
use Rattle.end_numbers.specs.Ends.{End, end}
use Rattle.ground_views.specs.declared.question.Question.{Question}
use Rattle.ground_views.specs.Questions.{GroundInstance}
use Rattle.tabulation_tables.specs.Lists.{IsBegunBy, IsEdgeAt, IsEdgeBetween, IsShaped, Lists, edge_to, edges_of, numbered}
use Rattle.tabulation_tables.proofs.Edges.{edge_is, edges_extend}
use Rattle.tabulation_tables.specs.Steps.{Grows}
use Rattle.tabulation.specs.Kept.{Concludes, IsOfMethod, MayBegin, MayLead, MayTake, end_within}
use Rattle.tabulation.specs.declared.work.Premise.{Premise}

-- a conclusion is led to, once its end has a number
pub may_lead_there : (q : Question) (old new : Lists) → Grows old new → IsShaped old → (p : Premise) (c : Conclusion) → IsOfMethod old p.end p.method → Concludes q old p c → (to : ℕ)
    → slice_get new.ends to ≡ Some (end_within p.method c) → MayLead q new p.end to p.exit
may_lead_there q old new grows shape p c of concludes to at = record {
  between = record { from = of.end; to = end_within p.method c; from_at = grows.ends p.end of.end of.end_at; to_at = at; same = of.is };
  sound = λ x w asked. record {
    from = concludes.end;
    to = end_within p.method c;
    from_at = grows.ends p.end concludes.end concludes.end_at;
    to_at = at;
    rest = concludes.rest;
    stand = stand_still (edges_of old) (edges_of new) (edges_extend old new grows shape) (others p.exit) concludes.rest concludes.stand;
    follows = λ entry. concludes.follows x w asked entry;
  };
}

-- that a method begins is taken in, once its first end has a number
pub may_take_begun : (q : Question) (t : Lists) (by : EdgeNo) (b : EnteredWith) → MayBegin q t by.0 b → (n : ℕ) → slice_get t.ends n ≡ Some (end (Some b.method) (spots.Node 0) (fact_of b.fact))
    → MayTake q t n n (One by)
may_take_begun q t by b may n at = record {
  between = record { begin = _; end = _; begin_at = at; end_at = at; first = refl; same = refl };
  follows = λ x w asked. subst (FollowsFrom (GroundInstance q x w) (edges_of t) (by.0 ∷ [])) (sym (edge_is t n n _ _ at at)) (may.follows x w asked);
}

-- ---- an edge to an exit

-- what stands at its number is an edge with the begin
pub exit_stands : (t : Lists) (b k : ℕ) → IsBegunBy t b k → (e : NumberedEdge) → slice_get t.edges k ≡ Some e → IsEdgeAt t k b e.end
exit_stands t b k is e at = at ∙ ap Some (λ i. record { begin = begin i; end = e.end })
  where
    begin : e.begin ≡ b
    begin = ap (λ (a : NumberedEdge). a.begin) (same_Some e (numbered b is.end) (sym at ∙ is.at))

module _ (t : Lists) (b z : ℕ) where
  -- its method is that with which it begins
  pub exit_edge : IsEdgeBetween t b z → (begin exit : End) → slice_get t.ends b ≡ Some begin → slice_get t.ends z ≡ Some exit → (m : MethodNo) → begin.method ≡ Some m
      → edge (Some m) begin.fact exit.spot exit.fact ≡ edge_to exit begin.fact
  exit_edge is begin exit begin_at exit_at m method =
      let same : begin.method ≡ exit.method =
      ap (λ (e : End). e.method) (same_Some begin is.begin (sym begin_at ∙ is.begin_at)) ∙ is.same ∙ ap (λ (e : End). e.method) (same_Some is.end exit (sym is.end_at ∙ exit_at)) in
      ap (λ (o : Option MethodNo). edge o begin.fact exit.spot exit.fact) (sym method ∙ same)
