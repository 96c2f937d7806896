-- The beginning: there is nothing, and then the edge with which the program starts.
use Rattle.std.proofs.Common.{◌≡◌, ◌∙◌, ◌<◌, ℕ, Bool, true, List, [], length, map, Option, None, Some, refl, sym, ap, subst}
use Rattle.chained_lists.specs.Entries.{Entry, entry}
use Rattle.std.specs.List.{Contains, slice_get}
use Rattle.std.proofs.lemmas.Option.{none-some}
use Rattle.list_laws.proofs.Members.{contains_none}
use Rattle.op_model.specs.declared.node.Spot.TheVariants as spots
use Rattle.stage_facts.specs.Facts.{none_yet}
use Rattle.stage_edges.specs.Rules.{Edge, start}
use Rattle.edge_numbers.specs.declared.because.Because.{Because}
use Rattle.edge_numbers.specs.declared.because.Because.TheVariants.{Start}
use Rattle.edge_numbers.specs.declared.because.EdgeNo.{EdgeNo}
use Rattle.edge_numbers.specs.Premises.{AreReasons, FollowsFrom, premises}
use Rattle.edge_numbers.proofs.Reasons.{no_reasons}
use Rattle.list_laws.proofs.Places.{contains_at}
use Rattle.edge_numbers.specs.declared.numbered.NumberedEdge.{NumberedEdge}
use Rattle.end_numbers.specs.Ends.{end}
use Rattle.ground_views.specs.declared.question.Question.{Question}
use Rattle.ground_views.specs.Questions.{GroundInstance}
use Rattle.tabulation_tables.specs.Lists.{IsShaped, IsSound, Lists, edge_of_numbers, edges_of, found_by, numbered, reasons_of}
use Rattle.tabulation_tables.proofs.Edges.{edge_is}
use Rattle.tabulation_tables.specs.Steps.{AreEmpty}
use Rattle.tabulation.specs.Kept.{IsKept, MayTake}

none_in : (es : List Entry) (n v : ℕ) → es ≡ [] → Contains es (entry n v) → ⊥
none_in es n v is there = contains_none (entry n v) (subst (λ (fs : List Entry). Contains fs (entry n v)) is there)

no_edge : (es : List NumberedEdge) (e : NumberedEdge) → es ≡ [] → Contains es e → ⊥
no_edge es e is there = contains_none e (subst (λ (fs : List NumberedEdge). Contains fs e) is there)

empty_shaped : (t : Lists) → AreEmpty t → IsShaped t
empty_shaped t none = record {
  edges = λ b x there. absurd (no_edge t.edges (numbered b x) none.edges there);
  found = none.begins ∙ sym (ap (λ (es : List NumberedEdge). map found_by es) none.edges);
  reasoned = ap (λ (rs : List Because). length rs) none.reasons ∙ sym (ap (λ (es : List NumberedEdge). length es) none.edges);
  noted = ap (λ (xs : List (Option EdgeNo)). length xs) none.by ∙ sym (ap (λ (es : List Entry). length es) none.leads);
  leads = λ x y there. absurd (none_in t.leads x y none.leads there);
  callers = λ b c there. absurd (none_in t.callers b c none.callers there);
  exits = λ b z there. absurd (none_in t.exits b z none.exits there);
}

empty_sound : (I : List Edge → Edge → Type 0) (t : Lists) → AreEmpty t → IsSound I t
empty_sound I t none = record {
  reasons =
      subst (λ (es : List NumberedEdge). AreReasons I (map (edge_of_numbers t) es) (reasons_of t)) (sym none.edges)
      (subst (λ (rs : List Because). AreReasons I [] (map premises rs)) (sym none.reasons) (no_reasons I));
  leads = λ x y exit there. absurd (none_in t.leads x y none.leads (contains_at t.leads there.place (entry x y) there.at));
  followed = λ x there. absurd (none-some true (subst (λ (vs : List Bool). slice_get vs x ≡ Some true) none.visits there));
  met = λ b c z there also. absurd (none_in t.callers b c none.callers there);
}

-- empty tables are kept
pub empty_kept : (q : Question) (t : Lists) → 0 < q.limit → AreEmpty t → IsKept q t
empty_kept q t limit none = record {
  right = record { shape = empty_shaped t none; sound = λ x w asked. empty_sound _ t none };
  roomy = subst (λ (es : List NumberedEdge). length es < q.limit) (sym none.edges) limit;
}

-- the program starts
pub may_take_start : (q : Question) (t : Lists) (n : ℕ) → slice_get t.ends n ≡ Some (end None (spots.Node 0) none_yet) → MayTake q t n n Start
may_take_start q t n at = record {
  between = record { begin = _; end = _; begin_at = at; end_at = at; first = refl; same = refl };
  follows = λ x w asked.
      subst (FollowsFrom (GroundInstance q x w) (edges_of t) []) (sym (edge_is t n n _ _ at at)) (record { premises = []; instance = start; stand = refl });
}
