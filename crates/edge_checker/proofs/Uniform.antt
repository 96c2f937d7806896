-- What follows from an edge to a node, as it is listed, by conditions. Lists of what follows are the same for each fact with which the method is entered. So a
-- fact can be taken with which nothing else begins.
use Rattle.std.proofs.Common.{◌≡◌, inl, inr, ◌∙◌, List, [], ◌∷◌, Option, refl, sym, ap, subst}
use Rattle.std.specs.List.{Contains}
use Rattle.jvm_model.specs.declared.number.MethodNo.{MethodNo}
use Rattle.op_model.specs.declared.node.Spot.{Spot}
use Rattle.op_model.specs.Supplies.{GivenAs}
use Rattle.machine_bytecode.specs.Objects.{Subject}
use Rattle.points_to_rules.specs.Facts.{Fact}
use Rattle.stage_facts.specs.Facts.{SiteFact}
use Rattle.stage_facts.specs.Plain.{fact_of}
use Rattle.stage_transfer.specs.Stages.{Transfer}
use Rattle.stage_edges.specs.Rules.{Edge, Instance, edge}
use Rattle.edge_steps.specs.declared.conclusions.Conclusion.{Conclusion}
use Rattle.edge_steps.specs.declared.conclusions.EnteredWith.{EnteredWith}
use Rattle.edge_steps.specs.Steps.{AreFollowing, IsOneOf, begins, begun, goes, within}
use Rattle.edge_checker.specs.Conditions.{condition_of}
use Rattle.edge_checker.proofs.ByCondition.{IsFlow, IsOf, Kind, begins_with, entered_with, kind, other_differs, other_fact}

module _ (x : Subject) (gives : GivenAs) (S : Fact → Type 0) (t : Transfer) (m : Option MethodNo) (s : Spot) (f : SiteFact) (conclusions : List Conclusion)
    (entered : List EnteredWith) (follow : AreFollowing x gives S t m (λ (e : SiteFact). edge m e s f ∷ []) conclusions entered) where
  abbrev from : SiteFact → Edge
  from e = edge m e s f

  -- an edge within the method follows by a rule within
  pub flow_of : (c : Conclusion) (e : SiteFact) → Contains conclusions c → IsOf x gives S t 5 (from e ∷ []) (within m e c)
  flow_of c e there =
      let d = other_fact (fact_of c.fact) in
      by d (other_differs (fact_of c.fact)) (follow.within_follow c d there) (kind x gives S t (from d ∷ []) (within m d c) (follow.within_follow c d there))
    where
      by : (d : SiteFact) → (d ≡ fact_of c.fact → ⊥) → (i : Instance x gives S t (from d ∷ []) (within m d c))
          → Kind x gives S t (from d ∷ []) (within m d c) (condition_of i) → IsOf x gives S t 5 (from e ∷ []) (within m e c)
      by d apart i (inl flow) = flow.1.alike e
      by d apart i (inr entry) =
          let is = entry.1.is in absurd (apart (ap (λ (p : Edge). p.entry) is ∙ sym (ap (λ (p : Edge). p.fact) is)))

  -- a method begins by a rule into it
  pub entry_of : (b : EnteredWith) (e : SiteFact) → Contains entered b → IsOf x gives S t 6 (from e ∷ []) (begun b)
  entry_of b e there =
      let d = other_fact (fact_of b.fact) in
      by d (other_differs (fact_of b.fact)) (follow.begun_follow b d there) (kind x gives S t (from d ∷ []) (begun b) (follow.begun_follow b d there))
    where
      by : (d : SiteFact) → (d ≡ fact_of b.fact → ⊥) → (i : Instance x gives S t (from d ∷ []) (begun b))
          → Kind x gives S t (from d ∷ []) (begun b) (condition_of i) → IsOf x gives S t 6 (from e ∷ []) (begun b)
      by d apart i (inl flow) = absurd (apart (sym flow.1.entry))
      by d apart i (inr entry) = subst (IsOf x gives S t 6 (from e ∷ [])) (sym entry.1.is) (entry.1.alike e)

  -- what follows by a rule within the method is listed so
  pub flow_listed : (e : SiteFact) (to : Edge) → IsFlow x gives S t (from e) to → (c : Conclusion) × Contains conclusions c × (to ≡ within m e c)
  flow_listed e to flow =
      let d = other_fact to.fact in
      by d (other_differs to.fact) (follow.all d (entered_with d to) (flow.alike d).instance)
    where
      by : (d : SiteFact) → (d ≡ to.fact → ⊥) → IsOneOf m d conclusions entered (entered_with d to) → (c : Conclusion) × Contains conclusions c × (to ≡ within m e c)
      by d apart one = split (entered_with d to) one refl
        where
          split : (p : Edge) → IsOneOf m d conclusions entered p → p ≡ entered_with d to → (c : Conclusion) × Contains conclusions c × (to ≡ within m e c)
          split p (goes c there) is =
              let spot = ap (λ (q : Edge). q.spot) is in
              let fact = ap (λ (q : Edge). q.fact) is in
              let method = flow.method in
              let entry = flow.entry in
              (c, there, (λ i. edge (method i) (entry i) (sym spot i) (sym fact i)))
          split p (begins b there) is = absurd (apart (sym (ap (λ (q : Edge). q.entry) is) ∙ ap (λ (q : Edge). q.fact) is))

  -- what begins by a rule into a method is listed so
  pub entry_listed : (target : MethodNo) (g : SiteFact) → ((e : SiteFact) → IsOf x gives S t 6 (from e ∷ []) (begins_with target g))
      → (b : EnteredWith) × Contains entered b × (begins_with target g ≡ begun b)
  entry_listed target g alike =
      let d = other_fact g in
      by d (other_differs g) (follow.all d (begins_with target g) (alike d).instance)
    where
      by : (d : SiteFact) → (d ≡ g → ⊥) → IsOneOf m d conclusions entered (begins_with target g) → (b : EnteredWith) × Contains entered b × (begins_with target g ≡ begun b)
      by d apart one = split (begins_with target g) one refl
        where
          split : (p : Edge) → IsOneOf m d conclusions entered p → p ≡ begins_with target g → (b : EnteredWith) × Contains entered b × (begins_with target g ≡ begun b)
          split p (goes c there) is = absurd (apart (ap (λ (q : Edge). q.entry) is))
          split p (begins b there) is = (b, there, sym is)
