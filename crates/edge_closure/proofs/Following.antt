-- From what follows of an edge, taken in, each instance with the edge as first premise is tried, and all stays derivable.
use Rattle.std.proofs.Common.{◌≡◌, List, ◌∷◌, Option, sym, ap, subst}
use Rattle.std.specs.List.{All, Contains}
use Rattle.std.proofs.lemmas.List.Elements.{All-contains}
use Rattle.jvm_model.specs.declared.number.MethodNo.{MethodNo}
use Rattle.op_model.specs.declared.node.Spot.{Spot}
use Rattle.machine_bytecode.specs.Objects.{Subject}
use Rattle.least_sets.specs.Rules.{Hold, IsDerivable}
use Rattle.least_sets.proofs.Derivations.{Hold-larger}
use Rattle.least_sets.proofs.Joined.{derivable_is_closed}
use Rattle.ground.specs.Findings.{gives_listed}
use Rattle.stage_facts.specs.Facts.{SiteFact}
use Rattle.stage_transfer.specs.Settings.{Setting}
use Rattle.stage_transfer.specs.Stages.{transfer_of}
use Rattle.stage_edges.specs.Rules.{Edge, before, edge as edge_of}
use Rattle.edge_steps.specs.declared.conclusions.Conclusion.{Conclusion}
use Rattle.edge_steps.specs.declared.conclusions.EnteredWith.{EnteredWith}
use Rattle.edge_steps.specs.Steps.{AreFollowing, IsOneOf, begins, begun, goes, within}
use Rattle.ground_views.specs.declared.question.Question.{Question}
use Rattle.ground_views.specs.declared.viewed_node.ViewedNode.{ViewedNode}
use Rattle.ground_views.specs.Questions.{GroundInstance, IsAskedOf}
use Rattle.ground_views.specs.Views.{FollowAt}
use Rattle.edge_closure.specs.Tried.{Adds, Grows, StaysSound}
use Rattle.edge_closure.proofs.Lists.{sound_by, still_there}

-- an edge is that of its parts
pub premise_is : (p : Edge) (m : Option MethodNo) (spot : Spot) (f : SiteFact) → p.method ≡ m → p.spot ≡ spot → p.fact ≡ f → p ≡ edge_of m p.entry spot f
premise_is p m spot f method at fact = λ i. record { method = method i; entry = p.entry; spot = at i; fact = fact i }

-- premises of a list whose edges are derivable are so
derivable_each : (I : List Edge → Edge → Type 0) (edges : List Edge) → All (IsDerivable I) edges → (premises : List Edge) → Hold (Contains edges) premises → Hold (IsDerivable I) premises
derivable_each I edges all premises hold = Hold-larger (Contains edges) (IsDerivable I) (λ e there. All-contains (IsDerivable I) edges e all there) premises hold

-- ---- from one edge

module _ (I : List Edge → Edge → Type 0) (p : Edge) (conclusions : List Conclusion) (entered : List EnteredWith) where
  pub sound_within : (premises : List Edge) (old new : List Edge) → Hold (Contains old) premises
      → ((c : Conclusion) → Contains conclusions c → I premises (within p.method p.entry c))
      → Adds (λ (e : Edge). (c : Conclusion) × Contains conclusions c × (e ≡ within p.method p.entry c)) old new → StaysSound I old new
  sound_within premises old new hold follow adds =
      sound_by I (λ (e : Edge). (c : Conclusion) × Contains conclusions c × (e ≡ within p.method p.entry c)) old new adds (λ all e one.
      derivable_is_closed I premises e (subst (I premises) (sym one.2) (follow one.0 one.1)) (derivable_each I old all premises hold))

  pub sound_begun : (premises : List Edge) (first old new : List Edge) → Hold (Contains first) premises → Grows first old
      → ((b : EnteredWith) → Contains entered b → I premises (begun b))
      → Adds (λ (e : Edge). (b : EnteredWith) × Contains entered b × (e ≡ begun b)) old new → StaysSound I old new
  sound_begun premises first old new hold grows follow adds =
      sound_by I (λ (e : Edge). (b : EnteredWith) × Contains entered b × (e ≡ begun b)) old new adds (λ all e one.
      derivable_is_closed I premises e (subst (I premises) (sym one.2) (follow one.0 one.1))
      (derivable_each I old all premises (Hold-larger (Contains first) (Contains old) (λ q there. still_there first old q grows there) premises hold)))

  pub all_there : (new : List Edge) (to : Edge) → All (λ (c : Conclusion). Contains new (within p.method p.entry c)) conclusions
      → All (λ (b : EnteredWith). Contains new (begun b)) entered → IsOneOf p.method p.entry conclusions entered to → Contains new to
  all_there new to held also (goes c there) = All-contains (λ (c : Conclusion). Contains new (within p.method p.entry c)) conclusions c held there
  all_there new to held also (begins b there) = All-contains (λ (b : EnteredWith). Contains new (begun b)) entered b also there

-- ---- from an edge to a node that is seen

module _ (q : Question) (x : Subject) (w : Setting) (asked : IsAskedOf q x w) (k : ViewedNode) (p : Edge) (method : p.method ≡ k.method) (spot : p.spot ≡ before k.node.now)
    (f : SiteFact) (fact : p.fact ≡ f) (rest : List Edge) (conclusions : List Conclusion) (entered : List EnteredWith) (follow : FollowAt q k f rest conclusions entered) where
  abbrev Rules : List Edge → Edge → Type 0
  Rules = GroundInstance q x w

  abbrev first : SiteFact → Edge
  first e = edge_of k.method e (before k.node.now) f

  is_first : p ≡ first p.entry
  is_first = premise_is p k.method (before k.node.now) f method spot fact

  follows : AreFollowing x (gives_listed q.ground.now.methods) (Contains q.ground.now.facts) (transfer_of w) k.method (λ (e : SiteFact). first e ∷ rest) conclusions entered
  follows = follow.each x w asked

  -- a conclusion has the method of the premise
  same_within : (c : Conclusion) → within k.method p.entry c ≡ within p.method p.entry c
  same_within c = ap (λ (m : Option MethodNo). within m p.entry c) (sym method)

  follows_within : (c : Conclusion) → Contains conclusions c → Rules (p ∷ rest) (within p.method p.entry c)
  follows_within c there =
      subst (Rules (p ∷ rest)) (same_within c) (subst (λ (e : Edge). Rules (e ∷ rest) (within k.method p.entry c)) (sym is_first) (follows.within_follow c p.entry there))

  follows_begun : (b : EnteredWith) → Contains entered b → Rules (p ∷ rest) (begun b)
  follows_begun b there = subst (λ (e : Edge). Rules (e ∷ rest) (begun b)) (sym is_first) (follows.begun_follow b p.entry there)

  one_of : (to : Edge) → Rules (p ∷ rest) to → IsOneOf p.method p.entry conclusions entered to
  one_of to i =
      subst (λ (m : Option MethodNo). IsOneOf m p.entry conclusions entered to) (sym method) (follows.all p.entry to (subst (λ (e : Edge). Rules (e ∷ rest) to) is_first i))

  pub sound_first : (old new : List Edge) → Contains old p → Hold (Contains old) rest
      → Adds (λ (e : Edge). (c : Conclusion) × Contains conclusions c × (e ≡ within p.method p.entry c)) old new → StaysSound Rules old new
  sound_first old new there hold adds = sound_within Rules p conclusions entered (p ∷ rest) old new (there, hold) follows_within adds

  pub sound_second : (start old new : List Edge) → Contains start p → Hold (Contains start) rest → Grows start old
      → Adds (λ (e : Edge). (b : EnteredWith) × Contains entered b × (e ≡ begun b)) old new → StaysSound Rules old new
  sound_second start old new there hold grows adds = sound_begun Rules p conclusions entered (p ∷ rest) start old new (there, hold) grows follows_begun adds

  pub tried_all : (new : List Edge) → All (λ (c : Conclusion). Contains new (within p.method p.entry c)) conclusions → All (λ (b : EnteredWith). Contains new (begun b)) entered
      → (to : Edge) → Rules (p ∷ rest) to → Contains new to
  tried_all new held also to i = all_there Rules p conclusions entered new to held also (one_of to i)
