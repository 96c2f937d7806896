-- The listed edges: each is derivable, and stands once.
use Rattle.std.proofs.Common.{◌≡◌, ◌∙◌, ◌+◌, ◌<◌, ◌≤◌, ℕ, Bool, true, false, List, length, Some, sym, ap, arith}
use Rattle.std.specs.Prelude.{if◌then◌else◌}
use Rattle.std.specs.List.{All, slice_get}
use Rattle.std.proofs.lemmas.List.{length-map}
use Rattle.list_laws.proofs.Places.{contains_at, map_at}
use Rattle.machine_bytecode.specs.Objects.{Subject}
use Rattle.least_sets.specs.Parts.{HasAtLeast}
use Rattle.least_sets.specs.Rules.{IsDerivable, IsWithoutDoubles}
use Rattle.least_sets.proofs.Derivations.{All-derivable}
use Rattle.stage_transfer.specs.Settings.{Setting}
use Rattle.stage_edges.specs.Rules.{Edge}
use Rattle.edge_numbers.proofs.Reasons.{reasons_derive}
use Rattle.edge_numbers.specs.declared.numbered.NumberedEdge.{NumberedEdge}
use Rattle.end_numbers.specs.Ends.{End}
use Rattle.ground_views.specs.declared.question.Question.{Question}
use Rattle.ground_views.specs.Questions.{GroundInstance, IsAskedOf}
use Rattle.ground_views.proofs.Ends.{at_least}
use Rattle.tabulation_tables.specs.Lists.{IsEdgeBetween, IsShaped, IsSound, Lists, edge_of_numbers, edge_to, edges_of, reasons_of}
use Rattle.tabulation_tables.proofs.Edges.{edge_is}
use Rattle.tabulation.specs.Kept.{IsRight}

-- ---- each is derivable

pub all_derivable : (I : List Edge → Edge → Type 0) (t : Lists) → IsSound I t → All (IsDerivable I) (edges_of t)
all_derivable I t sound = All-derivable I (edges_of t) (reasons_derive I (edges_of t) (reasons_of t) sound.reasons)

-- ---- each stands once

same_end : (a b : End) → a.method ≡ b.method → a.spot ≡ b.spot → a.fact ≡ b.fact → a ≡ b
same_end a b method spot fact = λ i. record { method = method i; spot = spot i; fact = fact i }

module _ (t : Lists) (shape : IsShaped t) (ends : IsWithoutDoubles t.ends) (edges : IsWithoutDoubles t.edges) where
  one_number : (n m : ℕ) (a b : End) → slice_get t.ends n ≡ Some a → slice_get t.ends m ≡ Some b → a ≡ b → n ≡ m
  one_number n m a b at_n at_m same = ends b n m (at_n ∙ ap Some same) at_m

  one_edge : (p r : NumberedEdge) → IsEdgeBetween t p.begin p.end → IsEdgeBetween t r.begin r.end → edge_of_numbers t p ≡ edge_of_numbers t r → p ≡ r
  one_edge p r is other same =
      let value : edge_to is.end is.begin.fact ≡ edge_to other.end other.begin.fact =
      sym (edge_is t p.begin p.end is.begin is.end is.begin_at is.end_at) ∙ same ∙ edge_is t r.begin r.end other.begin other.end other.begin_at other.end_at in
      let end = same_end is.end other.end (ap (λ (e : Edge). e.method) value) (ap (λ (e : Edge). e.spot) value) (ap (λ (e : Edge). e.fact) value) in
      let begin = same_end is.begin other.begin (is.same ∙ ap (λ (e : Edge). e.method) value ∙ sym other.same) (is.first ∙ sym other.first) (ap (λ (e : Edge). e.entry) value) in
      let x = one_number p.end r.end is.end other.end is.end_at other.end_at end in
      let b = one_number p.begin r.begin is.begin other.begin is.begin_at other.begin_at begin in
      λ i. record { begin = b i; end = x i }

  pub edges_apart : IsWithoutDoubles (edges_of t)
  edges_apart f i j at_i at_j =
      let one = map_at (edge_of_numbers t) t.edges i f at_i in
      let other = map_at (edge_of_numbers t) t.edges j f at_j in
      let same =
      one_edge one.0 other.0 (shape.edges one.0.begin one.0.end (contains_at t.edges i one.0 one.1)) (shape.edges other.0.begin other.0.end (contains_at t.edges j other.0 other.1))
      (one.2 ∙ sym other.2) in
      edges other.0 i j (one.1 ∙ ap Some same) other.1

-- ---- there are as many as the limit

count_edges : (t : Lists) → length (edges_of t) ≡ length t.edges
count_edges t = length-map t.edges (edge_of_numbers t)

pub limit_reached : (q : Question) (t : Lists) → IsRight q t → IsWithoutDoubles t.ends → IsWithoutDoubles t.edges → length t.edges ≡ q.limit → (x : Subject) (w : Setting)
    → IsAskedOf q x w → HasAtLeast (GroundInstance q x w) (λ (e : Edge). Some e) q.limit
limit_reached q t right ends edges count x w asked =
    at_least (GroundInstance q x w) (edges_of t) q.limit (all_derivable (GroundInstance q x w) t (right.sound x w asked)) (edges_apart t right.shape ends edges)
    (count_edges t ∙ count)

-- an edge that is added to fewer than the limit, so that they are no fewer, makes them as many
pub added_to_limit : (added : Bool) (old new : Lists) (limit : ℕ) → length new.edges ≡ length old.edges + (if added then 1 else 0) → length old.edges < limit → limit ≤ length new.edges
    → length new.edges ≡ limit
added_to_limit true old new limit count few many = omega (arith, count, few, many)
added_to_limit false old new limit count few many = absurd (omega (arith, count, few, many))
