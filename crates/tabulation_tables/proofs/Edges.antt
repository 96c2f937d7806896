-- The edges of tables that grow stay at their places, and so do their reasons.
use Rattle.std.proofs.Common.{◌≡◌, ◌∙◌, ℕ, suc, Bool, List, [], ◌∷◌, ◌++◌, length, map, Some, take, refl, sym, ap, subst, arith}
use Rattle.std.specs.Prelude.{if◌then◌else◌}
use Rattle.std.specs.List.{Contains, slice_get}
use Rattle.std.proofs.lemmas.List.{length-map, map-append, take_all}
use Rattle.std.proofs.lemmas.Option.{slice_get_within, slice_get-get_or, same_Some}
use Rattle.list_laws.proofs.Members.{contains_map}
use Rattle.chained_lists.specs.Entries.{Entry, entry}
use Rattle.list_laws.proofs.Places.{at_map, contains_at, front_push, map_at, pushed_at}
use Rattle.least_sets.proofs.Growing.{Contains-extends, Extends, take_extends}
use Rattle.stage_edges.specs.Rules.{Edge}
use Rattle.edge_numbers.specs.declared.because.Because.{Because}
use Rattle.edge_numbers.specs.declared.numbered.NumberedEdge.{NumberedEdge}
use Rattle.edge_numbers.specs.Inserted.{IsInserted, is_added, was_held}
use Rattle.edge_numbers.specs.Premises.{AreReasons, FollowsFrom, premises}
use Rattle.edge_numbers.proofs.Reasons.{from_still, reasons_more}
use Rattle.end_numbers.specs.Ends.{End}
use Rattle.tabulation_tables.specs.Lists.{HasEdge, IsEdgeAt, IsEdgeBetween, IsShaped, Lists, edge_of_numbers, edge_to, edges_of, end_or_any, found_by, numbered, reasons_of}
use Rattle.tabulation_tables.specs.Steps.{Grows}

-- ---- the edge of two numbers

pub end_is : (t : Lists) (n : ℕ) (a : End) → slice_get t.ends n ≡ Some a → end_or_any t n ≡ a
end_is t n a at = same_Some (end_or_any t n) a (sym (slice_get-get_or t.ends n _ (slice_get_within t.ends n a at)) ∙ at)

pub edge_is : (t : Lists) (b x : ℕ) (begin end : End) → slice_get t.ends b ≡ Some begin → slice_get t.ends x ≡ Some end
    → edge_of_numbers t (record { begin = b; end = x }) ≡ edge_to end begin.fact
edge_is t b x begin end begin_at end_at =
    ap (λ (a : End). edge_to a (end_or_any t b).fact) (end_is t x end end_at) ∙ ap (λ (a : End). edge_to end a.fact) (end_is t b begin begin_at)

-- an edge of the tables is listed, by its ends
pub edge_there : (t : Lists) (b x : ℕ) → HasEdge t b x → (begin end : End) → slice_get t.ends b ≡ Some begin → slice_get t.ends x ≡ Some end → Contains (edges_of t) (edge_to end begin.fact)
edge_there t b x there begin end begin_at end_at =
    subst (Contains (edges_of t)) (edge_is t b x begin end begin_at end_at) (contains_map (edge_of_numbers t) t.edges (numbered b x) there)

-- and at its number
pub edge_stands : (t : Lists) (k b x : ℕ) → IsEdgeAt t k b x → (begin end : End) → slice_get t.ends b ≡ Some begin → slice_get t.ends x ≡ Some end → slice_get (edges_of t) k ≡ Some (edge_to end begin.fact)
edge_stands t k b x at begin end begin_at end_at = at_map (edge_of_numbers t) t.edges k (numbered b x) at ∙ ap Some (edge_is t b x begin end begin_at end_at)

-- ---- how edges are found

module _ (t : Lists) (shape : IsShaped t) where
  -- where a begin stands in the list of an end, an edge has its number
  pub found_at : (k x b : ℕ) → slice_get t.begins k ≡ Some (entry x b) → IsEdgeAt t k b x
  found_at k x b at =
      let one = map_at found_by t.edges k (entry x b) (subst (λ (es : List Entry). slice_get es k ≡ Some (entry x b)) shape.found at) in
      one.1 ∙ ap Some (λ i. record { begin = (one.2 i).value; end = (one.2 i).number })

  -- and each edge is found so
  pub found_there : (b x : ℕ) → HasEdge t b x → Contains t.begins (entry x b)
  found_there b x there = subst (λ (es : List Entry). Contains es (entry x b)) (sym shape.found) (contains_map found_by t.edges (numbered b x) there)

  pub found_count : length t.begins ≡ length t.edges
  found_count = ap (λ (es : List Entry). length es) shape.found ∙ length-map t.edges found_by

-- ---- longer tables

module _ (old new : Lists) (grows : Grows old new) where
  pub edge_of_still : (b x : ℕ) → IsEdgeBetween old b x → edge_of_numbers new (numbered b x) ≡ edge_of_numbers old (numbered b x)
  edge_of_still b x is =
      edge_is new b x is.begin is.end (grows.ends b is.begin is.begin_at) (grows.ends x is.end is.end_at) ∙ sym (edge_is old b x is.begin is.end is.begin_at is.end_at)

  module _ (shape : IsShaped old) where
    pub edges_extend : Extends (edges_of old) (edges_of new)
    edges_extend k e at =
        let one = map_at (edge_of_numbers old) old.edges k e at in
        let same = edge_of_still one.0.begin one.0.end (shape.edges one.0.begin one.0.end (contains_at old.edges k one.0 one.1)) in
        at_map (edge_of_numbers new) new.edges k one.0 (grows.edges k one.0 one.1) ∙ ap Some (same ∙ one.2)

    pub edges_still : (e : Edge) → Contains (edges_of old) e → Contains (edges_of new) e
    edges_still e there = Contains-extends (edges_of old) (edges_of new) edges_extend e there

    pub follows_still : (I : List Edge → Edge → Type 0) (places : List ℕ) (e : Edge) → FollowsFrom I (edges_of old) places e → FollowsFrom I (edges_of new) places e
    follows_still I places e follows = from_still I (edges_of old) (edges_of new) edges_extend places e follows

    -- the front of the new edges is the old ones
    front_is : (n : ℕ) → n ≡ length old.edges → take n (edges_of new) ≡ edges_of old
    front_is n is =
        let count : length (edges_of old) ≡ n = length-map old.edges (edge_of_numbers old) ∙ sym is in
        take_extends (edges_of old) (edges_of new) edges_extend n (omega (arith, count)) ∙ take_all n (edges_of old) (omega (arith, count))

    -- where there are no more, they are the same
    edges_same : length new.edges ≡ length old.edges → edges_of new ≡ edges_of old
    edges_same count =
        let long : length (edges_of new) ≡ length new.edges = length-map new.edges (edge_of_numbers new) in
        sym (take_all (length new.edges) (edges_of new) (omega (arith, long))) ∙ front_is (length new.edges) count

    pub reasons_still : length new.edges ≡ length old.edges → new.reasons ≡ old.reasons → (I : List Edge → Edge → Type 0) → AreReasons I (edges_of old) (reasons_of old)
        → AreReasons I (edges_of new) (reasons_of new)
    reasons_still count same I are =
        subst (λ (es : List Edge). AreReasons I es (reasons_of new)) (sym (edges_same count))
        (subst (λ (rs : List Because). AreReasons I (edges_of old) (map premises rs)) (sym same) are)

    -- one more goes last
    pub one_more : (e : NumberedEdge) → new.edges ≡ old.edges ++ e ∷ [] → edges_of new ≡ edges_of old ++ edge_of_numbers new e ∷ []
    one_more e more =
        let n = length old.edges in
        let last = at_map (edge_of_numbers new) new.edges n e (subst (λ (es : List NumberedEdge). slice_get es n ≡ Some e) (sym more) (pushed_at old.edges e)) in
        let count : length (edges_of new) ≡ suc n = length-map new.edges (edge_of_numbers new) ∙ ap (λ (es : List NumberedEdge). length es) more ∙ pushed_length old.edges e in
        sym (take_all (suc n) (edges_of new) (omega (arith, count))) ∙ front_push (edges_of new) n (edge_of_numbers new e) last
        ∙ ap (λ (es : List Edge). es ++ edge_of_numbers new e ∷ []) (front_is n refl)
      where
        pushed_length : (es : List NumberedEdge) (e : NumberedEdge) → length (es ++ e ∷ []) ≡ suc (length es)
        pushed_length [] e = refl
        pushed_length (d ∷ es) e = ap suc (pushed_length es e)

    -- an edge is taken in that follows from those that there were
    pub reasons_inserted : (I : List Edge → Edge → Type 0) (added : Bool) (b x : ℕ) (because : Because) → IsInserted added old.edges new.edges (numbered b x)
        → new.reasons ≡ (if added then old.reasons ++ because ∷ [] else old.reasons) → IsEdgeBetween old b x
        → FollowsFrom I (edges_of old) (premises because) (edge_of_numbers old (numbered b x)) → AreReasons I (edges_of old) (reasons_of old) → AreReasons I (edges_of new) (reasons_of new)
    reasons_inserted I added b x because (was_held _ _ _ there same) reasons between follows are = reasons_still (ap (λ (es : List NumberedEdge). length es) same) reasons I are
    reasons_inserted I added b x because (is_added _ _ _ fresh more) reasons between follows are =
        subst (λ (es : List Edge). AreReasons I es (reasons_of new)) (sym (one_more (numbered b x) more))
        (subst (λ (rs : List (List ℕ)). AreReasons I (edges_of old ++ edge_of_numbers new (numbered b x) ∷ []) rs) (sym (ap (λ (rs : List Because). map premises rs) reasons ∙ map-append premises old.reasons (because ∷ [])))
        (reasons_more I (edges_of old) (reasons_of old) (edge_of_numbers new (numbered b x)) (premises because)
        (subst (FollowsFrom I (edges_of old) (premises because)) (sym (edge_of_still b x between)) follows) are))
