-- A list of edges that is written out, with a reason for each: it has the path edges, each once, where tests say so.
use Rattle.std.proofs.Common.{◌≡◌, ℕ, zero, suc, ◌+◌, nat_eq, Bool, true, false, not, ◌&&◌, List, [], ◌∷◌, ◌++◌, map, append-nil, append_assoc, find, Option, Some, None, inl, inr, refl, sym, ◌∙◌, ap, subst, arith}
use Rattle.std.specs.List.{slice_get, Contains, flat_map, list_all, position_or_len}
use Rattle.std.proofs.lemmas.Bool.{and_parts, eq-eqb, eqb-true, false≢true, not-true}
use Rattle.std.proofs.lemmas.List.Elements.{Contains-append_cases}
use Rattle.std.proofs.lemmas.Option.{none-some, same_Some}
use Rattle.jvm_model.specs.declared.automaton.Automaton.{Automaton}
use Rattle.jvm_model.specs.declared.number.MethodNo.{MethodNo}
use Rattle.op_model.specs.declared.lowered.LoweredMethod.{LoweredMethod}
use Rattle.op_model.specs.declared.node.Node.{Node}
use Rattle.op_model.specs.declared.node.Spot.TheVariants as spots
use Rattle.least_sets.specs.Rules.{Follows, IsDerivation, IsWithoutDoubles}
use Rattle.least_sets.proofs.Derivations.{All-derivable, IsDerivation-push}
use Rattle.list_laws.proofs.Members.{contained_in_map, contains_none}
use Rattle.list_laws.proofs.Places.{contains_at}
use Rattle.list_laws.proofs.Tests.{each_passes, found}
use Rattle.stage_facts.specs.Facts.{SiteFact, none_yet, some_yet, of_object}
use Rattle.stage_transfer_laws.proofs.Members.{of_flat_map}
use Rattle.stage_edges.specs.Rules.{Edge, edge, IsNode, before, start as starts_so}
use Rattle.stage_edges.specs.Edges.{ArePathEdges, IsError}
use Rattle.example_edges.proofs.Equal.{edge_is, method_is, same_edge, same_method, same_spot, spot_is}
use Rattle.example_edges.proofs.Nodes.{Example, IsPlain, gives_of, known_of, listed_node, start_node, subject_of, the_start}
use Rattle.example_edges.proofs.Conclusions.{from_one, from_two}
use Rattle.example_edges.proofs.Closed.{IsClosedByTest, among, closed, is_among, stands_at}
use Rattle.example_edges.proofs.Sound.{by_one_edge, by_two_edges, rules}

-- ---- nodes by edges

-- A node with its method.
pub record Placed : Type 0 where
  pub method : Option MethodNo
  pub lowered : LoweredMethod
  pub node : Node

abbrev placed_in : Option MethodNo → LoweredMethod → List Placed
placed_in m l = map (λ (n : Node). record { method = m; lowered = l; node = n }) l.nodes

abbrev placed_of : Example → List Placed
placed_of a = placed_in None (the_start a) ++ flat_map (λ (l : LoweredMethod). placed_in (Some l.method) l) a.methods

abbrev leads_to : Edge → Placed → Bool
leads_to d p = stands_at p.method (before p.node) d

abbrev at_place : (Placed → List Edge) → Option Placed → List Edge
at_place follow None = []
at_place follow (Some p) = follow p

-- ---- reasons

-- An edge is the first one; or it follows from one at an earlier place; or from two, the second at an exit.
pub data Reason : Type 0 where
  begins : Reason
  by_one : ℕ → Reason
  by_two : ℕ → ℕ → Reason

abbrev passes : (Edge → Bool) → Option Edge → Bool
passes test None = false
passes test (Some d) = test d

abbrev concluded : Example → Edge → List Edge
concluded a d = at_place (λ (p : Placed). from_one a p.method p.lowered p.node d) (find (leads_to d) (placed_of a))

abbrev concluded_with : Example → Edge → Edge → List Edge
concluded_with a d q = at_place (λ (p : Placed). from_two a p.method p.lowered p.node d q) (find (leads_to d) (placed_of a))

abbrev follows : Example → List Edge → Edge → Reason → Bool
follows a earlier e begins = same_edge (edge None none_yet (spots.Node 0) none_yet) e
follows a earlier e (by_one k) = passes (λ (d : Edge). among (concluded a d) e) (slice_get earlier k)
follows a earlier e (by_two k j) = passes (λ (d : Edge). passes (λ (q : Edge). among (concluded_with a d q) e) (slice_get earlier j)) (slice_get earlier k)

-- Each edge follows from those before it.
abbrev pub all_follow : Example → List Reason → (earlier rest : List Edge) → Bool
all_follow a reasons earlier [] = true
all_follow a [] earlier (e ∷ rest) = false
all_follow a (reason ∷ reasons) earlier (e ∷ rest) = follows a earlier e reason && all_follow a reasons (earlier ++ e ∷ []) rest

-- ---- no doubles, and no error

-- The elements are numbered by their places.
abbrev are_numbered : {X : Type 0} → (X → ℕ) → ℕ → List X → Bool
are_numbered number n [] = true
are_numbered number n (x ∷ xs) = nat_eq (number x) n && are_numbered number (suc n) xs

abbrev place_in : List Edge → Edge → ℕ
place_in edges e = position_or_len (same_edge e) edges

abbrev is_error : Automaton → SiteFact → Bool
is_error property none_yet = false
is_error property some_yet = false
is_error property (of_object u) = nat_eq u.state property.error

-- ---- the tests

pub record IsListing (a : Example) : Type 0 where
  pub plain : IsPlain a
  pub closed : IsClosedByTest a
  pub reasons : List Reason
  pub follow : all_follow a reasons [] a.edges ≡ true
  pub numbered : are_numbered (place_in a.edges) 0 a.edges ≡ true
  pub no_error : list_all (λ (e : Edge). not (is_error a.property e.fact)) a.edges ≡ true

-- ---- what they say

number_at : {X : Type 0} (number : X → ℕ) (n : ℕ) (xs : List X) → are_numbered number n xs ≡ true → (i : ℕ) (x : X) → slice_get xs i ≡ Some x → number x ≡ n + i
number_at number n [] are i x e = absurd (none-some x e)
number_at number n (y ∷ ys) are zero x e =
    let same = ap number (same_Some y x e) in
    let first = eqb-true (number y) n (and_parts (nat_eq (number y) n) (are_numbered number (suc n) ys) are).0 in
    omega (arith, same, first)
number_at number n (y ∷ ys) are (suc i) x e =
    let later = number_at number (suc n) ys (and_parts (nat_eq (number y) n) (are_numbered number (suc n) ys) are).1 i x e in omega (arith, later)

apart : {X : Type 0} (number : X → ℕ) (xs : List X) → are_numbered number 0 xs ≡ true → IsWithoutDoubles xs
apart number xs are x i j p q = let one = number_at number 0 xs are i x p in let other = number_at number 0 xs are j x q in omega (arith, one, other)

errs : (property : Automaton) (f : SiteFact) → IsError property f → is_error property f ≡ true
errs property none_yet error = absurd error
errs property some_yet error = absurd error
errs property (of_object u) error = eq-eqb u.state property.error error

passed : (test : Edge → Bool) (o : Option Edge) → passes test o ≡ true → (d : Edge) × (o ≡ Some d) × (test d ≡ true)
passed test None is = absurd (false≢true is)
passed test (Some d) is = (d, refl, is)

module _ (a : Example) (is : IsListing a) where
  node_of : (p : Placed) → Contains (placed_of a) p → IsNode (subject_of a) (gives_of a) p.method p.lowered p.node
  node_of p there = elim (Contains-append_cases (placed_in None (the_start a)) (flat_map (λ (l : LoweredMethod). placed_in (Some l.method) l) a.methods) p there) [
    | inl at_start ↦ (
        let n = contained_in_map (λ (k : Node). record { method = None; lowered = the_start a; node = k }) (the_start a).nodes p at_start in
        subst (λ (k : Placed). IsNode (subject_of a) (gives_of a) k.method k.lowered k.node) n.2 (start_node a is.plain n.0 n.1))
    | inr listed ↦ (
        let l = of_flat_map (λ (k : LoweredMethod). placed_in (Some k.method) k) a.methods p listed in
        let n = contained_in_map (λ (k : Node). record { method = Some l.0.method; lowered = l.0; node = k }) l.0.nodes p l.2 in
        subst (λ (k : Placed). IsNode (subject_of a) (gives_of a) k.method k.lowered k.node) n.2 (listed_node a is.plain l.0 n.0 l.1 n.1))
  ]

  -- an edge to the node is this one
  edge_to : (p : Placed) (d : Edge) → leads_to d p ≡ true → edge p.method d.entry (before p.node) d.fact ≡ d
  edge_to p d leads =
      let parts = and_parts (same_method p.method d.method) (same_spot (before p.node) d.spot) leads in
      let method = method_is p.method d.method parts.0 in
      let spot = spot_is (before p.node) d.spot parts.1 in
      λ i. edge (method i) d.entry (spot i) d.fact

  concludes : (d e : Edge) (o : Option Placed) → find (leads_to d) (placed_of a) ≡ o
      → Contains (at_place (λ (p : Placed). from_one a p.method p.lowered p.node d) o) e → rules a is.plain (d ∷ []) e
  concludes d e None none there = absurd (contains_none e there)
  concludes d e (Some p) at there =
      let it = found (leads_to d) (placed_of a) p at in
      let same = edge_to p d it.taken in
      subst (λ (k : Edge). rules a is.plain (k ∷ []) e) same
      (by_one_edge a is.plain p.method p.lowered p.node (node_of p it.there) d.entry d.fact e
      (subst (λ (k : Edge). Contains (from_one a p.method p.lowered p.node k) e) (sym same) there))

  concludes_with : (d q e : Edge) (o : Option Placed) → find (leads_to d) (placed_of a) ≡ o
      → Contains (at_place (λ (p : Placed). from_two a p.method p.lowered p.node d q) o) e → rules a is.plain (d ∷ q ∷ []) e
  concludes_with d q e None none there = absurd (contains_none e there)
  concludes_with d q e (Some p) at there =
      let it = found (leads_to d) (placed_of a) p at in
      let same = edge_to p d it.taken in
      subst (λ (k : Edge). rules a is.plain (k ∷ q ∷ []) e) same
      (by_two_edges a is.plain p.method p.lowered p.node (node_of p it.there) d.entry d.fact q e
      (subst (λ (k : Edge). Contains (from_two a p.method p.lowered p.node k q) e) (sym same) there))

  it_follows : (earlier : List Edge) (e : Edge) (reason : Reason) → follows a earlier e reason ≡ true → Follows (rules a is.plain) earlier e
  it_follows earlier e begins test =
      subst (λ (k : Edge). Follows (rules a is.plain) earlier k) (edge_is (edge None none_yet (spots.Node 0) none_yet) e test)
      (record { premises = []; instance = starts_so; hold = tt })
  it_follows earlier e (by_one k) test =
      let d = passed (λ (p : Edge). among (concluded a p) e) (slice_get earlier k) test in
      record {
        premises = d.0 ∷ [];
        instance = concludes d.0 e (find (leads_to d.0) (placed_of a)) refl (is_among (concluded a d.0) e d.2);
        hold = (contains_at earlier k d.0 d.1, tt);
      }
  it_follows earlier e (by_two k j) test =
      let d = passed (λ (p : Edge). passes (λ (q : Edge). among (concluded_with a p q) e) (slice_get earlier j)) (slice_get earlier k) test in
      let q = passed (λ (p : Edge). among (concluded_with a d.0 p) e) (slice_get earlier j) d.2 in
      record {
        premises = d.0 ∷ q.0 ∷ [];
        instance = concludes_with d.0 q.0 e (find (leads_to d.0) (placed_of a)) refl (is_among (concluded_with a d.0 q.0) e q.2);
        hold = (contains_at earlier k d.0 d.1, (contains_at earlier j q.0 q.1, tt));
      }

  derived : (reasons : List Reason) (earlier rest : List Edge) → IsDerivation (rules a is.plain) earlier → all_follow a reasons earlier rest ≡ true
      → IsDerivation (rules a is.plain) (earlier ++ rest)
  derived reasons earlier [] so_far test = subst (λ (edges : List Edge). IsDerivation (rules a is.plain) edges) (sym (append-nil earlier)) so_far
  derived [] earlier (e ∷ rest) so_far test = absurd (false≢true test)
  derived (reason ∷ reasons) earlier (e ∷ rest) so_far test =
      let parts = and_parts (follows a earlier e reason) (all_follow a reasons (earlier ++ e ∷ []) rest) test in
      subst (λ (edges : List Edge). IsDerivation (rules a is.plain) edges) (append_assoc earlier (e ∷ []) rest)
      (derived reasons (earlier ++ e ∷ []) rest (IsDerivation-push (rules a is.plain) earlier e so_far (it_follows earlier e reason parts.0)) parts.1)

  pub are_path_edges : ArePathEdges (subject_of a) (gives_of a) (known_of a) a.setting a.edges
  are_path_edges = record {
    least = record {
      closed = closed a is.plain is.closed;
      derivable = All-derivable (rules a is.plain) a.edges (derived is.reasons [] a.edges (λ k fact e. absurd (none-some fact e)) is.follow);
    };
    apart = apart (place_in a.edges) a.edges is.numbered;
  }

  pub no_error : (e : Edge) → Contains a.edges e → IsError a.property e.fact → ⊥
  no_error e there error =
      false≢true (sym (not-true (is_error a.property e.fact) (each_passes (λ (d : Edge). not (is_error a.property d.fact)) a.edges e is.no_error there)) ∙ errs a.property e.fact error)
