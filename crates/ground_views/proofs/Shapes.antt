-- The premises of instances.
use Rattle.std.proofs.Common.{◌≡◌, List, [], ◌∷◌, Option, None, Some, refl, sym, ap, subst}
use Rattle.std.specs.List.{slice_get}
use Rattle.std.proofs.lemmas.Option.{none-some, same_Some}
use Rattle.jvm_model.specs.declared.number.MethodNo.{MethodNo}
use Rattle.op_model.specs.declared.lowered.LoweredMethod.{LoweredMethod}
use Rattle.op_model.specs.declared.node.Node.{Node}
use Rattle.op_model.specs.declared.node.Spot.TheVariants as spots
use Rattle.op_model.specs.Supplies.{GivenAs}
use Rattle.machine_bytecode.specs.Objects.{Subject}
use Rattle.points_to_rules.specs.Facts.{Fact}
use Rattle.stage_facts.specs.Facts.{none_yet}
use Rattle.stage_transfer.specs.Calls.{by_call, by_trigger}
use Rattle.stage_transfer.specs.Stages.{Transfer}
use Rattle.stage_edges.specs.Rules.{Edge, Instance, IsNode, before, edge as edge_of, start, goes_on, returns, raises, answers, described_raises, enters, call_returns, resumes, unwinds}

abbrev pub start_edge : Edge
start_edge = edge_of None none_yet (spots.Node 0) none_yet

-- The edge leads to a node of its method.
pub record LeadsToNode (x : Subject) (gives : GivenAs) (p : Edge) : Type 0 where
  pub method : LoweredMethod
  pub node : Node
  pub stands : IsNode x gives p.method method node
  pub spot : p.spot ≡ before node

-- The premises are none, or an edge to a node, alone or with an edge of a method.
pub data IsShape (x : Subject) (gives : GivenAs) : List Edge → Type 0 where
  nothing : IsShape x gives []
  one : (p : Edge) → LeadsToNode x gives p → IsShape x gives (p ∷ [])
  two : (p q : Edge) → LeadsToNode x gives p → (m : MethodNo) → q.method ≡ Some m → IsShape x gives (p ∷ q ∷ [])

not_nothing : {p : Edge} {rest : List Edge} → p ∷ rest ≡ [] → ⊥
not_nothing {p} is = none-some p (ap (λ (es : List Edge). slice_get es 0) (sym is))

first_is : (p q : Edge) (ps qs : List Edge) → p ∷ ps ≡ q ∷ qs → p ≡ q
first_is p q ps qs is = same_Some p q (ap (λ (es : List Edge). slice_get es 0) is)

module _ (x : Subject) (gives : GivenAs) (S : Fact → Type 0) (t : Transfer) where
  leads : (m : Option MethodNo) (l : LoweredMethod) (n : Node) (p : Edge) → IsNode x gives m l n → p.method ≡ m → p.spot ≡ before n → LeadsToNode x gives p
  leads m l n p node method spot =
      record { method = l; node = n; stands = subst (λ (k : Option MethodNo). IsNode x gives k l n) (sym method) node; spot = spot }

  pub shape : (premises : List Edge) (to : Edge) → Instance x gives S t premises to → IsShape x gives premises
  shape premises to start = nothing
  shape premises to (goes_on m l n e f g offset node no_call there gives_g) = one (edge_of m e (before n) f) (leads m l n (edge_of m e (before n) f) node refl refl)
  shape premises to (returns m l n e f g value node is gives_g) = one (edge_of m e (before n) f) (leads m l n (edge_of m e (before n) f) node refl refl)
  shape premises to (raises m l n e f g class handler spot node throws goes gives_g) = one (edge_of m e (before n) f) (leads m l n (edge_of m e (before n) f) node refl refl)
  shape premises to (answers m l n e f sent g c target stub parameters result offset node is goes described listed_ there sends gives_g) =
      one (edge_of m e (before n) f) (leads m l n (edge_of m e (before n) f) node refl refl)
  shape premises to (described_raises m l n e f sent g c target stub parameters class handler spot node is goes described throws lands sends gives_g) =
      one (edge_of m e (before n) f) (leads m l n (edge_of m e (before n) f) node refl refl)
  shape premises to (enters m l n e f sent target by node sends) = one (edge_of m e (before n) f) (leads m l n (edge_of m e (before n) f) node refl refl)
  shape premises to (call_returns m l n e f sent out g target c offset node sends there gives_g) =
      two (edge_of m e (before n) f) (edge_of (Some target) (t.enter (by_call c) sent) spots.Returned out) (leads m l n (edge_of m e (before n) f) node refl refl) target refl
  shape premises to (resumes m l n e f out target exit node starts is) =
      two (edge_of m e (before n) f) (edge_of (Some target) (t.enter by_trigger f) exit out) (leads m l n (edge_of m e (before n) f) node refl refl) target refl
  shape premises to (unwinds m l n e f sent out g target by class handler spot node sends throws lands gives_g) =
      two (edge_of m e (before n) f) (edge_of (Some target) (t.enter by sent) spots.Thrown out) (leads m l n (edge_of m e (before n) f) node refl refl) target refl

  -- without premises the program starts
  pub from_nothing : (premises : List Edge) (to : Edge) → Instance x gives S t premises to → premises ≡ [] → to ≡ start_edge
  from_nothing premises to start is = refl
  from_nothing premises to (goes_on m l n e f g offset node no_call there gives_g) is = absurd (not_nothing is)
  from_nothing premises to (returns m l n e f g value node is_ gives_g) is = absurd (not_nothing is)
  from_nothing premises to (raises m l n e f g class handler spot node throws goes gives_g) is = absurd (not_nothing is)
  from_nothing premises to (answers m l n e f sent g c target stub parameters result offset node is_ goes described listed_ there sends gives_g) is = absurd (not_nothing is)
  from_nothing premises to (described_raises m l n e f sent g c target stub parameters class handler spot node is_ goes described throws lands sends gives_g) is = absurd (not_nothing is)
  from_nothing premises to (enters m l n e f sent target by node sends) is = absurd (not_nothing is)
  from_nothing premises to (call_returns m l n e f sent out g target c offset node sends there gives_g) is = absurd (not_nothing is)
  from_nothing premises to (resumes m l n e f out target exit node starts is_) is = absurd (not_nothing is)
  from_nothing premises to (unwinds m l n e f sent out g target by class handler spot node sends throws lands gives_g) is = absurd (not_nothing is)

  -- an edge that leads to no node is no first premise
  pub first_leads : (p : Edge) (rest : List Edge) (to : Edge) → Instance x gives S t (p ∷ rest) to → LeadsToNode x gives p
  first_leads p rest to i = by (p ∷ rest) (shape (p ∷ rest) to i) refl
    where
      by : (premises : List Edge) → IsShape x gives premises → premises ≡ p ∷ rest → LeadsToNode x gives p
      by premises nothing is = absurd (not_nothing (sym is))
      by premises (one q there) is = subst (LeadsToNode x gives) (first_is q p [] rest is) there
      by premises (two q r there m method) is = subst (LeadsToNode x gives) (first_is q p (r ∷ []) rest is) there

  -- nor is an edge of the start a second one
  pub second_of_method : (p q : Edge) (to : Edge) → Instance x gives S t (p ∷ q ∷ []) to → (m : MethodNo) × (q.method ≡ Some m)
  second_of_method p q to i = by (p ∷ q ∷ []) (shape (p ∷ q ∷ []) to i) refl
    where
      by : (premises : List Edge) → IsShape x gives premises → premises ≡ p ∷ q ∷ [] → (m : MethodNo) × (q.method ≡ Some m)
      by premises nothing is = absurd (not_nothing (sym is))
      by premises (one r there) is = absurd (none-some q (ap (λ (es : List Edge). slice_get es 1) is))
      by premises (two r s there m method) is = (m, subst (λ (e : Edge). e.method ≡ Some m) (same_Some s q (ap (λ (es : List Edge). slice_get es 1) is)) method)
