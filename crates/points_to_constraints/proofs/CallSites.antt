-- Landings and call sites: each node of a method has them, with one holder at each place, so that exceptions, arguments and results go where
-- the rules have them go.
use Rattle.std.proofs.Common.{◌≡◌, inl, inr, ℕ, List, [], ◌∷◌, Option, Some, None, slice_get, Contains, refl, sym, ap, ◌∙◌, subst}
use Rattle.std.specs.List.{AllZip}
use Rattle.list_laws.proofs.Members.{contains_first, contains_later}
use Rattle.list_laws.proofs.Places.{contains_at, place_of}
use Rattle.list_laws.proofs.Zips.{zip_at}
use Rattle.jvm_model.specs.declared.number.MethodNo.{MethodNo}
use Rattle.jvm_model.specs.Programs.{Program}
use Rattle.op_model.specs.declared.lowered.LoweredMethod.{LoweredMethod}
use Rattle.op_model.specs.declared.node.Node.{Node}
use Rattle.op_model.specs.declared.node.NodeHandler.{NodeHandler}
use Rattle.op_model.specs.declared.op.Call.{Call as NodeCall}
use Rattle.machine_nodes.specs.NodeSteps.{Takes, IsFirstTaking}
use Rattle.slot_names.specs.Variables.{AreReachedNodes}
use Rattle.points_to_rules.specs.Facts.{Holder, thrown_by}
use Rattle.points_to_rules.specs.Rules.{node_of, IsSlot, IsSlotAfter, IsSlotAt, Lands, caught, uncaught}
use Rattle.points_to_constraints.specs.CallItems.{LandsIn}
use Rattle.points_to_rules.specs.WholeMethods.{IsWholeMethod}
use Rattle.points_to_constraints.specs.Items.{CatchClause, CatchChain, CallSite}
use Rattle.points_to_constraints.specs.NodeItems.{IsCatchClause, IsCatchChain, IsUnitHolder, AreResults, IsCallSite}
use Rattle.points_to_constraints.proofs.Holders.{zip_made, same_holder, same_holder_at, holder_of, holder_at}

-- ---- catch chains

-- an object lands at the catch clause of the first handler that takes it
at_first_taking : (p : Program) (l : LoweredMethod) → AreReachedNodes l → (class : List ℕ) (outside to : Holder) (handlers : List NodeHandler) (catch_clauses : List CatchClause)
    → AllZip (IsCatchClause l) handlers catch_clauses → (handler : NodeHandler) → IsFirstTaking p class handlers handler → IsSlotAt l handler.target l.slots to → LandsIn p class catch_clauses outside to
at_first_taking p l reached class outside to [] catch_clauses all handler taking slot = absurd taking
at_first_taking p l reached class outside to (g ∷ handlers) [] all handler taking slot = absurd all
at_first_taking p l reached class outside to (g ∷ handlers) (a ∷ catch_clauses) all handler taking slot =
    let is : a.handler ≡ g = all.0.handler_is in
    elim taking [
      | inl here ↦
          let there = subst (λ (h : NodeHandler). IsSlotAt l h.target l.slots to) here.1 slot in
          inl (subst (λ (h : NodeHandler). Takes p h class) (sym is) here.0, same_holder_at l reached g.target l.slots to a.to there all.0.slot)
      | inr past ↦
          inr (λ takes. past.0 (subst (λ (h : NodeHandler). Takes p h class) is takes), at_first_taking p l reached class outside to handlers catch_clauses all.1 handler past.1 slot)
    ]

-- or outside, where none takes it
at_none_taking : (p : Program) (l : LoweredMethod) (class : List ℕ) (outside to : Holder) (handlers : List NodeHandler) (catch_clauses : List CatchClause)
    → AllZip (IsCatchClause l) handlers catch_clauses → ((handler : NodeHandler) → Contains handlers handler → Takes p handler class → ⊥) → to ≡ outside → LandsIn p class catch_clauses outside to
at_none_taking p l class outside to [] [] all none e = e
at_none_taking p l class outside to [] (a ∷ catch_clauses) all none e = absurd all
at_none_taking p l class outside to (g ∷ handlers) [] all none e = absurd all
at_none_taking p l class outside to (g ∷ handlers) (a ∷ catch_clauses) all none e = inr (
  λ takes. none g (contains_first g handlers) (subst (λ (h : NodeHandler). Takes p h class) all.0.handler_is takes),
  at_none_taking p l class outside to handlers catch_clauses all.1 (λ h there. none h (contains_later g h handlers there)) e,
)

pub lands_there : (p : Program) (m : MethodNo) (l : LoweredMethod) (n : Node) → AreReachedNodes l → (class : List ℕ) (to : Holder) (catch_chain : CatchChain) → IsCatchChain m l n catch_chain → Lands p m l n class to
    → LandsIn p class catch_chain.catch_clauses catch_chain.outside to
lands_there p m l n reached class to catch_chain is (caught handler taking slot) =
    at_first_taking p l reached class catch_chain.outside to n.handlers catch_chain.catch_clauses is.catch_clauses handler taking slot
lands_there p m l n reached class to catch_chain is (uncaught none e) = at_none_taking p l class catch_chain.outside to n.handlers catch_chain.catch_clauses is.catch_clauses none (e ∙ sym is.outside)

-- ---- what each node has

-- where exceptions of the node go, and the holders of a call there
pub record HasSite (m : MethodNo) (l : LoweredMethod) (n : Node) (c : NodeCall) : Type 0 where
  pub catch_chain : CatchChain
  pub is_catch_chain : IsCatchChain m l n catch_chain
  pub arguments : List (Option Holder)
  pub are_arguments : AllZip (IsUnitHolder l n) c.arguments arguments
  pub results : List Holder
  pub are_results : AreResults l n c.result results

abbrev pub site_at : (m : MethodNo) (l : LoweredMethod) (n : Node) (c : NodeCall) → HasSite m l n c → CallSite
site_at m l n c has = record { at = node_of m n; kind = c.kind; resolved = c.resolved; arguments = has.arguments; results = has.results; catch_chain = has.catch_chain }

pub is_site_at : (m : MethodNo) (l : LoweredMethod) (n : Node) (c : NodeCall) (has : HasSite m l n c) → IsCallSite m l n c (site_at m l n c has)
is_site_at m l n c has = record { at = refl; kind = refl; resolved = refl; arguments = has.are_arguments; results = has.are_results; catch_chain = has.is_catch_chain }

module _ {p : Program} (number : ℕ) (m : MethodNo) (l : LoweredMethod) (is_method : IsWholeMethod p number l) (n : Node) (here : Contains l.nodes n) where
  pub catch_chain_of : (catch_chain : CatchChain) × IsCatchChain m l n catch_chain
  catch_chain_of =
      let catch_clauses = zip_made (IsCatchClause l) n.handlers (λ handler there.
      let to = holder_at l is_method.reached handler.target l.slots (is_method.handlers n handler here there) in
      (record { handler = handler; to = to.0 }, record { handler_is = refl; slot = to.1 })) in
      (record { catch_clauses = catch_clauses.0; outside = thrown_by m }, record { catch_clauses = catch_clauses.1; outside = refl })

  unit_holder : (unit : Option ℕ) → (h : Option Holder) × IsUnitHolder l n unit h
  unit_holder None = (None, tt)
  unit_holder (Some z) = let h = holder_of l is_method.reached n here z in (Some h.0, h.1)

  results_of : (result : Option ℕ) → (results : List Holder) × AreResults l n result results
  results_of None = ([], refl)
  results_of (Some z) = zip_made (λ (offset : ℕ) (h : Holder). IsSlotAt l offset z h) n.successors (λ offset there. holder_at l is_method.reached offset z (is_method.successors n offset here there))

  pub site_of_call : (c : NodeCall) → HasSite m l n c
  site_of_call c =
      let arguments = zip_made (IsUnitHolder l n) c.arguments (λ unit there. unit_holder unit) in
      let results = results_of c.result in
      record { catch_chain = catch_chain_of.0; is_catch_chain = catch_chain_of.1; arguments = arguments.0; are_arguments = arguments.1; results = results.0; are_results = results.1 }

-- ---- its arguments and its results

some_unit : (l : LoweredMethod) → AreReachedNodes l → (n : Node) → Contains l.nodes n → (z : ℕ) (from : Holder) → IsSlot l n z from → (h : Option Holder) → IsUnitHolder l n (Some z) h → h ≡ Some from
some_unit l reached n here z from slot None is = absurd is
some_unit l reached n here z from slot (Some h) is = ap Some (same_holder l reached n here z h from is slot)

pub argument_there : (m : MethodNo) (l : LoweredMethod) → AreReachedNodes l → (n : Node) → Contains l.nodes n → (c : NodeCall) (has : HasSite m l n c) (unit z : ℕ) (from : Holder)
    → slice_get c.arguments unit ≡ Some (Some z) → IsSlot l n z from → slice_get has.arguments unit ≡ Some (Some from)
argument_there m l reached n here c has unit z from e slot =
    let h = zip_at (IsUnitHolder l n) c.arguments has.arguments unit (Some z) has.are_arguments e in
    h.1 ∙ ap Some (some_unit l reached n here z from slot h.0 h.2)

result_there : (l : LoweredMethod) → AreReachedNodes l → (n : Node) (z : ℕ) (to : Holder) → IsSlotAfter l n z to → (results : List Holder) → AreResults l n (Some z) results → Contains results to
result_there l reached n z to after results are =
    let at = place_of n.successors after.next.offset after.leads.goes in
    let h = zip_at (λ (offset : ℕ) (h : Holder). IsSlotAt l offset z h) n.successors results at.0 after.next.offset are at.1 in
    let there : IsSlotAt l after.next.offset z to = record { node = after.next; stands = after.stands; at = refl; slot = after.slot } in
    contains_at results at.0 to (h.1 ∙ ap Some (same_holder_at l reached after.next.offset z h.0 to h.2 there))

pub result_holder : (m : MethodNo) (l : LoweredMethod) → AreReachedNodes l → (n : Node) (c : NodeCall) (has : HasSite m l n c) (z : ℕ) (to : Holder) → c.result ≡ Some z → IsSlotAfter l n z to
    → Contains has.results to
result_holder m l reached n c has z to e after =
    result_there l reached n z to after has.results (subst (λ (result : Option ℕ). AreResults l n result has.results) e has.are_results)
