-- Nodes of methods that run in a closed set: what their holders are to the rules.
use Rattle.std.proofs.Common.{◌≡◌, inl, inr, ℕ, zero, suc, List, [], ◌∷◌, Option, Some, None, slice_get, Contains, refl, sym, ◌∙◌, subst}
use Rattle.std.specs.List.{AllZip}
use Rattle.std.proofs.lemmas.Option.{none-some, same_Some}
use Rattle.list_laws.proofs.Members.{contains_cases, contains_first, contains_later, contains_none}
use Rattle.jvm_model.specs.declared.number.MethodNo.{MethodNo}
use Rattle.jvm_model.specs.Programs.{Program}
use Rattle.op_model.specs.declared.lowered.LoweredMethod.{LoweredMethod}
use Rattle.op_model.specs.declared.node.Node.{Node}
use Rattle.op_model.specs.declared.node.NodeHandler.{NodeHandler}
use Rattle.op_model.specs.Supplies.{GivenAs}
use Rattle.machine_nodes.specs.NodeSteps.{Takes, IsFirstTaking}
use Rattle.least_sets.specs.Rules.{IsClosedSet}
use Rattle.points_to_rules.specs.Facts.{Holder, Fact, may_run}
use Rattle.points_to_rules.specs.Rules.{IsNodeOf, IsSlot, IsSlotAfter, IsSlotAt, Lands, caught, uncaught, Instance}
use Rattle.points_to_constraints.specs.CallItems.{LandsIn}
use Rattle.points_to_constraints.specs.Items.{CatchClause, CatchChain}
use Rattle.points_to_constraints.specs.NodeItems.{IsSlotMerged, IsCatchClause, IsCatchChain, IsUnitHolder, AreResults}

-- A set that is closed under the rules, and a node of a method that runs in it.
pub record Running : Type 1 where
  pub program : Program
  pub gives : GivenAs
  pub entry : MethodNo
  pub set : Fact → Type 0
  pub closed : IsClosedSet (Instance program gives entry) set
  pub method : MethodNo
  pub lowered : LoweredMethod
  pub node : Node
  pub stands : IsNodeOf gives method lowered node
  pub runs : set (may_run method)

-- ---- rules of the node

-- what a rule concludes from the node alone
pub of_node : (r : Running) (fact : Fact) → Instance r.program r.gives r.entry (may_run r.method ∷ []) fact → r.set fact
of_node r fact i = r.closed (may_run r.method ∷ []) fact i (r.runs, tt)

-- and from one fact more
pub of_one : (r : Running) (one fact : Fact) → Instance r.program r.gives r.entry (may_run r.method ∷ one ∷ []) fact → r.set one → r.set fact
of_one r one fact i first = r.closed (may_run r.method ∷ one ∷ []) fact i (r.runs, (first, tt))

-- and from two
pub of_two : (r : Running) (one two fact : Fact) → Instance r.program r.gives r.entry (may_run r.method ∷ one ∷ two ∷ []) fact → r.set one → r.set two → r.set fact
of_two r one two fact i first second = r.closed (may_run r.method ∷ one ∷ two ∷ []) fact i (r.runs, (first, (second, tt)))

-- ---- slots

-- a slot at a merge point to which the node leads is one after it
pub slot_after : (l : LoweredMethod) (n : Node) (z : ℕ) (h : Holder) → IsSlotMerged l n z h → IsSlotAfter l n z h
slot_after l n z h merged = record { next = merged.next; stands = merged.stands; leads = merged.leads; slot = merged.slot }

-- a slot at an offset where the node goes on
slot_at_successor : (l : LoweredMethod) (n : Node) (offset z : ℕ) (h : Holder) → Contains l.nodes n → Contains n.successors offset → IsSlotAt l offset z h → IsSlotAfter l n z h
slot_at_successor l n offset z h stands goes slot = record {
  next = slot.node;
  stands = slot.stands;
  leads = record { stands = stands; goes = subst (λ (o : ℕ). Contains n.successors o) (sym slot.at) goes };
  slot = slot.slot;
}

-- ---- arguments and results of calls

-- The slot that a holder of an argument is.
pub record HasArgumentSlot (l : LoweredMethod) (n : Node) (arguments : List (Option ℕ)) (unit : ℕ) (from : Holder) : Type 0 where
  pub z : ℕ
  pub passed : slice_get arguments unit ≡ Some (Some z)
  pub slot : IsSlot l n z from

-- the first unit
own_unit : (l : LoweredMethod) (n : Node) (slot : Option ℕ) (slots : List (Option ℕ)) (holder : Option Holder) (from : Holder) → IsUnitHolder l n slot holder → holder ≡ Some from
    → HasArgumentSlot l n (slot ∷ slots) 0 from
own_unit l n None slots None from h e = absurd (none-some from e)
own_unit l n None slots (Some holder) from h e = absurd h
own_unit l n (Some z) slots None from h e = absurd h
own_unit l n (Some z) slots (Some holder) from h e = record { z = z; passed = refl; slot = subst (λ (k : Holder). IsSlot l n z k) (same_Some holder from e) h }

-- what is passed as a unit is what a slot holds
pub argument_slot : (l : LoweredMethod) (n : Node) (slots : List (Option ℕ)) (holders : List (Option Holder)) (unit : ℕ) (from : Holder) → AllZip (IsUnitHolder l n) slots holders
    → slice_get holders unit ≡ Some (Some from) → HasArgumentSlot l n slots unit from
argument_slot l n [] [] unit from all e = absurd (none-some (Some from) e)
argument_slot l n [] (holder ∷ holders) unit from all e = absurd all
argument_slot l n (slot ∷ slots) [] unit from all e = absurd all
argument_slot l n (slot ∷ slots) (holder ∷ holders) zero from all e = own_unit l n slot slots holder from all.0 (same_Some holder (Some from) e)
argument_slot l n (slot ∷ slots) (holder ∷ holders) (suc unit) from all e =
    let rest = argument_slot l n slots holders unit from all.1 e in
    record { z = rest.z; passed = rest.passed; slot = rest.slot }

-- The slot that a holder of a result is.
pub record HasResultSlot (l : LoweredMethod) (n : Node) (result : Option ℕ) (to : Holder) : Type 0 where
  pub z : ℕ
  pub is : result ≡ Some z
  pub slot : IsSlotAfter l n z to

-- what stands among the holders for the offsets is a slot after the node
successor_slot : (l : LoweredMethod) (n : Node) (z : ℕ) (offsets : List ℕ) (holders : List Holder) (to : Holder) → Contains l.nodes n
    → ((offset : ℕ) → Contains offsets offset → Contains n.successors offset) → AllZip (λ (offset : ℕ) (h : Holder). IsSlotAt l offset z h) offsets holders
    → Contains holders to → IsSlotAfter l n z to
successor_slot l n z [] [] to stands goes all there = absurd (contains_none to there)
successor_slot l n z [] (h ∷ holders) to stands goes all there = absurd all
successor_slot l n z (offset ∷ offsets) [] to stands goes all there = absurd all
successor_slot l n z (offset ∷ offsets) (h ∷ holders) to stands goes all there = elim (contains_cases h to holders there) [
  | inl here ↦ slot_at_successor l n offset z to stands (goes offset (contains_first offset offsets)) (subst (λ (k : Holder). IsSlotAt l offset z k) here all.0)
  | inr more ↦ successor_slot l n z offsets holders to stands (λ o c. goes o (contains_later offset o offsets c)) all.1 more
]

-- what the result of a call holds is what a slot holds after the node
pub result_slot : (l : LoweredMethod) (n : Node) (result : Option ℕ) (holders : List Holder) (to : Holder) → Contains l.nodes n → AreResults l n result holders
    → Contains holders to → HasResultSlot l n result to
result_slot l n None holders to stands are there = absurd (contains_none to (subst (λ (hs : List Holder). Contains hs to) are there))
result_slot l n (Some z) holders to stands are there = record { z = z; is = refl; slot = successor_slot l n z n.successors holders to stands (λ o c. c) are there }

-- ---- catch chains

-- Where an object lands among handlers: at the first that takes it, or outside, where none does.
data LandsAmong (p : Program) (l : LoweredMethod) (class : List ℕ) (handlers : List NodeHandler) (outside to : Holder) : Type 0 where
  inside : (handler : NodeHandler) → IsFirstTaking p class handlers handler → IsSlotAt l handler.target l.slots to → LandsAmong p l class handlers outside to
  beyond : ((handler : NodeHandler) → Contains handlers handler → Takes p handler class → ⊥) → to ≡ outside → LandsAmong p l class handlers outside to

-- it is one handler further where the first does not take it
lands_further : (p : Program) (l : LoweredMethod) (class : List ℕ) (handler : NodeHandler) (handlers : List NodeHandler) (outside to : Holder) → (Takes p handler class → ⊥)
    → LandsAmong p l class handlers outside to → LandsAmong p l class (handler ∷ handlers) outside to
lands_further p l class handler handlers outside to free (inside h is_first slot) = inside h (inr (free, is_first)) slot
lands_further p l class handler handlers outside to free (beyond none is) = beyond (λ h there takes. elim (contains_cases handler h handlers there) [
  | inl here ↦ free (subst (λ (k : NodeHandler). Takes p k class) (sym here) takes)
  | inr more ↦ none h more takes
]) is

lands_among : (p : Program) (l : LoweredMethod) (class : List ℕ) (handlers : List NodeHandler) (catch_clauses : List CatchClause) (outside to : Holder) → AllZip (IsCatchClause l) handlers catch_clauses
    → LandsIn p class catch_clauses outside to → LandsAmong p l class handlers outside to
lands_among p l class [] [] outside to all is = beyond (λ h there takes. contains_none h there) is
lands_among p l class [] (catch_clause ∷ catch_clauses) outside to all is = absurd all
lands_among p l class (handler ∷ handlers) [] outside to all is = absurd all
lands_among p l class (handler ∷ handlers) (catch_clause ∷ catch_clauses) outside to all (inl here) =
    let catch_clause_of = all.0 in
    inside handler (inl (subst (λ (h : NodeHandler). Takes p h class) catch_clause_of.handler_is here.0, refl)) (subst (λ (h : Holder). IsSlotAt l handler.target l.slots h) (sym here.1) catch_clause_of.slot)
lands_among p l class (handler ∷ handlers) (catch_clause ∷ catch_clauses) outside to all (inr more) =
    let catch_clause_of = all.0 in
    lands_further p l class handler handlers outside to (λ takes. more.0 (subst (λ (h : NodeHandler). Takes p h class) (sym catch_clause_of.handler_is) takes))
    (lands_among p l class handlers catch_clauses outside to all.1 more.1)

-- where it lands by the catch clauses, it lands by the handlers
pub lands : (p : Program) (m : MethodNo) (l : LoweredMethod) (n : Node) (catch_chain : CatchChain) (class : List ℕ) (to : Holder) → IsCatchChain m l n catch_chain
    → LandsIn p class catch_chain.catch_clauses catch_chain.outside to → Lands p m l n class to
lands p m l n catch_chain class to is there = by (lands_among p l class n.handlers catch_chain.catch_clauses catch_chain.outside to is.catch_clauses there)
  where
    by : LandsAmong p l class n.handlers catch_chain.outside to → Lands p m l n class to
    by (inside handler is_first slot) = caught handler is_first slot
    by (beyond none same) = uncaught none (same ∙ is.outside)
