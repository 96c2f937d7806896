-- Public contracts rest on this module.
-- The laws of a stage: for what each fact says of an object before a step, some result of the transfer says what holds of it after the step. Which
-- result that is goes by a relation; a fact without an object stays, unless an object of the site is made.
use Rattle.std.specs.Prelude.{true, false, ◌≡◌, ◌≢◌, ℕ, List, Option, Some, None, slice_get, slice_index, Contains}
use Rattle.jvm_model.specs.declared.automaton.Event.{Event}
use Rattle.jvm_model.specs.declared.number.MethodNo.{MethodNo}
use Rattle.jvm_model.specs.declared.site.Site.{Site}
use Rattle.op_model.specs.declared.lowered.LoweredMethod.{LoweredMethod}
use Rattle.op_model.specs.declared.node.Node.{Node}
use Rattle.op_model.specs.declared.op.Call.{Call as NodeCall}
use Rattle.op_model.specs.declared.op.Op.{Op}
use Rattle.op_model.specs.declared.op.Op.TheVariants.{Assign, Load, Store, LoadElement, StoreElement, LoadStatic, StoreStatic, New, NewArray, Constant, Call, Return, Throw, Cast, Probe}
use Rattle.machine_bytecode.specs.Objects.{Subject}
use Rattle.slot_names.specs.Variables.{AreReachedNodes}
use Rattle.points_to_rules.specs.Facts.{Fact, Holder, may_hold}
use Rattle.points_to_rules.specs.Rules.{IsSlot}
use Rattle.access_paths.specs.declared.root.Root.TheVariants.{Slot}
use Rattle.access_paths.specs.Paths.{Path, bare}
use Rattle.stage_facts.specs.Facts.{Tuple, SiteFact, none_yet, some_yet, of_object}
use Rattle.stage_transfer.specs.Calls.{Entering, Result, a_new_object, event_of_call}
use Rattle.stage_transfer.specs.Exceptions.{thrown_slot}
use Rattle.stage_transfer.specs.Stages.{Transfer}
use Rattle.stage_relations.specs.Roots.{HasVariables, Doubles, Entered, Exited, Raised, Answered, HandedOn, IsDropped, StaysIn, Received}
use Rattle.stage_relations.specs.Relations.{NoPath, Reroots, PutsAway, Flows, IsBorn, IsNewResult, Notes, Joins}

abbrev pub IsIdle : SiteFact → Type 0
IsIdle none_yet = Unit {0}
IsIdle some_yet = Unit {0}
IsIdle (of_object t) = ⊥

-- An operation that is no call, return or throw.
abbrev pub IsPlain : Op → Type 0
IsPlain (Assign moves) = Unit {0}
IsPlain (Load object field target) = Unit {0}
IsPlain (Store object field value) = Unit {0}
IsPlain (LoadElement array target) = Unit {0}
IsPlain (StoreElement array value) = Unit {0}
IsPlain (LoadStatic field target) = Unit {0}
IsPlain (StoreStatic field value) = Unit {0}
IsPlain (New site target) = Unit {0}
IsPlain (NewArray sites target) = Unit {0}
IsPlain (Constant site target) = Unit {0}
IsPlain (Call call) = ⊥
IsPlain (Return value) = ⊥
IsPlain (Throw value) = ⊥
IsPlain (Cast class z) = Unit {0}
IsPlain (Probe z) = Unit {0}

-- Some of the facts is a tuple that is so related.
pub record Meets (IsRelated : Tuple → Type 0) (facts : List SiteFact) : Type 0 where
  pub tuple : Tuple
  pub listed : Contains facts (of_object tuple)
  pub related : IsRelated tuple

-- The fact is such a tuple.
pub record IsOne (IsRelated : Tuple → Type 0) (fact : SiteFact) : Type 0 where
  pub tuple : Tuple
  pub is : fact ≡ of_object tuple
  pub related : IsRelated tuple

-- The slot's variable may hold objects of the site; it can hold no others.
abbrev pub MayHold : (Fact → Type 0) → LoweredMethod → Node → ℕ → Site → Type 0
MayHold S l n z s = (h : Holder) → IsSlot l n z h → S (may_hold h s)

abbrev pub HoldsNoOther : (Fact → Type 0) → LoweredMethod → Node → ℕ → Site → Type 0
HoldsNoOther S l n z s = (h : Holder) → IsSlot l n z h → (other : Site) → S (may_hold h other) → other ≡ s

-- The laws of a stage for the objects of a site, over facts of the points-to analysis.
pub record IsStage (x : Subject) (S : Fact → Type 0) (s : Site) (t : Transfer) : Type 0 where
  -- On the way to a successor.
  pub next : (l : LoweredMethod) (n : Node) (u : Tuple) → HasVariables l n → IsPlain n.op
      → Meets (λ v. Flows l n n.op u v × ((target : ℕ) → n.op ≡ New s target → v.unique ≡ false)) (t.next l n (of_object u))
  pub next_idle : (l : LoweredMethod) (n : Node) (f : SiteFact) → IsIdle f → ((value : ℕ) → n.op ≢ Throw value) → ((target : ℕ) → n.op ≢ New s target)
      → Contains (t.next l n f) f
  pub next_some : (l : LoweredMethod) (n : Node) (f : SiteFact) (target : ℕ) → IsIdle f → n.op ≡ New s target → Contains (t.next l n f) some_yet
  pub next_first : (l : LoweredMethod) (n : Node) (target : ℕ) → n.op ≡ New s target → Meets (IsBorn (Some target) true x.property.initial) (t.next l n none_yet)
  pub next_further : (l : LoweredMethod) (n : Node) (target : ℕ) → n.op ≡ New s target → Meets (IsBorn (Some target) false x.property.initial) (t.next l n some_yet)
  -- Out of a method that returns, and on after a call.
  pub return : (l : LoweredMethod) (n : Node) (value : Option ℕ) (u : Tuple) → n.op ≡ Return value
      → Meets (Reroots (Exited value) (Exited value) NoPath u) (t.next l n (of_object u))
  pub receive : (l : LoweredMethod) (n : Node) (c : NodeCall) (u : Tuple) → HasVariables l n → n.op ≡ Call c
      → Meets (Reroots (Received c) (Doubles l n (Received c)) NoPath u) (t.next l n (of_object u))
  -- Where an object is thrown.
  pub raise : (l : LoweredMethod) (n : Node) (handler : Option ℕ) (u : Tuple) → HasVariables l n
      → Meets (Reroots (Raised (thrown_slot n.op) handler l.slots) (Doubles l n (Raised (thrown_slot n.op) handler l.slots)) NoPath u) (t.raise l n handler (of_object u))
  pub raise_idle : (l : LoweredMethod) (n : Node) (handler : Option ℕ) (f : SiteFact) → IsIdle f → Contains (t.raise l n handler f) f
  -- At a call: it is no event; or an event of the object, or of another one.
  pub event_idle : (l : LoweredMethod) (n : Node) (c : NodeCall) (f : SiteFact) → IsIdle f → Contains (t.event l n c f) f
  pub event_none : (l : LoweredMethod) (n : Node) (c : NodeCall) (u : Tuple) → event_of_call x.property c ≡ None
      → Meets (λ v. (z : ℕ) → Notes l n z false u.state u v) (t.event l n c (of_object u))
  pub event_its : (l : LoweredMethod) (n : Node) (c : NodeCall) (e : Event) (z : ℕ) (u : Tuple) → AreReachedNodes l → Contains l.nodes n
      → event_of_call x.property c ≡ Some e → slice_get c.arguments 0 ≡ Some (Some z) → MayHold S l n z s → (Contains u.must_not (bare (Slot z)) → ⊥)
      → (u.may ≡ false → Contains u.must (bare (Slot z))) → Meets (Notes l n z true (slice_index e.next u.state) u) (t.event l n c (of_object u))
  pub event_other : (l : LoweredMethod) (n : Node) (c : NodeCall) (e : Event) (z : ℕ) (u : Tuple) → AreReachedNodes l → Contains l.nodes n
      → event_of_call x.property c ≡ Some e → slice_get c.arguments 0 ≡ Some (Some z) → (Contains u.must (bare (Slot z)) → ⊥)
      → (u.unique ≡ true → HoldsNoOther S l n z s → ⊥) → Meets (Notes l n z false u.state u) (t.event l n c (of_object u))
  -- After a described method, which keeps the objects in some slots, and gives a result or throws.
  pub answer : (l : LoweredMethod) (n : Node) (c : NodeCall) (kept : List ℕ) (result : Result) (u : Tuple) → HasVariables l n
      → Meets (λ v. Reroots (Answered c result) (Doubles l n (Answered c result)) (IsNewResult c result) u v × PutsAway kept u v
      × (result ≡ a_new_object s → v.unique ≡ false)) (t.answer l n c kept result (of_object u))
  pub answer_idle : (l : LoweredMethod) (n : Node) (c : NodeCall) (kept : List ℕ) (result : Result) (f : SiteFact) → IsIdle f → result ≢ a_new_object s
      → Contains (t.answer l n c kept result f) f
  pub answer_some : (l : LoweredMethod) (n : Node) (c : NodeCall) (kept : List ℕ) (f : SiteFact) → IsIdle f → Contains (t.answer l n c kept (a_new_object s) f) some_yet
  pub answer_first : (l : LoweredMethod) (n : Node) (c : NodeCall) (kept : List ℕ)
      → Meets (IsBorn c.result true x.property.initial) (t.answer l n c kept (a_new_object s) none_yet)
  pub answer_further : (l : LoweredMethod) (n : Node) (c : NodeCall) (kept : List ℕ)
      → Meets (IsBorn c.result false x.property.initial) (t.answer l n c kept (a_new_object s) some_yet)
  pub exception : (l : LoweredMethod) (n : Node) (c : NodeCall) (kept : List ℕ) (handler : Option ℕ) (u : Tuple) → HasVariables l n → n.op ≡ Call c
      → Meets (λ v. Reroots (Raised None handler l.slots) (Doubles l n (Raised None handler l.slots)) NoPath u v × PutsAway kept u v)
      (t.exception l n kept handler (of_object u))
  pub exception_idle : (l : LoweredMethod) (n : Node) (kept : List ℕ) (handler : Option ℕ) (f : SiteFact) → IsIdle f → Contains (t.exception l n kept handler f) f
  -- Into a method, and back in the frame that waited.
  pub enter : (by : Entering) (u : Tuple) → IsOne (Reroots (Entered by) (Entered by) NoPath u) (t.enter by (of_object u))
  pub enter_idle : (by : Entering) (f : SiteFact) → IsIdle f → t.enter by f ≡ f
  pub leave : (l : LoweredMethod) (n : Node) (by : Entering) (target : MethodNo) (sent : SiteFact) (out : Tuple)
      → IsOne (Joins S target (HandedOn by) (StaysIn by) (IsDropped by) sent out) (t.leave l n by target sent (of_object out))
  pub leave_idle : (l : LoweredMethod) (n : Node) (by : Entering) (target : MethodNo) (sent f : SiteFact) → IsIdle f → t.leave l n by target sent f ≡ f
