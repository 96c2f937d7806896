-- In a closed set in which the method of a call runs, each item of the call and of its targets is meant.
use Rattle.std.proofs.Common.{◌≡◌, ℕ, zero, suc, List, [], ◌∷◌, Some, Ok, slice_get, Contains, IsTrue, refl, sym, ◌∙◌, ap, subst}
use Rattle.std.proofs.lemmas.Option.{same_Some}
use Rattle.std.proofs.lemmas.Bool.{false≢true}
use Rattle.jvm_model.specs.declared.number.MethodNo.{MethodNo}
use Rattle.jvm_model.specs.declared.site.Site.{Site}
use Rattle.jvm_model.specs.declared.site.SiteKind.{SiteKind}
use Rattle.jvm_model.specs.declared.site.SiteKind.TheVariants as kinds
use Rattle.jvm_model.specs.declared.stub.StubArgument.{StubArgument}
use Rattle.jvm_model.specs.declared.stub.StubMethod.{StubMethod}
use Rattle.jvm_model.specs.Programs.{Program}
use Rattle.op_model.specs.declared.node.NodeRef.{NodeRef}
use Rattle.op_model.specs.declared.op.Call.{Call as NodeCall}
use Rattle.op_model.specs.declared.op.CallKind.{CallKind}
use Rattle.op_model.specs.declared.op.CallKind.TheVariants.{Virtual, Special, Static, Interface}
use Rattle.op_model.specs.declared.op.Op.TheVariants.{Call}
use Rattle.slot_names.specs.declared.variable.Variable.TheVariants.{Parameter}
use Rattle.points_to_rules.specs.Calls.{SelectsFor, MayPass, MayBeGiven, IsUnitOf}
use Rattle.points_to_rules.specs.Facts.{Holder, variable, kept_objects, returned_by, thrown_by, Fact, may_hold, may_run, may_call}
use Rattle.points_to_rules.specs.Rules.{node_of, site_of, IsArgument}
use Rattle.points_to_rules.specs.Rules as rules
use Rattle.points_to_constraints.specs.CallItems.{call_allocates, is_passed, GivesUnit, CallItem}
use Rattle.points_to_constraints.specs.CallItems as call_items
use Rattle.points_to_constraints.specs.Items.{CallSite, Constraint, copy_to, filter_to, rethrow_to, dispatch, Item, known, constrained}
use Rattle.points_to_constraints.specs.NodeItems.{IsCallSite, CallNodeItem}
use Rattle.points_to_constraints.specs.NodeItems as node_items
use Rattle.points_to_constraints.proofs.Meanings.{IsFact, IsSelected, IsConstrained, IsMeant, meant_as}
use Rattle.points_to_constraints.proofs.RunningNodes.{Running, of_node, of_one, of_two, argument_slot, HasArgumentSlot, result_slot, HasResultSlot, lands}

-- ---- the call of a site

-- The node is a call, and the site is that of the call.
pub record Calling (r : Running) (c : NodeCall) (site : CallSite) : Type 0 where
  pub is_call : r.node.op ≡ Call c
  pub is_site : IsCallSite r.method r.lowered r.node c site

-- what is so of the site's kind and method is so of the call's
of_call : (r : Running) (c : NodeCall) (site : CallSite) → Calling r c site → (F : CallKind → MethodNo → Type 0) → F site.kind site.resolved → F c.kind c.resolved
of_call r c site calling F h = subst (λ (k : CallKind). F k c.resolved) calling.is_site.kind (subst (λ (m : MethodNo). F site.kind m) calling.is_site.resolved h)

-- the slots of its arguments and of its result
argument_of : (r : Running) (c : NodeCall) (site : CallSite) → Calling r c site → (unit : ℕ) (from : Holder) → slice_get site.arguments unit ≡ Some (Some from)
    → HasArgumentSlot r.lowered r.node c.arguments unit from
argument_of r c site calling unit from passed = argument_slot r.lowered r.node c.arguments site.arguments unit from calling.is_site.arguments passed

result_of : (r : Running) (c : NodeCall) (site : CallSite) → Calling r c site → (to : Holder) → Contains site.results to → HasResultSlot r.lowered r.node c.result to
result_of r c site calling to there = result_slot r.lowered r.node c.result site.results to r.stands.stands calling.is_site.results there

-- an object that may be what the stub names is an argument
stub_argument : (r : Running) (c : NodeCall) (site : CallSite) → Calling r c site → (target : MethodNo) (stub : StubMethod) (argument : StubArgument) (unit : ℕ) (from : Holder) (s : Site)
    → IsUnitOf stub argument unit → slice_get site.arguments unit ≡ Some (Some from) → MayBeGiven site.kind r.program site.resolved s target unit
    → IsArgument r.program r.lowered r.node c target stub argument from s
stub_argument r c site calling target stub argument unit from s is_unit passed suits =
    let there = argument_of r c site calling unit from passed in
    record {
      unit = unit;
      is_unit = is_unit;
      z = there.z;
      passed = there.passed;
      slot = there.slot;
      suits = of_call r c site calling (λ (k : CallKind) (m : MethodNo). MayBeGiven k r.program m s target unit) suits;
    }

-- ---- objects that may be passed

-- an object by which the call does not select may be passed
passed_as : (kind : CallKind) (p : Program) (resolved : MethodNo) (s : Site) (target : MethodNo) (unit : ℕ) → IsTrue (is_passed kind unit) → MayPass kind p resolved s target unit
passed_as kind p resolved s target (suc unit) h = tt
passed_as Virtual p resolved s target zero h = absurd (false≢true h)
passed_as Special p resolved s target zero h = tt
passed_as Static p resolved s target zero h = tt
passed_as Interface p resolved s target zero h = absurd (false≢true h)

-- an object that selects the target may be passed to it, and may be given
selected_passed : (kind : CallKind) (p : Program) (resolved : MethodNo) (s : Site) (target : MethodNo) → SelectsFor kind p resolved s (Ok target.0) → MayPass kind p resolved s target 0
selected_passed Virtual p resolved s target h = h
selected_passed Special p resolved s target h = absurd h
selected_passed Static p resolved s target h = absurd h
selected_passed Interface p resolved s target h = h

selected_given : (kind : CallKind) (p : Program) (resolved : MethodNo) (s : Site) (target : MethodNo) → SelectsFor kind p resolved s (Ok target.0) → MayBeGiven kind p resolved s target 0
selected_given Virtual p resolved s target h = h
selected_given Special p resolved s target h = absurd h
selected_given Static p resolved s target h = absurd h
selected_given Interface p resolved s target h = h

-- what is done with a unit that a stub names, where the holder has each object that may be given
used_unit : (kind : CallKind) (p : Program) (resolved : MethodNo) (unit : ℕ) (to : Holder) (constraint : Constraint) (D : Fact → Type 0) (s : Site) (target : MethodNo)
    → GivesUnit kind p resolved unit to constraint → (MayBeGiven kind p resolved s target unit → D (may_hold to s)) → IsConstrained p D constraint s
used_unit kind p resolved (suc unit) to constraint D s target h f = subst (λ (u : Constraint). IsConstrained p D u s) (sym h) (f tt)
used_unit Virtual p resolved zero to constraint D s target h f = absurd h
used_unit Special p resolved zero to constraint D s target h f = subst (λ (u : Constraint). IsConstrained p D u s) (sym h.2) (λ fits. f (record { method = h.0; stands = h.1; fits = fits }))
used_unit Static p resolved zero to constraint D s target h f = subst (λ (u : Constraint). IsConstrained p D u s) (sym h) (f tt)
used_unit Interface p resolved zero to constraint D s target h f = absurd h

-- ---- what a call leads to by an object

-- the call of the target is a fact, and its method runs
is_called : (r : Running) (call : NodeRef) (target : MethodNo) → call ≡ node_of r.method r.node → r.set (may_call (node_of r.method r.node) target) → IsFact r.set (may_call call target)
is_called r call target same called = (
  subst (λ (n : NodeRef). r.set (may_call n target)) (sym same) called,
  λ m e. subst (λ (k : MethodNo). r.set (may_run k)) (same_Some r.method m (sym (ap (λ (n : NodeRef). n.method) same) ∙ e)) r.runs,
)

-- an object of the first argument selects the target, and what follows from that is so in the set
meant_selection : (r : Running) (c : NodeCall) (site : CallSite) → Calling r c site → (from : Holder) → slice_get site.arguments 0 ≡ Some (Some from) → (s : Site) → r.set (may_hold from s)
    → (target : MethodNo) → SelectsFor site.kind r.program site.resolved s (Ok target.0) → IsSelected r.program r.set site s target
meant_selection r c site calling from passed s held target selects =
    let m = r.method in
    let l = r.lowered in
    let n = r.node in
    let first = argument_of r c site calling 0 from passed in
    let call : Fact = may_call (node_of m n) target in
    let chosen = of_call r c site calling (λ (k : CallKind) (resolved : MethodNo). SelectsFor k r.program resolved s (Ok target.0)) selects in
    let called : r.set call = of_one r (may_hold from s) call (rules.call_selected m l n c first.z from s target r.stands calling.is_call first.passed first.slot chosen) held in
    let named : (stub : StubMethod) (argument : StubArgument) → IsUnitOf stub argument 0 → IsArgument r.program l n c target stub argument from s =
    λ stub argument is_unit. stub_argument r c site calling target stub argument 0 from s is_unit passed (selected_given site.kind r.program site.resolved s target selects) in
    record {
      called = is_called r site.at target calling.is_site.at called;
      received = of_two r call (may_hold from s) (may_hold (variable (Parameter target 0)) s)
          (rules.pass m l n c target 0 first.z from s r.stands calling.is_call first.passed first.slot (selected_passed c.kind r.program c.resolved s target chosen)) called held;
      kept = λ stub argument described keeps is_unit. of_two r call (may_hold from s) (may_hold kept_objects s)
          (rules.keep_argument m l n c target stub argument from s r.stands calling.is_call described keeps (named stub argument is_unit)) called held;
      given = λ stub argument to described returns is_unit there.
          let result = result_of r c site calling to there in
          of_two r call (may_hold from s) (may_hold to s)
          (rules.give_argument m l n c target stub argument from s result.z to r.stands calling.is_call described returns (named stub argument is_unit) result.is result.slot) called held;
    }

-- what a node that is a call leads to is meant
pub meant_call_node : (r : Running) (c : NodeCall) → r.node.op ≡ Call c → (x : Item) → CallNodeItem r.method r.lowered r.node c x → IsMeant r.program r.set x
meant_call_node r c op x (node_items.chosen target chosen is) =
    let call : Fact = may_call (node_of r.method r.node) target in
    meant_as r.program r.set x (known call) is
    (is_called r (node_of r.method r.node) target refl (of_node r call (rules.call_chosen r.method r.lowered r.node c target r.stands op chosen)))
meant_call_node r c op x (node_items.selecting site from selecting is_site passed is) = meant_as r.program r.set x (constrained from (dispatch site)) is
    (meant_selection r c site (record { is_call = op; is_site = is_site }) from passed)

-- ---- what a call of a target leads to

-- The call of the target by the node.
abbrev call_of : Running → MethodNo → Fact
call_of r target = may_call (node_of r.method r.node) target

-- What a node allocates.
abbrev allocated : SiteKind → NodeRef → List ℕ → Site
allocated kind node class = record { kind = kind; method = node.method; offset = node.offset; class = class }

-- what the call allocates is what the node allocates
own_site : (r : Running) (c : NodeCall) (site : CallSite) → Calling r c site → (kind : SiteKind) (class : List ℕ) → call_allocates kind site class ≡ site_of kind r.method r.node class
own_site r c site calling kind class = ap (λ (n : NodeRef). allocated kind n class) calling.is_site.at

-- so a holder that has the one has the other
holds_own : (r : Running) (c : NodeCall) (site : CallSite) → Calling r c site → (kind : SiteKind) (class : List ℕ) (to : Holder)
    → r.set (may_hold to (site_of kind r.method r.node class)) → r.set (may_hold to (call_allocates kind site class))
holds_own r c site calling kind class to held = subst (λ (s : Site). r.set (may_hold to s)) (sym (own_site r c site calling kind class)) held

-- what the call of a target leads to is meant
pub meant_call : (r : Running) (c : NodeCall) (site : CallSite) → Calling r c site → (target : MethodNo) → r.set (call_of r target) → (x : Item)
    → CallItem r.program site target x → IsMeant r.program r.set x
meant_call r c site calling target called x (call_items.runs is) = meant_as r.program r.set x (known (may_run target)) is
    (r.closed (call_of r target ∷ []) (may_run target) (rules.target_runs (node_of r.method r.node) target) (called, tt))
meant_call r c site calling target called x (call_items.pass unit from passed plain is) =
    let there = argument_of r c site calling unit from passed in
    meant_as r.program r.set x (constrained from (copy_to (variable (Parameter target unit)))) is
    (λ s. of_two r (call_of r target) (may_hold from s) (may_hold (variable (Parameter target unit)) s)
    (rules.pass r.method r.lowered r.node c target unit there.z from s r.stands calling.is_call there.passed there.slot
    (of_call r c site calling (λ (k : CallKind) (m : MethodNo). MayPass k r.program m s target unit) (passed_as site.kind r.program site.resolved s target unit plain))) called)
meant_call r c site calling target called x (call_items.receive to of_file there is) =
    let result = result_of r c site calling to there in
    meant_as r.program r.set x (constrained (returned_by target) (copy_to to)) is
    (λ s. of_two r (call_of r target) (may_hold (returned_by target) s) (may_hold to s)
    (rules.receive r.method r.lowered r.node c target result.z to s r.stands calling.is_call result.is of_file result.slot) called)
meant_call r c site calling target called x (call_items.target_throws of_file is) = meant_as r.program r.set x (constrained (thrown_by target) (rethrow_to site.catch_chain)) is
    (λ s held to there. of_two r (call_of r target) (may_hold (thrown_by target) s) (may_hold to s)
    (rules.target_throws r.method r.lowered r.node c target to s r.stands calling.is_call of_file
    (lands r.program r.method r.lowered r.node site.catch_chain s.class to calling.is_site.catch_chain there)) called held)
meant_call r c site calling target called x (call_items.keep_argument stub argument unit from constraint described keeps named gives is) = meant_as r.program r.set x (constrained from constraint) is
    (λ s held. used_unit site.kind r.program site.resolved unit kept_objects constraint r.set s target gives (λ suits.
    of_two r (call_of r target) (may_hold from s) (may_hold kept_objects s)
    (rules.keep_argument r.method r.lowered r.node c target stub argument from s r.stands calling.is_call described keeps
    (stub_argument r c site calling target stub argument unit from s named.is_unit named.passed suits)) called held))
meant_call r c site calling target called x (call_items.give_argument stub argument unit from to constraint described returns named there gives is) =
    let result = result_of r c site calling to there in
    meant_as r.program r.set x (constrained from constraint) is
    (λ s held. used_unit site.kind r.program site.resolved unit to constraint r.set s target gives (λ suits.
    of_two r (call_of r target) (may_hold from s) (may_hold to s)
    (rules.give_argument r.method r.lowered r.node c target stub argument from s result.z to r.stands calling.is_call described returns
    (stub_argument r c site calling target stub argument unit from s named.is_unit named.passed suits) result.is result.slot) called held))
meant_call r c site calling target called x (call_items.give_new stub class to described returns there is) =
    let result = result_of r c site calling to there in
    meant_as r.program r.set x (known (may_hold to (call_allocates kinds.Result site class))) is
    (holds_own r c site calling kinds.Result class to (of_one r (call_of r target) (may_hold to (site_of kinds.Result r.method r.node class))
    (rules.give_new r.method r.lowered r.node c target stub class result.z to r.stands calling.is_call described returns result.is result.slot) called))
meant_call r c site calling target called x (call_items.give_kept stub class to described returns class_is there is) =
    let result = result_of r c site calling to there in
    meant_as r.program r.set x (constrained kept_objects (filter_to class to)) is
    (λ s held fits. of_two r (call_of r target) (may_hold kept_objects s) (may_hold to s)
    (rules.give_kept r.method r.lowered r.node c target stub class s result.z to r.stands calling.is_call described returns class_is fits result.is result.slot) called held)
meant_call r c site calling target called x (call_items.described_throws stub class to described throws there is) =
    meant_as r.program r.set x (known (may_hold to (call_allocates kinds.Thrown site class))) is
    (holds_own r c site calling kinds.Thrown class to (of_one r (call_of r target) (may_hold to (site_of kinds.Thrown r.method r.node class))
    (rules.described_throws r.method r.lowered r.node c target stub class to r.stands calling.is_call described throws
    (lands r.program r.method r.lowered r.node site.catch_chain class to calling.is_site.catch_chain there)) called))
