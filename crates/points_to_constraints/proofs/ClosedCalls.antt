-- Facts that follow from calls: where the items are closed by the rules of items, they have them.
use Rattle.std.proofs.Common.{◌≡◌, ◌⊎◌, inl, inr, ℕ, zero, suc, true, List, Some, Ok, slice_get, Contains, IsTrue, refl, sym, subst}
use Rattle.jvm_model.specs.declared.number.MethodNo.{MethodNo}
use Rattle.jvm_model.specs.declared.site.Site.{Site}
use Rattle.jvm_model.specs.declared.site.SiteKind.TheVariants as kinds
use Rattle.jvm_model.specs.declared.stub.StubArgument.{StubArgument}
use Rattle.jvm_model.specs.declared.stub.StubMethod.{StubMethod}
use Rattle.jvm_model.specs.declared.stub.StubResult.TheVariants as stub_results
use Rattle.jvm_model.specs.Programs.{Program}
use Rattle.jvm_model.specs.Stubs.{result_class}
use Rattle.jvm_model.specs.Subtypes.{Fits}
use Rattle.op_model.specs.declared.lowered.LoweredMethod.{LoweredMethod}
use Rattle.op_model.specs.declared.node.Node.{Node}
use Rattle.op_model.specs.declared.node.NodeRef.{NodeRef}
use Rattle.op_model.specs.declared.op.Call.{Call as NodeCall}
use Rattle.op_model.specs.declared.op.CallKind.{CallKind}
use Rattle.op_model.specs.declared.op.CallKind.TheVariants.{Virtual, Special, Static, Interface}
use Rattle.op_model.specs.declared.op.Op.TheVariants.{Call}
use Rattle.op_model.specs.Supplies.{GivenAs}
use Rattle.machine_nodes.specs.NodeSteps.{is_selecting_kind}
use Rattle.slot_names.specs.declared.variable.Variable.TheVariants.{Parameter}
use Rattle.points_to_rules.specs.Calls.{SelectsFor, MayPass, MayBeGiven, IsOfFile, IsDescribedBy, IsUnitOf}
use Rattle.points_to_rules.specs.Facts.{Holder, variable, kept_objects, returned_by, thrown_by, may_hold, may_run, may_call}
use Rattle.points_to_rules.specs.Rules.{node_of, site_of, IsSlot, IsSlotAfter, Lands, IsArgument}
use Rattle.points_to_constraints.specs.CallItems.{is_passed, GivesUnit, IsStubUnit, runs, pass, receive, target_throws, keep_argument, give_argument, give_new, give_kept, described_throws, SelectItem, called, received, kept, given}
use Rattle.points_to_constraints.specs.ItemRules.{Passed, entry_runs}
use Rattle.points_to_constraints.specs.Items.{CallSite, Constraint, copy_to, filter_to, rethrow_to, dispatch, Item, known, constrained}
use Rattle.points_to_constraints.specs.NodeItems.{chosen, selecting}
use Rattle.points_to_constraints.proofs.CalledNodes.{IsCallOf, from_start, from_call}
use Rattle.points_to_constraints.proofs.CallSites.{site_at, is_site_at, argument_there, result_holder, lands_there}
use Rattle.points_to_constraints.proofs.Closing.{IsClosing, IsRunning, by_start, by_constraint, passes, all_reached, parts_at, by_call, by_operation}

-- ---- units of arguments

-- the object of the first unit selects the target
record IsSelecting (kind : CallKind) (p : Program) (resolved : MethodNo) (s : Site) (target : MethodNo) (unit : ℕ) : Type 0 where
  first : unit ≡ 0
  selects : SelectsFor kind p resolved s (Ok target.0)

-- a unit is passed as it is, or it selects
passed_as : (kind : CallKind) (p : Program) (resolved : MethodNo) (s : Site) (target : MethodNo) (unit : ℕ) → MayPass kind p resolved s target unit
    → IsTrue (is_passed kind unit) ⊎ IsSelecting kind p resolved s target unit
passed_as kind p resolved s target (suc unit) may = inl refl
passed_as Virtual p resolved s target zero may = inr (record { first = refl; selects = may })
passed_as Special p resolved s target zero may = inl refl
passed_as Static p resolved s target zero may = inl refl
passed_as Interface p resolved s target zero may = inr (record { first = refl; selects = may })

-- a constraint hands the object of a unit on to a holder
record IsHandedTo (kind : CallKind) (p : Program) (resolved : MethodNo) (unit : ℕ) (to : Holder) (s : Site) : Type 0 where
  constraint : Constraint
  gives_unit : GivesUnit kind p resolved unit to constraint
  passed : Passed p constraint s (known (may_hold to s))

handed_as : (kind : CallKind) (p : Program) (resolved : MethodNo) (s : Site) (target : MethodNo) (unit : ℕ) (to : Holder) → MayBeGiven kind p resolved s target unit
    → IsHandedTo kind p resolved unit to s ⊎ IsSelecting kind p resolved s target unit
handed_as kind p resolved s target (suc unit) to may = inl (record { constraint = copy_to to; gives_unit = refl; passed = refl })
handed_as Virtual p resolved s target zero to may = inr (record { first = refl; selects = may })
handed_as Special p resolved s target zero to may =
    inl (record { constraint = filter_to may.method.class to; gives_unit = (may.method, may.stands, refl); passed = (may.fits, refl) })
handed_as Static p resolved s target zero to may = inl (record { constraint = copy_to to; gives_unit = refl; passed = refl })
handed_as Interface p resolved s target zero to may = inr (record { first = refl; selects = may })

selecting_kind : (kind : CallKind) (p : Program) (resolved : MethodNo) (s : Site) (target : MethodNo) → SelectsFor kind p resolved s (Ok target.0) → is_selecting_kind kind ≡ true
selecting_kind Virtual p resolved s target selects = refl
selecting_kind Special p resolved s target selects = absurd selects
selecting_kind Static p resolved s target selects = absurd selects
selecting_kind Interface p resolved s target selects = refl

-- ---- calls of a node

module _ {p : Program} {gives : GivenAs} {entry : MethodNo} {T : Item → Type 0} (h : IsClosing p gives entry T) where
  module _ {m : MethodNo} {l : LoweredMethod} {n : Node} (here : IsRunning gives T m l n) (c : NodeCall) (is : n.op ≡ Call c) where
    abbrev site : CallSite
    site = site_at m l n c (parts_at h here.is_node c)

    -- what follows from an object that selects
    by_selecting : (z : ℕ) (from : Holder) (s : Site) (target : MethodNo) → slice_get c.arguments 0 ≡ Some (Some z) → IsSlot l n z from → SelectsFor c.kind p c.resolved s (Ok target.0)
        → T (known (may_hold from s)) → (x : Item) → SelectItem p site s x → T x
    by_selecting z from s target e slot selects holds x item =
        let has = parts_at h here.is_node c in
        let there = argument_there m l (all_reached h here.is_node) n here.is_node.stands c has 0 z from e slot in
        let kind = selecting_kind c.kind p c.resolved s target selects in
        let constrains = by_operation h here (Call c) is (constrained from (dispatch site)) (selecting site from kind (is_site_at m l n c has) there refl) in
        by_constraint h from (dispatch site) s x constrains holds item

    -- ---- targets

    pub call_chosen_closed : (target : MethodNo) → c.chosen ≡ Some target → T (known (may_call (node_of m n) target))
    call_chosen_closed target e = by_operation h here (Call c) is _ (chosen target e refl)

    pub call_selected_closed : (z : ℕ) (from : Holder) (s : Site) (target : MethodNo) → slice_get c.arguments 0 ≡ Some (Some z) → IsSlot l n z from → SelectsFor c.kind p c.resolved s (Ok target.0)
        → T (known (may_hold from s)) → T (known (may_call (node_of m n) target))
    call_selected_closed z from s target e slot selects holds = by_selecting z from s target e slot selects holds _ (called target selects refl)

    pub pass_closed : (target : MethodNo) (unit z : ℕ) (from : Holder) (s : Site) → slice_get c.arguments unit ≡ Some (Some z) → IsSlot l n z from → MayPass c.kind p c.resolved s target unit
        → T (known (may_call (node_of m n) target)) → T (known (may_hold from s)) → T (known (may_hold (variable (Parameter target unit)) s))
    pass_closed target unit z from s e slot may calls holds = by (passed_as c.kind p c.resolved s target unit may)
      where
        by : IsTrue (is_passed c.kind unit) ⊎ IsSelecting c.kind p c.resolved s target unit → T (known (may_hold (variable (Parameter target unit)) s))
        by (inl as_it_is) =
            let there = argument_there m l (all_reached h here.is_node) n here.is_node.stands c (parts_at h here.is_node c) unit z from e slot in
            passes h from (variable (Parameter target unit)) s (by_call h here.is_node c is target calls _ (pass unit from there as_it_is refl)) holds
        by (inr selects) =
            let e_first = subst (λ (k : ℕ). slice_get c.arguments k ≡ Some (Some z)) selects.first e in
            subst (λ (k : ℕ). T (known (may_hold (variable (Parameter target k)) s))) (sym selects.first)
            (by_selecting z from s target e_first slot selects.selects holds _ (received target selects.selects refl))

    -- ---- results

    pub receive_closed : (target : MethodNo) (z : ℕ) (to : Holder) (s : Site) → c.result ≡ Some z → IsOfFile p target → IsSlotAfter l n z to → T (known (may_call (node_of m n) target))
        → T (known (may_hold (returned_by target) s)) → T (known (may_hold to s))
    receive_closed target z to s e of_file after calls holds =
        let there = result_holder m l (all_reached h here.is_node) n c (parts_at h here.is_node c) z to e after in
        passes h (returned_by target) to s (by_call h here.is_node c is target calls _ (receive to of_file there refl)) holds

    pub give_new_closed : (target : MethodNo) (stub : StubMethod) (class : List ℕ) (z : ℕ) (to : Holder) → IsDescribedBy p target stub → Contains stub.returns (stub_results.New class) → c.result ≡ Some z
        → IsSlotAfter l n z to → T (known (may_call (node_of m n) target)) → T (known (may_hold to (site_of kinds.Result m n class)))
    give_new_closed target stub class z to described listed e after calls =
        let there = result_holder m l (all_reached h here.is_node) n c (parts_at h here.is_node c) z to e after in
        by_call h here.is_node c is target calls _ (give_new stub class to described listed there refl)

    pub give_kept_closed : (target : MethodNo) (stub : StubMethod) (class : List ℕ) (s : Site) (z : ℕ) (to : Holder) → IsDescribedBy p target stub → Contains stub.returns stub_results.Kept
        → result_class stub.descriptor ≡ Some class → Fits p class s.class → c.result ≡ Some z → IsSlotAfter l n z to → T (known (may_call (node_of m n) target)) → T (known (may_hold kept_objects s))
        → T (known (may_hold to s))
    give_kept_closed target stub class s z to described listed is_class fits e after calls holds =
        let there = result_holder m l (all_reached h here.is_node) n c (parts_at h here.is_node c) z to e after in
        let constrains = by_call h here.is_node c is target calls (constrained kept_objects (filter_to class to)) (give_kept stub class to described listed is_class there refl) in
        by_constraint h kept_objects (filter_to class to) s _ constrains holds (fits, refl)

    -- ---- arguments of described methods

    module _ (target : MethodNo) (stub : StubMethod) (argument : StubArgument) (from : Holder) (s : Site) (described : IsDescribedBy p target stub) (of : IsArgument p l n c target stub argument from s) where
      stub_unit : IsStubUnit site stub argument of.unit from
      stub_unit = record {
        is_unit = of.is_unit;
        passed = argument_there m l (all_reached h here.is_node) n here.is_node.stands c (parts_at h here.is_node c) of.unit of.z from of.passed of.slot;
      }

      -- where the first unit selects
      first_selects : (selects : IsSelecting c.kind p c.resolved s target of.unit) → T (known (may_hold from s)) → (x : Item) → (IsUnitOf stub argument 0 → SelectItem p site s x) → T x
      first_selects selects holds x item =
          let e = subst (λ (k : ℕ). slice_get c.arguments k ≡ Some (Some of.z)) selects.first of.passed in
          by_selecting of.z from s target e of.slot selects.selects holds x (item (subst (λ (k : ℕ). IsUnitOf stub argument k) selects.first of.is_unit))

      pub keep_argument_closed : Contains stub.keeps argument → T (known (may_call (node_of m n) target)) → T (known (may_hold from s)) → T (known (may_hold kept_objects s))
      keep_argument_closed listed calls holds = by (handed_as c.kind p c.resolved s target of.unit kept_objects of.suits)
        where
          by : IsHandedTo c.kind p c.resolved of.unit kept_objects s ⊎ IsSelecting c.kind p c.resolved s target of.unit → T (known (may_hold kept_objects s))
          by (inl handed) =
              let constrains = by_call h here.is_node c is target calls (constrained from handed.constraint) (keep_argument stub argument of.unit from handed.constraint described listed stub_unit handed.gives_unit refl) in
              by_constraint h from handed.constraint s _ constrains holds handed.passed
          by (inr selects) = first_selects selects holds _ (λ is_unit. kept target stub argument selects.selects described listed is_unit refl)

      pub give_argument_closed : (z : ℕ) (to : Holder) → Contains stub.returns (stub_results.Given argument) → c.result ≡ Some z → IsSlotAfter l n z to → T (known (may_call (node_of m n) target))
          → T (known (may_hold from s)) → T (known (may_hold to s))
      give_argument_closed z to listed e after calls holds = by (handed_as c.kind p c.resolved s target of.unit to of.suits)
        where
          there : Contains (parts_at h here.is_node c).results to
          there = result_holder m l (all_reached h here.is_node) n c (parts_at h here.is_node c) z to e after

          by : IsHandedTo c.kind p c.resolved of.unit to s ⊎ IsSelecting c.kind p c.resolved s target of.unit → T (known (may_hold to s))
          by (inl handed) =
              let constrains = by_call h here.is_node c is target calls (constrained from handed.constraint) (give_argument stub argument of.unit from to handed.constraint described listed stub_unit there handed.gives_unit refl) in
              by_constraint h from handed.constraint s _ constrains holds handed.passed
          by (inr selects) = first_selects selects holds _ (λ is_unit. given target stub argument to selects.selects described listed is_unit there refl)

    -- ---- exceptions

    pub target_throws_closed : (target : MethodNo) (to : Holder) (s : Site) → IsOfFile p target → Lands p m l n s.class to → T (known (may_call (node_of m n) target)) → T (known (may_hold (thrown_by target) s))
        → T (known (may_hold to s))
    target_throws_closed target to s of_file lands calls holds =
        let has = parts_at h here.is_node c in
        let constrains = by_call h here.is_node c is target calls (constrained (thrown_by target) (rethrow_to has.catch_chain)) (target_throws of_file refl) in
        by_constraint h (thrown_by target) (rethrow_to has.catch_chain) s _ constrains holds (to, lands_there p m l n (all_reached h here.is_node) s.class to has.catch_chain has.is_catch_chain lands, refl)

    pub described_throws_closed : (target : MethodNo) (stub : StubMethod) (class : List ℕ) (to : Holder) → IsDescribedBy p target stub → Contains stub.throws class → Lands p m l n class to
        → T (known (may_call (node_of m n) target)) → T (known (may_hold to (site_of kinds.Thrown m n class)))
    described_throws_closed target stub class to described listed lands calls =
        let has = parts_at h here.is_node c in
        by_call h here.is_node c is target calls _ (described_throws stub class to described listed (lands_there p m l n (all_reached h here.is_node) class to has.catch_chain has.is_catch_chain lands) refl)

  -- ---- what a call runs

  pub target_runs_closed : (call : NodeRef) (target : MethodNo) → IsCallOf gives entry call target → T (known (may_call call target)) → T (known (may_run target))
  target_runs_closed call target (from_start e) calls = subst (λ (m : MethodNo). T (known (may_run m))) (sym e) (by_start h _ (entry_runs refl))
  target_runs_closed call target (from_call node) calls =
      by_call h node.is_node node.c node.is_call target (subst (λ (r : NodeRef). T (known (may_call r target))) node.at calls) _ (runs refl)
