-- A target of a call is a method of the program, in the least facts of a supplier of methods of the program: each rule that tells a target tells one.
use Rattle.std.proofs.Common.{◌≡◌, ℕ, List, Contains, Result, Ok, refl, sym, ◌∙◌, subst}
use Rattle.std.proofs.lemmas.List.Elements.{All-contains}
use Rattle.std.proofs.lemmas.Option.{slice_get_within}
use Rattle.jvm_model.specs.declared.number.MethodNo.{MethodNo}
use Rattle.jvm_model.specs.declared.reason.Reason.{Reason}
use Rattle.jvm_model.specs.declared.site.Site.{Site}
use Rattle.jvm_model.specs.Programs.{Program}
use Rattle.jvm_model.specs.Selection.{Selection, selected, no_code, nothing, several, hidden}
use Rattle.program_model.specs.Numbers.{IsMethodNumber}
use Rattle.op_model.specs.declared.node.NodeRef.{NodeRef}
use Rattle.op_model.specs.declared.op.CallKind.{CallKind}
use Rattle.op_model.specs.declared.op.CallKind.TheVariants.{Virtual, Special, Static, Interface}
use Rattle.op_model.specs.Supplies.{GivenAs}
use Rattle.machine_bytecode.specs.Machine.{selecting_class}
use Rattle.least_sets.specs.Rules.{IsClosedSet, IsLeast}
use Rattle.least_sets.proofs.Least.{least_in_closed}
use Rattle.points_to_rules.specs.Calls.{SelectsFor}
use Rattle.points_to_rules.specs.Facts.{Fact, may_hold, may_run, may_call, may_write}
use Rattle.points_to_rules.specs.Rules.{Instance, entry_runs, entry_called, entry_argument, entry_strings, keep, move, enter, handle, load, load_element, load_static, make, make_array, get_constant, cast, store, store_element, store_static, nest, begin_static, call_chosen, call_selected, target_runs, pass, return, receive, keep_argument, give_argument, give_new, give_kept, throw, raise, target_throws, described_throws, initialiser_throws, initialiser_runs, keep_thrown}
use Rattle.points_to_rules.specs.WholeMethods.{AreWholeMethods, NamesNumbers}

-- The target, if it is a fact of a call, is a method of the program.
abbrev IsInRange : Program → Fact → Type 0
IsInRange p (may_hold h s) = Unit {0}
IsInRange p (may_run m) = Unit {0}
IsInRange p (may_call call target) = IsMethodNumber p target.0
IsInRange p (may_write m field) = Unit {0}

module _ (p : Program) where
  selected_in : (by_interface : _) (class : List ℕ) (resolved : ℕ) (outcome : Result ℕ Reason) (target : ℕ) → outcome ≡ Ok target
      → Selection p by_interface class resolved outcome → IsMethodNumber p target
  selected_in by_interface class resolved outcome target e (selected t m selects stands plain shown is) =
      let same : t ≡ target = (let both = sym is ∙ e in cc) in
      subst (λ (k : ℕ). IsMethodNumber p k) same (slice_get_within p.methods t m stands)
  selected_in by_interface class resolved outcome target e (no_code t m selects stands abstract is) = absurd (let both = sym is ∙ e in cc)
  selected_in by_interface class resolved outcome target e (nothing none clash is) = absurd (let both = sym is ∙ e in cc)
  selected_in by_interface class resolved outcome target e (several clash is) = absurd (let both = sym is ∙ e in cc)
  selected_in by_interface class resolved outcome target e (hidden t m selects stands plain over is) = absurd (let both = sym is ∙ e in cc)

  target_in : (kind : CallKind) (resolved : MethodNo) (s : Site) (target : ℕ) → SelectsFor kind p resolved s (Ok target) → IsMethodNumber p target
  target_in Virtual resolved s target (receiver, selects) = selected_in _ (selecting_class s.class) resolved.0 (Ok target) target refl selects
  target_in Special resolved s target none = absurd none
  target_in Static resolved s target none = absurd none
  target_in Interface resolved s target (receiver, selects) = selected_in _ (selecting_class s.class) resolved.0 (Ok target) target refl selects

module _ (p : Program) (gives : GivenAs) (entry : MethodNo) (within : IsMethodNumber p entry.0)
    (methods : AreWholeMethods p gives) where
  each_in : (premises : List Fact) (fact : Fact) → Instance p gives entry premises fact → IsInRange p fact
  each_in premises fact entry_runs = tt
  each_in premises fact entry_called = within
  each_in premises fact (entry_argument has) = tt
  each_in premises fact (entry_strings has) = tt
  each_in premises fact (keep m l n z from to s is inside effect slot after) = tt
  each_in premises fact (move m l n y z from to s is inside effect slot after) = tt
  each_in premises fact (enter m l n z to s is is_first inside slot) = tt
  each_in premises fact (handle m l n handler z from to s is covers is_local slot there) = tt
  each_in premises fact (load m l n object target field from to base s is is_op slot after) = tt
  each_in premises fact (load_element m l n array target from to base s is is_op slot after) = tt
  each_in premises fact (load_static m l n target field to s is is_op after) = tt
  each_in premises fact (make m l n target to s is is_op after) = tt
  each_in premises fact (make_array m l n sites target to s is is_op e after) = tt
  each_in premises fact (get_constant m l n target to s is is_op after) = tt
  each_in premises fact (cast m l n class slot from to s is is_op before after fits) = tt
  each_in premises fact (store m l n object value field into from base s is is_op slot stored) = tt
  each_in premises fact (store_element m l n array value into from base s is is_op slot stored) = tt
  each_in premises fact (store_static m l n value field from s is is_op slot) = tt
  each_in premises fact (nest m l n sites target i outer inner is is_op e f) = tt
  each_in premises fact (begin_static m l n target field class is is_op begins) = tt
  each_in premises fact (call_chosen m l n c target is is_op e) =
      (All-contains (NamesNumbers p) l.nodes n (methods m.0 l is.given).numbers is.stands).chosen c target is_op e
  each_in premises fact (call_selected m l n c z from s target is is_op e slot selects) = target_in p c.kind c.resolved s target.0 selects
  each_in premises fact (target_runs call target) = tt
  each_in premises fact (pass m l n c target unit z from s is is_op e slot may) = tt
  each_in premises fact (return m l n value from s is is_op slot) = tt
  each_in premises fact (receive m l n c target z to s is is_op e of_file after) = tt
  each_in premises fact (keep_argument m l n c target stub argument from s is is_op described listed of) = tt
  each_in premises fact (give_argument m l n c target stub argument from s z to is is_op described listed of e after) = tt
  each_in premises fact (give_new m l n c target stub class z to is is_op described listed e after) = tt
  each_in premises fact (give_kept m l n c target stub class s z to is is_op described listed of fits e after) = tt
  each_in premises fact (throw m l n value from to s is is_op slot fits lands) = tt
  each_in premises fact (raise m l n number class to is listed is_class lands) = tt
  each_in premises fact (target_throws m l n c target to s is is_op of_file lands) = tt
  each_in premises fact (described_throws m l n c target stub class to is is_op described listed lands) = tt
  each_in premises fact (initialiser_throws m l n i to s is starts lands) = tt
  each_in premises fact (initialiser_runs started i starts) = tt
  each_in premises fact (keep_thrown started i s starts) = tt

  in_range_is_closed : IsClosedSet (Instance p gives entry) (IsInRange p)
  in_range_is_closed premises fact rule hold = each_in premises fact rule

  pub targets_in : (found : List Fact) → IsLeast (Instance p gives entry) found → (call : NodeRef) (target : MethodNo)
      → Contains found (may_call call target) → IsMethodNumber p target.0
  targets_in found least call target there =
      let all = least_in_closed (Instance p gives entry) (IsInRange p) found least in_range_is_closed in
      All-contains (IsInRange p) found (may_call call target) all there
