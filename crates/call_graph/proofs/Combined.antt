-- The least facts that have those that were found, and all that methods may write, are the least by all rules together.
use Rattle.std.proofs.Common.{◌≡◌, inl, inr, ℕ, List, [], ◌∷◌, map, Contains, Ok, refl, sym, ap, subst}
use Rattle.std.proofs.lemmas.List.Elements.{All-contains}
use Rattle.jvm_model.specs.declared.number.MethodNo.{MethodNo}
use Rattle.jvm_model.specs.Programs.{Program}
use Rattle.op_model.specs.declared.lowered.LoweredMethod.{LoweredMethod}
use Rattle.op_model.specs.declared.node.Node.{Node}
use Rattle.op_model.specs.Supplies.{GivenAs}
use Rattle.least_sets.specs.Rules.{Hold, IsClosed, IsClosedSet, IsDerivable, IsLeast}
use Rattle.least_sets.proofs.Joined.{derivable_is_closed}
use Rattle.least_sets.proofs.Least.{least_in_closed}
use Rattle.points_to_rules.specs.Facts.{Fact, may_hold, may_run, may_call, may_write}
use Rattle.points_to_rules.specs.Rules.{IsNodeOf, MayStart, before_entry, at_node, Instance, entry_runs, entry_called, entry_argument, entry_strings, keep, move, enter, handle, load, load_element, load_static, make, make_array, get_constant, cast, store, store_element, store_static, nest, begin_static, call_chosen, call_selected, target_runs, pass, return, receive, keep_argument, give_argument, give_new, give_kept, throw, raise, target_throws, described_throws, initialiser_throws, initialiser_runs, keep_thrown}
use Rattle.points_to_rules.specs.Writes.{AnyInstance, write, target_writes, initialiser_writes}
use Rattle.points_to_rules.specs.Solutions.{AreRunning}
use Rattle.points_to_rules.specs.declared.running_method.RunningMethod.{RunningMethod}
use Rattle.ground.specs.Findings.{gives_listed}
use Rattle.ground.specs.Lists.{nodes_of}
use Rattle.call_graph.specs.Grounds.{GroundInstance}
use Rattle.program_index.proofs.ListPlaces.{map_at, at_map}
use Rattle.slot_names.proofs.ListPlaces.{contains_at, place_in}

-- A fact of another kind than that a method may write.
abbrev pub IsPlain : Fact → Type 0
IsPlain (may_hold h s) = Unit {0}
IsPlain (may_run m) = Unit {0}
IsPlain (may_call call m) = Unit {0}
IsPlain (may_write m field) = ⊥

module _ (p : Program) (gives : GivenAs) (entry : MethodNo) where
  starting : (premises : List Fact) (i : MethodNo) → MayStart p gives entry premises i → Hold IsPlain premises
  starting premises i (before_entry method stands initialiser none) = subst (λ (fs : List Fact). Hold IsPlain fs) (sym none) tt
  starting premises i (at_node m l n is starts one) = subst (λ (fs : List Fact). Hold IsPlain fs) (sym one) (tt, tt)

  -- no rule of the analysis rests on what methods may write
  pub plain_premises : (premises : List Fact) (fact : Fact) → Instance p gives entry premises fact → Hold IsPlain premises
  plain_premises premises fact entry_runs = tt
  plain_premises premises fact entry_called = tt
  plain_premises premises fact (entry_argument has) = tt
  plain_premises premises fact (entry_strings has) = tt
  plain_premises premises fact (keep m l n z from to s is inside effect slot after) = (tt, (tt, tt))
  plain_premises premises fact (move m l n y z from to s is inside effect slot after) = (tt, (tt, tt))
  plain_premises premises fact (enter m l n z to s is is_first inside slot) = (tt, (tt, tt))
  plain_premises premises fact (handle m l n handler z from to s is covers is_local slot there) = (tt, (tt, tt))
  plain_premises premises fact (load m l n object target field from to base s is is_op slot after) = (tt, (tt, (tt, tt)))
  plain_premises premises fact (load_element m l n array target from to base s is is_op slot after) = (tt, (tt, (tt, tt)))
  plain_premises premises fact (load_static m l n target field to s is is_op after) = (tt, (tt, tt))
  plain_premises premises fact (make m l n target to s is is_op after) = (tt, tt)
  plain_premises premises fact (make_array m l n sites target to s is is_op e after) = (tt, tt)
  plain_premises premises fact (get_constant m l n target to s is is_op after) = (tt, tt)
  plain_premises premises fact (cast m l n class slot from to s is is_op before after fits) = (tt, (tt, tt))
  plain_premises premises fact (store m l n object value field into from base s is is_op slot stored) = (tt, (tt, (tt, tt)))
  plain_premises premises fact (store_element m l n array value into from base s is is_op slot stored) = (tt, (tt, (tt, tt)))
  plain_premises premises fact (store_static m l n value field from s is is_op slot) = (tt, (tt, tt))
  plain_premises premises fact (nest m l n sites target i outer inner is is_op e f) = (tt, tt)
  plain_premises premises fact (begin_static m l n target field class is is_op begins) = (tt, tt)
  plain_premises premises fact (call_chosen m l n c target is is_op e) = (tt, tt)
  plain_premises premises fact (call_selected m l n c z from s target is is_op e slot selects) = (tt, (tt, tt))
  plain_premises premises fact (target_runs call target) = (tt, tt)
  plain_premises premises fact (pass m l n c target unit z from s is is_op e slot may) = (tt, (tt, (tt, tt)))
  plain_premises premises fact (return m l n value from s is is_op slot) = (tt, (tt, tt))
  plain_premises premises fact (receive m l n c target z to s is is_op e of_file after) = (tt, (tt, (tt, tt)))
  plain_premises premises fact (keep_argument m l n c target stub argument from s is is_op described listed of) = (tt, (tt, (tt, tt)))
  plain_premises premises fact (give_argument m l n c target stub argument from s z to is is_op described listed of e after) = (tt, (tt, (tt, tt)))
  plain_premises premises fact (give_new m l n c target stub class z to is is_op described listed e after) = (tt, (tt, tt))
  plain_premises premises fact (give_kept m l n c target stub class s z to is is_op described listed of fits e after) = (tt, (tt, (tt, tt)))
  plain_premises premises fact (throw m l n value from to s is is_op slot fits lands) = (tt, (tt, tt))
  plain_premises premises fact (raise m l n number class to is listed is_class lands) = (tt, tt)
  plain_premises premises fact (target_throws m l n c target to s is is_op of_file lands) = (tt, (tt, (tt, tt)))
  plain_premises premises fact (described_throws m l n c target stub class to is is_op described listed lands) = (tt, (tt, tt))
  plain_premises premises fact (initialiser_throws m l n i to s is starts lands) = (tt, (tt, tt))
  plain_premises premises fact (initialiser_runs started i starts) = starting started i starts
  plain_premises premises fact (keep_thrown started i s starts) = (tt, starting started i starts)

module _ (p : Program) (gives : GivenAs) (entry : MethodNo) (found all : List Fact) (methods : List RunningMethod) (solved : IsLeast (Instance p gives entry) found)
    (running : AreRunning gives (Contains found) methods) (whole : (number : ℕ) (l : LoweredMethod) → gives number (Ok l) → l.method ≡ record { 0 = number })
    (least : IsLeast (GroundInstance p (map nodes_of methods) found) all) where
  abbrev Rule : List Fact → Fact → Type 0
  Rule = GroundInstance p (map nodes_of methods) found

  abbrev Any : List Fact → Fact → Type 0
  Any = AnyInstance p gives entry

  abbrev listed : GivenAs
  listed = gives_listed (map nodes_of methods)

  pub found_is_in : (fact : Fact) → Contains found fact → Contains all fact
  found_is_in fact there = least.closed [] fact (inl (refl, there)) tt

  plain_closed : IsClosedSet Rule (λ fact. IsPlain fact → Contains found fact)
  plain_closed premises fact (inl (none, there)) hold plain = there
  plain_closed premises fact (inr (write m l n object value field is is_op)) hold plain = absurd plain
  plain_closed premises fact (inr (target_writes m l n target field is)) hold plain = absurd plain
  plain_closed premises fact (inr (initialiser_writes m l n i field is starts)) hold plain = absurd plain

  pub plain_was_found : (fact : Fact) → Contains all fact → IsPlain fact → Contains found fact
  plain_was_found fact there =
      All-contains (λ (f : Fact). IsPlain f → Contains found f) all fact (least_in_closed Rule (λ (f : Fact). IsPlain f → Contains found f) all least plain_closed) there

  -- ---- closed

  -- the nodes of a method that may run are among those that are listed
  to_listed : (m : MethodNo) (l : LoweredMethod) (n : Node) → Contains all (may_run m) → IsNodeOf gives m l n → IsNodeOf listed m l n
  to_listed m l n runs is =
      let (r, there, same) = running.all m l (plain_was_found (may_run m) runs tt) is.given in
      let (k, at) = place_in methods r there in
      let among = contains_at (map nodes_of methods) k (nodes_of r) (at_map nodes_of methods k r at) in
      record {
        given = (l, subst (λ (x : LoweredMethod). Contains (map nodes_of methods) x) same among, ap (λ (number : MethodNo). number.0) (whole m.0 l is.given), refl);
        stands = is.stands;
      }

  both_plain : (premises : List Fact) → Hold (Contains all) premises → Hold IsPlain premises → Hold (Contains found) premises
  both_plain [] hold plain = tt
  both_plain (f ∷ fs) (one, hold) (is_plain, plain) = (plain_was_found f one is_plain, both_plain fs hold plain)

  closed : IsClosed Any all
  closed premises fact (inl instance) hold = found_is_in fact (solved.closed premises fact instance (both_plain premises hold (plain_premises p gives entry premises fact instance)))
  closed premises fact (inr (write m l n object value field is is_op)) hold =
      least.closed premises fact (inr (write m l n object value field (to_listed m l n hold.0 is) is_op)) hold
  closed premises fact (inr (target_writes m l n target field is)) hold = least.closed premises fact (inr (target_writes m l n target field (to_listed m l n hold.0 is))) hold
  closed premises fact (inr (initialiser_writes m l n i field is starts)) hold =
      least.closed premises fact (inr (initialiser_writes m l n i field (to_listed m l n hold.0 is) starts)) hold

  -- ---- derivable

  -- the nodes of a listed method are given
  to_given : (m : MethodNo) (l : LoweredMethod) (n : Node) → IsNodeOf listed m l n → IsNodeOf gives m l n
  to_given m l n is =
      let (x, among, number, answer) = is.given in
      let (k, at) = place_in (map nodes_of methods) x among in
      let (r, stands, same) = map_at nodes_of methods k x at in
      let given = (running.only r (contains_at methods k r stands)).1 in
      let of_x = subst (λ (y : LoweredMethod). gives y.method.0 (Ok y)) same given in
      record { given = subst (gives m.0) (sym answer) (subst (λ (k : ℕ). gives k (Ok x)) number of_x); stands = is.stands }

  instance_derivable : IsClosedSet (Instance p gives entry) (IsDerivable Any)
  instance_derivable premises fact instance hold = derivable_is_closed Any premises fact (inl instance) hold

  rule_derivable : IsClosedSet Rule (IsDerivable Any)
  rule_derivable premises fact (inl (none, there)) hold =
      All-contains (IsDerivable Any) found fact (least_in_closed (Instance p gives entry) (IsDerivable Any) found solved instance_derivable) there
  rule_derivable premises fact (inr (write m l n object value field is is_op)) hold =
      derivable_is_closed Any premises fact (inr (write m l n object value field (to_given m l n is) is_op)) hold
  rule_derivable premises fact (inr (target_writes m l n target field is)) hold =
      derivable_is_closed Any premises fact (inr (target_writes m l n target field (to_given m l n is))) hold
  rule_derivable premises fact (inr (initialiser_writes m l n i field is starts)) hold =
      derivable_is_closed Any premises fact (inr (initialiser_writes m l n i field (to_given m l n is) starts)) hold

  pub least_together : IsLeast Any all
  least_together = record { closed = closed; derivable = least_in_closed Rule (IsDerivable Any) all least rule_derivable }
