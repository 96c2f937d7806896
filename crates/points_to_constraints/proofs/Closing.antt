-- How a set of items goes on that is closed by the rules of items: from a node of a method that may run, from a call of a target, and from a
-- constraint and an object of its holder.
use Rattle.std.proofs.Common.{◌≡◌, [], ◌∷◌, refl, sym, subst}
use Rattle.jvm_model.specs.declared.number.MethodNo.{MethodNo}
use Rattle.jvm_model.specs.declared.site.Site.{Site}
use Rattle.jvm_model.specs.Programs.{Program}
use Rattle.op_model.specs.declared.lowered.LoweredMethod.{LoweredMethod}
use Rattle.op_model.specs.declared.node.Node.{Node}
use Rattle.op_model.specs.declared.op.Call.{Call as NodeCall}
use Rattle.op_model.specs.declared.op.Op.{Op}
use Rattle.op_model.specs.declared.op.Op.TheVariants.{Call}
use Rattle.op_model.specs.Supplies.{GivenAs}
use Rattle.slot_names.specs.Variables.{AreReachedNodes}
use Rattle.least_sets.specs.Rules.{IsClosedSet}
use Rattle.points_to_rules.specs.Facts.{Holder, may_hold, may_run, may_call}
use Rattle.points_to_rules.specs.Rules.{IsNodeOf, node_of}
use Rattle.points_to_constraints.specs.CallItems.{CallItem}
use Rattle.points_to_constraints.specs.ItemRules.{StartItem, Passed, ItemInstance, of_start, of_node, of_call, of_constraint}
use Rattle.points_to_rules.specs.WholeMethods.{IsWholeMethod, AreWholeMethods}
use Rattle.points_to_constraints.specs.Items.{CatchChain, Constraint, copy_to, Item, known, constrained}
use Rattle.points_to_constraints.specs.NodeItems.{NodeItem, OpItem, operates, IsCatchChain}
use Rattle.points_to_constraints.proofs.CallSites.{HasSite, site_at, is_site_at, catch_chain_of, site_of_call}

-- The items are closed, and the methods are whole.
pub record IsClosing (p : Program) (gives : GivenAs) (entry : MethodNo) (T : Item → Type 0) : Type 0 where
  pub methods : AreWholeMethods p gives
  pub closed : IsClosedSet (ItemInstance p gives entry) T

-- A node of a method that may run.
pub record IsRunning (gives : GivenAs) (T : Item → Type 0) (m : MethodNo) (l : LoweredMethod) (n : Node) : Type 0 where
  pub is_node : IsNodeOf gives m l n
  pub runs : T (known (may_run m))

module _ {p : Program} {gives : GivenAs} {entry : MethodNo} {T : Item → Type 0} (h : IsClosing p gives entry T) where
  pub by_start : (x : Item) → StartItem p entry x → T x
  by_start x item = h.closed [] x (of_start refl item) tt

  pub by_constraint : (from : Holder) (constraint : Constraint) (s : Site) (x : Item) → T (constrained from constraint) → T (known (may_hold from s)) → Passed p constraint s x → T x
  by_constraint from constraint s x constrains holds passed = h.closed (constrained from constraint ∷ known (may_hold from s) ∷ []) x (of_constraint from constraint s refl passed) (constrains, (holds, tt))

  pub passes : (from to : Holder) (s : Site) → T (constrained from (copy_to to)) → T (known (may_hold from s)) → T (known (may_hold to s))
  passes from to s constrains holds = by_constraint from (copy_to to) s (known (may_hold to s)) constrains holds refl

  -- at a node of a method that is given
  module _ {m : MethodNo} {l : LoweredMethod} {n : Node} (is_node : IsNodeOf gives m l n) where
    is_method : IsWholeMethod p m.0 l
    is_method = h.methods m.0 l is_node.given

    pub all_reached : AreReachedNodes l
    all_reached = is_method.reached

    pub own_number : l.method ≡ m
    own_number = is_method.number_is

    pub catch_chain_at : (catch_chain : CatchChain) × IsCatchChain m l n catch_chain
    catch_chain_at = catch_chain_of m.0 m l is_method n is_node.stands

    pub parts_at : (c : NodeCall) → HasSite m l n c
    parts_at c = site_of_call m.0 m l is_method n is_node.stands c

    pub by_call : (c : NodeCall) → n.op ≡ Call c → (target : MethodNo) → T (known (may_call (node_of m n) target)) → (x : Item) → CallItem p (site_at m l n c (parts_at c)) target x → T x
    by_call c e target calls x item =
        let has = parts_at c in
        h.closed (known (may_call (node_of m n) target) ∷ []) x (of_call m l n c (site_at m l n c has) target refl is_node e (is_site_at m l n c has) item) (calls, tt)

  -- at one of a method that may run
  module _ {m : MethodNo} {l : LoweredMethod} {n : Node} (here : IsRunning gives T m l n) where
    pub by_node : (x : Item) → NodeItem p m l n x → T x
    by_node x item = h.closed (known (may_run m) ∷ []) x (of_node m l n refl here.is_node item) (here.runs, tt)

    pub by_operation : (op : Op) → n.op ≡ op → (x : Item) → OpItem op p m l n x → T x
    by_operation op e x item = by_node x (operates (subst (λ (o : Op). OpItem o p m l n x) (sym e) item))
