-- Public contracts rest on this module.
-- What the solver takes in: facts, and constraints of holders. A constraint says what is done with each object of a holder.
use Rattle.std.specs.Prelude.{ℕ, List, [], ◌∷◌, Option}
use Rattle.jvm_model.specs.declared.number.FieldNo.{FieldNo}
use Rattle.jvm_model.specs.declared.number.MethodNo.{MethodNo}
use Rattle.op_model.specs.declared.node.NodeHandler.{NodeHandler}
use Rattle.op_model.specs.declared.node.NodeRef.{NodeRef}
use Rattle.op_model.specs.declared.op.CallKind.{CallKind}
use Rattle.points_to_rules.specs.Facts.{Holder, Fact}

-- A handler, and the holder of what it takes.
pub record CatchClause : Type 0 where
  pub handler : NodeHandler
  pub to : Holder

-- Where exceptions of a node go: to the first handler that takes them, or else on to the callers.
pub record CatchChain : Type 0 where
  pub catch_clauses : List CatchClause
  pub outside : Holder

-- A call: its node, how it chooses its target, the holder of each unit of its arguments, those of its result, and where what its targets
-- throw goes.
pub record CallSite : Type 0 where
  pub at : NodeRef
  pub kind : CallKind
  pub resolved : MethodNo
  pub arguments : List (Option Holder)
  pub results : List Holder
  pub catch_chain : CatchChain

-- What is done with each object of a holder.
pub data Constraint : Type 0 where
  -- Another holder holds it too; or it does where the object fits a class.
  copy_to : Holder → Constraint
  filter_to : (class : List ℕ) → Holder → Constraint
  -- What its field holds, the holder holds; what the holder holds, its field holds; and likewise for the elements of an array.
  load_field : FieldNo → Holder → Constraint
  store_field : FieldNo → Holder → Constraint
  load_elements : Holder → Constraint
  store_elements : Holder → Constraint
  -- It is thrown where it is a Throwable; or it is an exception that is thrown on.
  throw_to : CatchChain → Constraint
  rethrow_to : CatchChain → Constraint
  -- It selects the target of a call.
  dispatch : CallSite → Constraint

pub data Item : Type 0 where
  known : Fact → Item
  constrained : Holder → Constraint → Item

-- The facts among items.
abbrev pub facts_of : List Item → List Fact
facts_of [] = []
facts_of (known fact ∷ items) = fact ∷ facts_of items
facts_of (constrained holder constraint ∷ items) = facts_of items
