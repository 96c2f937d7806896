-- What a node names by number is in the program: the classes that it throws and that its handlers take, the class whose initialisation it
-- may start, and the members that its operation names.
use Rattle.std.proofs.Common.{◌≡◌, ℕ, List, Option, Some, sym, ap, ◌∙◌, subst}
use Rattle.std.specs.List.{Contains}
use Rattle.std.proofs.lemmas.Option.{none-some, same_Some}
use Rattle.jvm_model.specs.declared.code.Code.{Code}
use Rattle.jvm_model.specs.declared.number.ClassNo.{ClassNo}
use Rattle.jvm_model.specs.declared.pool.PoolEntry.{PoolEntry}
use Rattle.jvm_model.specs.Programs.{Program, Method}
use Rattle.flow_graph.specs.declared.steps.GraphStep.{GraphStep}
use Rattle.hierarchy.proofs.ClassPlaces.{class_within}
use Rattle.program_model.specs.Numbers.{IsClassNumber}
use Rattle.lowering_spec.specs.LoweredMethods.{HasTrigger, IsCatch, IsHandlerAt, IsNodeOf, no_trigger, for_class, all, of_class}
use Rattle.lowering_spec.specs.Operations.{Placed}
use Rattle.machine_nodes.specs.Nodes.{IsClassNumber as IsNumberOf}
use Rattle.op_model.specs.declared.node.Node.{Node}
use Rattle.op_model.specs.declared.node.NodeHandler.{NodeHandler}
use Rattle.points_to_rules.specs.WholeMethods.{NamesNumbers}
use Rattle.simulation.proofs.Members.{NamesMembers, members_named}
use Rattle.simulation.proofs.Pairs.{first_of}

-- ---- classes

number_within : (p : Program) (c : ClassNo) (name : List ℕ) → IsNumberOf p c name → IsClassNumber p c.0
number_within p c name is = class_within p c.0 is.class is.stands

triggered : (i : Placed) (trigger : Option ClassNo) (class : Option (List ℕ)) (c : ClassNo) → HasTrigger i trigger class → trigger ≡ Some c → IsClassNumber i.program c.0
triggered i trigger class c (no_trigger untold none unnamed) e = absurd (none-some c (sym none ∙ e))
triggered i trigger class c (for_class told name number concerns is numbered named) e =
    subst (λ (n : ClassNo). IsClassNumber i.program n.0) (same_Some number c (sym numbered ∙ e)) (number_within i.program number name is)

taken : (p : Program) (pool : List PoolEntry) (catch_type : ℕ) (catch : Option ClassNo) (c : ClassNo) → IsCatch p pool catch_type catch → catch ≡ Some c → IsClassNumber p c.0
taken p pool catch_type catch c (all untyped none) e = absurd (none-some c (sym none ∙ e))
taken p pool catch_type catch c (of_class typed name number named is numbered) e =
    subst (λ (n : ClassNo). IsClassNumber p n.0) (same_Some number c (sym numbered ∙ e)) (number_within p number name is)

-- ---- the node

module _ (p : Program) (number : ℕ) (m : Method) (pool : List PoolEntry) (code : Code) (step : GraphStep) (n : Node) (is : IsNodeOf p number m pool code step n) where
  -- the instruction is one of the program
  in_program : is.instruction.program ≡ p
  in_program = ap (λ (i : Placed). i.program) is.placed.is

  thrown : (c : ClassNo) → Contains n.throws c → IsClassNumber p c.0
  thrown c there = let name = is.throws.only c there in number_within p c name.0 name.1

  may_start : (c : ClassNo) → n.trigger ≡ Some c → IsClassNumber p c.0
  may_start c e = subst (λ (q : Program). IsClassNumber q c.0) in_program (triggered is.instruction n.trigger is.trigger_class c is.trigger e)

  caught : (h : NodeHandler) (c : ClassNo) → Contains n.handlers h → h.catch ≡ Some c → IsClassNumber p c.0
  caught h c there e =
      let at = first_of (IsHandlerAt p pool code.handlers) step.handlers n.handlers h is.handlers there in
      taken p pool at.2.handler.catch_type h.catch c at.2.catch e

  members : NamesMembers p n.op
  members = subst (λ (q : Program). NamesMembers q n.op) in_program (members_named is.instruction.row.action is.instruction n.op is.op)

  pub numbers_named : NamesNumbers p n
  numbers_named = record { throws = thrown; trigger = may_start; catches = caught; statics = members.statics; resolved = members.resolved; chosen = members.chosen }
