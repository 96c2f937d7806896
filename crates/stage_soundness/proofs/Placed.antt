-- Where a frame stands, as the rules of path edges have it: at a node of its method, or of the start of the program.
use Rattle.std.proofs.Common.{◌≡◌, ℕ, List, Option, Some, Ok, nat_eq, Contains, refl, sym, ap, subst, arith}
use Rattle.std.specs.Option.{option_map}
use Rattle.std.proofs.lemmas.Bool.{eqb-true}
use Rattle.list_laws.proofs.Tests.{IsFound, found}
use Rattle.jvm_model.specs.declared.number.MethodNo.{MethodNo}
use Rattle.op_model.specs.declared.lowered.LoweredMethod.{LoweredMethod}
use Rattle.op_model.specs.declared.node.Node.{Node}
use Rattle.op_model.specs.Supplies.{Given, GivenAs, IsMapOf}
use Rattle.machine_bytecode.specs.Objects.{Subject}
use Rattle.machine_bytecode.specs.States.{Frame, slot_at}
use Rattle.machine_nodes.specs.Nodes.{HasNodes, of_start, of_method, StandsAt}
use Rattle.slot_names.specs.Sharing.{ReadsAlike}
use Rattle.points_to_rules.specs.WholeMethods.{AreWholeMethods}
use Rattle.stage_edges.specs.Rules.{IsMethod, IsNode}
use Rattle.stage_relations.specs.Roots.{AreAlike, HasVariables}
use Rattle.stage_steps.specs.Said.{AreEqual}
use Rattle.stage_soundness.specs.Describing.{method_of}

abbrev pub number_as : ℕ → MethodNo
number_as number = record { 0 = number }

-- the start of the program, as a method without slots
abbrev pub start_method : List Node → LoweredMethod
start_method nodes = record { method = number_as 0; slots = 0; stack = 0; params = 0; nodes = nodes }

module _ (x : Subject) (given : Given) (gives : GivenAs) (map : IsMapOf given gives) (whole : AreWholeMethods x.program gives) where
  pub record IsPlaced (f : Frame) (now : StandsAt x given f) : Type 0 where
    pub lowered : LoweredMethod
    pub is_node : IsNode x gives (method_of f) lowered now.node
    pub at : now.node.offset ≡ f.offset
    pub variables : HasVariables lowered now.node
    pub locals : now.locals ≡ lowered.slots
    pub equal : ReadsAlike given f → AreEqual lowered now.node f.slots

  pub placed_of : (f : Frame) (now : StandsAt x given f) → IsPlaced f now
  placed_of f now = by now.of_method
    where
      is_found : IsFound (λ (n : Node). nat_eq n.offset f.offset) now.nodes now.node
      is_found = found (λ (n : Node). nat_eq n.offset f.offset) now.nodes now.node now.is

      at : now.node.offset ≡ f.offset
      at = eqb-true now.node.offset f.offset is_found.taken

      alike_in : (number : ℕ) (l : LoweredMethod) → f.method ≡ Some number → given number ≡ Some (Ok l) → Contains l.nodes now.node → ReadsAlike given f → AreEqual l now.node f.slots
      alike_in number l in_method is_given there reads y z (AreAlike.same e) = ap (slot_at f.slots) e
      alike_in number l in_method is_given there reads y z (AreAlike.of_one v less_y less_z of_y of_z) = reads number l now.node y z v in_method is_given there at of_y of_z

      alone : (nodes : List Node) → AreEqual (start_method nodes) now.node f.slots
      alone nodes y z (AreAlike.same e) = ap (slot_at f.slots) e
      alone nodes y z (AreAlike.of_one v less_y less_z of_y of_z) = absurd (omega (arith, less_y))

      by : HasNodes x given f now.locals now.nodes → IsPlaced f now
      by (of_start no_method are count) = record {
        lowered = start_method now.nodes;
        is_node = record {
          method = subst (λ (m : Option MethodNo). IsMethod x gives (start_method now.nodes) m) (sym (ap (option_map number_as) no_method)) (IsMethod.of_start are refl refl refl);
          stands = is_found.there;
        };
        at = at;
        variables = HasVariables.of_start refl refl;
        locals = count;
        equal = λ reads. alone now.nodes;
      }
      by (of_method number l in_method is_given nodes count) =
          let there : Contains l.nodes now.node = subst (λ (ns : List Node). Contains ns now.node) nodes is_found.there in
          let as_gives = (map.entries number (Ok l)).0 is_given in
          record {
            lowered = l;
            is_node = record {
              method = subst (λ (m : Option MethodNo). IsMethod x gives l m) (sym (ap (option_map number_as) in_method)) (IsMethod.of_file (number_as number) as_gives);
              stands = there;
            };
            at = at;
            variables = HasVariables.of_method (whole number l as_gives).reached there;
            locals = count;
            equal = alike_in number l in_method is_given there;
          }
