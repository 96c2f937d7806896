-- The nodes of the start of a program that has no error of initialisation, and their steps.
use Rattle.std.proofs.Common.{codes, ◌≡◌, inl, inr, ℕ, Bool, true, not, ◌&&◌, List, [], ◌∷◌, bytes_eq, Option, Some, None, slice_get, refl, ◌∙◌}
use Rattle.std.specs.List.{Contains, list_all}
use Rattle.std.proofs.lemmas.Bool.{and_parts}
use Rattle.std.proofs.lemmas.Slice.Eq.{bytes_eq-Decides}
use Rattle.jvm_model.specs.declared.number.ClassNo.{ClassNo}
use Rattle.jvm_model.specs.Programs.{Program, Class, Method}
use Rattle.op_model.specs.declared.node.Node.{Node}
use Rattle.op_model.specs.declared.op.CallKind.TheVariants.{Static}
use Rattle.op_model.specs.declared.op.Op.TheVariants.{Call, Return}
use Rattle.op_model.specs.Supplies.{Given}
use Rattle.machine_bytecode.specs.Objects.{Subject}
use Rattle.machine_bytecode.specs.States.{Value}
use Rattle.machine_nodes.specs.Nodes.{IsClassNumber, IsInitialisationError, IsThrownAt, raised, initialising, AreThrownAt, AreStartNodes, StandsAt, of_start}
use Rattle.example_nodes.specs.Lowering.{node, with_trigger, call_of, method_no}
use Rattle.example_nodes.proofs.Steps.{node_at}
use Rattle.example_machine.proofs.Searches.{not_true}
use Rattle.list_laws.proofs.Tests.{passes_at}
use Rattle.list_laws.proofs.Members.{contains_none}

-- ---- no error of initialisation

abbrev is_no_error : Class → Bool
is_no_error c = not (bytes_eq c.name (codes "java/lang/ExceptionInInitializerError")) && not (bytes_eq c.name (codes "java/lang/NoClassDefFoundError"))

abbrev pub has_no_error : Program → Bool
has_no_error p = list_all is_no_error p.classes

no_error : (p : Program) → has_no_error p ≡ true → (number : ClassNo) (name : List ℕ) → IsClassNumber p number name → IsInitialisationError name → ⊥
no_error p h number name is error = by error
  where
    both : (not (bytes_eq is.class.name (codes "java/lang/ExceptionInInitializerError")) ≡ true) × (not (bytes_eq is.class.name (codes "java/lang/NoClassDefFoundError")) ≡ true)
    both = and_parts (not (bytes_eq is.class.name (codes "java/lang/ExceptionInInitializerError"))) (not (bytes_eq is.class.name (codes "java/lang/NoClassDefFoundError"))) (passes_at is_no_error p.classes number.0 is.class h is.stands)

    by : IsInitialisationError name → ⊥
    by (inl e) = not_true (bytes_eq is.class.name (codes "java/lang/ExceptionInInitializerError")) both.0 ((bytes_eq-Decides is.class.name (codes "java/lang/ExceptionInInitializerError")).1 (is.named ∙ e))
    by (inr e) = not_true (bytes_eq is.class.name (codes "java/lang/NoClassDefFoundError")) both.1 ((bytes_eq-Decides is.class.name (codes "java/lang/NoClassDefFoundError")).1 (is.named ∙ e))

pub nothing_thrown : (p : Program) → has_no_error p ≡ true → (trigger : Option (List ℕ)) → AreThrownAt p [] trigger []
nothing_thrown p h trigger = record { only = λ c there. absurd (contains_none c there); all = λ c name is thrown. every c name is thrown }
  where
    every : (c : ClassNo) (name : List ℕ) → IsClassNumber p c name → IsThrownAt p [] trigger name → Contains [] c
    every c name is (raised raise there e) = absurd (contains_none raise there)
    every c name is (initialising class e has error) = absurd (no_error p h c name is error)

-- ---- the nodes

module _ (x : Subject) (given : Given) (entry : Method) (stands : slice_get x.program.methods x.entry ≡ Some entry) (class : ℕ) (is_class : IsClassNumber x.program (record { 0 = class }) entry.class) (h : has_no_error x.program ≡ true) where
  abbrev pub start_call : Node
  start_call = with_trigger class (node 0 (Call (call_of Static x.entry (Some (method_no x.entry)) entry.signature.name entry.signature.descriptor [] None)) (1 ∷ []))

  abbrev pub start_return : Node
  start_return = node 1 (Return None) []

  abbrev pub start_nodes : AreStartNodes x (start_call ∷ start_return ∷ [])
  start_nodes = record {
    call = start_call;
    return = start_return;
    is = refl;
    is_call = record {
      entry = entry;
      stands = stands;
      offset = refl;
      op = refl;
      successors = refl;
      handlers = refl;
      class = record { 0 = class };
      trigger = refl;
      is_class = is_class;
      throws = nothing_thrown x.program h (Some entry.class);
    };
    is_return = record { offset = refl; op = refl; successors = refl; handlers = refl; trigger = refl; throws = refl };
  }

  -- the start's frame stands at one of them
  abbrev pub start_stands : (offset : ℕ) (slots : List Value) (waits : Bool) (n : Node) → node_at offset (start_call ∷ start_return ∷ []) ≡ Some n → StandsAt x given (record { method = None; offset = offset; slots = slots; waits = waits })
  start_stands offset slots waits n is = record { locals = 0; nodes = start_call ∷ start_return ∷ []; of_method = of_start refl start_nodes refl; node = n; is = is }
