-- Where the frame of the start stands; and the class whose initialisation an instruction may start, at its node.
use Rattle.std.proofs.Common.{◌≡◌, ℕ, List, [], ◌∷◌, Option, Some, None, refl, sym, ap, ◌∙◌, subst}
use Rattle.std.specs.Bool.{IsTrue}
use Rattle.std.specs.List.{Contains, find, slice_get}
use Rattle.std.specs.Prelude.{nat_eq}
use Rattle.std.proofs.lemmas.Option.{same_Some}
use Rattle.jvm_model.specs.declared.number.ClassNo.{ClassNo}
use Rattle.jvm_model.specs.declared.pool.PoolEntry.{PoolEntry}
use Rattle.jvm_model.specs.Programs.{Method, Program}
use Rattle.jvm_model.specs.Table.{is_trigger}
use Rattle.flow_graph.specs.declared.steps.GraphStep.{GraphStep}
use Rattle.op_model.specs.declared.lowered.LoweredMethod.{LoweredMethod}
use Rattle.op_model.specs.declared.node.Node.{Node}
use Rattle.op_model.specs.Supplies.{Given}
use Rattle.machine_bytecode.specs.Machine.{AtInstruction, Concerns}
use Rattle.machine_bytecode.specs.Objects.{Subject}
use Rattle.machine_bytecode.specs.States.{Frame}
use Rattle.machine_nodes.specs.Nodes.{AreStartNodes, HasInitialiser, IsClassNumber, IsInitialisationError, StandsAt, initialising, of_start}
use Rattle.lowering_spec.specs.LoweredMethods.{HasTrigger, for_class, no_trigger}
use Rattle.simulation.proofs.Known.{LoweredCode, NodeHere, base, here_node, throws as lists, told, trigger}

-- ---- the start

first_of : (first second : Node) (offset : ℕ) → first.offset ≡ 0 → offset ≡ 0 → find (λ (n : Node). nat_eq n.offset offset) (first ∷ second ∷ []) ≡ Some first
first_of first second offset e f = rw f (rw e refl)

second_of : (first second : Node) (offset : ℕ) → first.offset ≡ 0 → second.offset ≡ 1 → offset ≡ 1 → find (λ (n : Node). nat_eq n.offset offset) (first ∷ second ∷ []) ≡ Some second
second_of first second offset e f g = rw g (rw e (rw f refl))

pub found_call : (x : Subject) (nodes : List Node) (are : AreStartNodes x nodes) (offset : ℕ) → offset ≡ 0 → find (λ (n : Node). nat_eq n.offset offset) nodes ≡ Some are.call
found_call x nodes are offset at =
    subst (λ (ns : List Node). find (λ (n : Node). nat_eq n.offset offset) ns ≡ Some are.call) (sym are.is) (first_of are.call are.return offset are.is_call.offset at)

pub found_return : (x : Subject) (nodes : List Node) (are : AreStartNodes x nodes) (offset : ℕ) → offset ≡ 1 → find (λ (n : Node). nat_eq n.offset offset) nodes ≡ Some are.return
found_return x nodes are offset at =
    subst (λ (ns : List Node). find (λ (n : Node). nat_eq n.offset offset) ns ≡ Some are.return) (sym are.is) (second_of are.call are.return offset are.is_call.offset are.is_return.offset at)

-- the frame of the start stands at its call, or at its return
abbrev pub call_stands : (x : Subject) (given : Given) (nodes : List Node) (are : AreStartNodes x nodes) (f : Frame) → f.method ≡ None → f.offset ≡ 0 → StandsAt x given f
call_stands x given nodes are f none at = record { locals = 0; nodes = nodes; of_method = of_start none are refl; node = are.call; is = found_call x nodes are f.offset at }

abbrev pub return_stands : (x : Subject) (given : Given) (nodes : List Node) (are : AreStartNodes x nodes) (f : Frame) → f.method ≡ None → f.offset ≡ 1 → StandsAt x given f
return_stands x given nodes are f none at = record { locals = 0; nodes = nodes; of_method = of_start none are refl; node = are.return; is = found_return x nodes are f.offset at }

-- an error of the initialisation of the entry's class is listed
pub start_lists : (x : Subject) (nodes : List Node) (are : AreStartNodes x nodes) (entry : Method) → slice_get x.program.methods x.entry ≡ Some entry → HasInitialiser x.program entry.class
    → (name : List ℕ) → IsInitialisationError name → (c : ClassNo) → IsClassNumber x.program c name → Contains are.call.throws c
start_lists x nodes are entry stands has name error c is =
    let same : are.is_call.entry ≡ entry = same_Some are.is_call.entry entry (sym are.is_call.stands ∙ stands) in
    are.is_call.throws.all c name is (initialising are.is_call.entry.class refl (subst (λ (m : Method). HasInitialiser x.program m.class) (sym same) has) error)

pub start_trigger : (x : Subject) (nodes : List Node) (are : AreStartNodes x nodes) (entry : Method) → slice_get x.program.methods x.entry ≡ Some entry → IsClassNumber x.program are.is_call.class entry.class
start_trigger x nodes are entry stands =
    let same : are.is_call.entry ≡ entry = same_Some are.is_call.entry entry (sym are.is_call.stands ∙ stands) in
    subst (λ (m : Method). IsClassNumber x.program are.is_call.class m.class) same are.is_call.is_class

-- ---- an instruction

abbrev pub OneConcerned : Program → Type 0
OneConcerned p = (pool : List PoolEntry) (operand : ℕ) (a b : List ℕ) → Concerns p pool operand a → Concerns p pool operand b → a ≡ b

module _ (p : Program) (once : OneConcerned p) (f : Frame) (now : AtInstruction p f) (l : LoweredMethod) (lc : LoweredCode p now.here.number l) (step : GraphStep) (there : Contains lc.graph.steps step) (at : step.offset ≡ f.offset)
    (is : IsTrue (is_trigger now.row.action)) (class : List ℕ) (concerns : Concerns p now.here.code.file.pool now.instruction.operand class) where
  pub record IsTriggered (n : Node) (trigger_class : Option (List ℕ)) : Type 0 where
    pub number : ClassNo
    pub trigger_is : n.trigger ≡ Some number
    pub is_class : IsClassNumber p number class
    pub class_is : trigger_class ≡ Some class

  abbrev node : NodeHere p now.here.number l lc step f.offset
  node = here_node p f now l lc step there at

  pub is_triggered : IsTriggered node.node node.is.trigger_class
  is_triggered = by (trigger p f now l lc step there at)
    where
      by : HasTrigger (told p f now (base p f now l lc step there at)) node.node.trigger node.is.trigger_class → IsTriggered node.node node.is.trigger_class
      by (no_trigger none a b) = absurd (cc (none, is))
      by (for_class t name number other numbered trigger_is class_is) =
          let same = once now.here.code.file.pool now.instruction.operand name class other concerns in
          record { number = number; trigger_is = trigger_is; is_class = subst (IsClassNumber p number) same numbered; class_is = class_is ∙ ap (λ (c : List ℕ). Some c) same }

  pub error_listed : HasInitialiser p class → (name : List ℕ) → IsInitialisationError name → (c : ClassNo) → IsClassNumber p c name → Contains node.node.throws c
  error_listed has name error c numbered = (lists p f now l lc step there at).all c name numbered (initialising class is_triggered.class_is has error)
