-- The start of the program, and initialisers.
use Rattle.std.proofs.Common.{◌≡◌, ℕ, true, false, List, [], ◌∷◌, Option, Some, None, refl, sym, ap, subst}
use Rattle.std.specs.List.{slice_get, Contains, find}
use Rattle.std.specs.Prelude.{nat_eq}
use Rattle.list_laws.proofs.Members.{contains_first}
use Rattle.jvm_model.specs.declared.number.ClassNo.{ClassNo}
use Rattle.jvm_model.specs.Programs.{Method}
use Rattle.op_model.specs.declared.node.Node.{Node}
use Rattle.op_model.specs.declared.op.Op.TheVariants.{Return}
use Rattle.op_model.specs.Supplies.{Given}
use Rattle.machine_bytecode.specs.Machine.{AtStart, IsInitialiser}
use Rattle.machine_bytecode.specs.Objects.{Subject}
use Rattle.machine_bytecode.specs.Start.{arguments_of, start_frame, IsFirst}
use Rattle.machine_bytecode.specs.States.{Frame, State, runs_on, waiting, with_started}
use Rattle.machine_nodes.specs.Nodes.{IsClassNumber, AreStartNodes, StandsAt, of_start}
use Rattle.machine_nodes.specs.NodeSteps.{AtNode, EntersEntry, Ends}
use Rattle.machine_laws.specs.NodeProgress.{IsGiven, ReturnsTo, StartsOne}
use Rattle.machine_laws.proofs.Calls.{returns_to, ends_it}

pub enters_it : (x : Subject) (given : Given) (s : State) (at : AtStart s 0) (entry : Method) → slice_get x.program.methods x.entry ≡ Some entry → IsGiven given x.entry
    → (t : State) × EntersEntry x given s t at
enters_it x given s at entry stands m = (
  runs_on (record { method = Some x.entry; offset = 0; slots = arguments_of x.program entry; waits = false } ∷ waiting at.frame at.frame.slots ∷ at.below) s.world,
  record {
    entry = entry;
    stands = stands;
    left = at.frame.slots;
    are_left = λ z. refl;
    enters = record { method = m.0; is_given = m.1; slots = arguments_of x.program entry; arguments = λ z. refl; after = refl };
  },
)

second_of : (first second : Node) (offset : ℕ) → first.offset ≡ 0 → second.offset ≡ 1 → offset ≡ 1 → find (λ (n : Node). nat_eq n.offset offset) (first ∷ second ∷ []) ≡ Some second
second_of first second offset e f g = rw g (rw e (rw f refl))

stands_at_return : (x : Subject) (given : Given) (s : State) (at : AtStart s 1) (nodes : List Node) → AreStartNodes x nodes → StandsAt x given at.frame
stands_at_return x given s at nodes are = record {
  locals = 0;
  nodes = nodes;
  of_method = of_start at.no_method are refl;
  node = are.return;
  is = subst (λ (ns : List Node). find (λ (n : Node). nat_eq n.offset at.frame.offset) ns ≡ Some are.return) (sym are.is)
      (second_of are.call are.return at.frame.offset are.is_call.offset are.is_return.offset at.stands);
}

pub start_ends : (x : Subject) (given : Given) (s : State) → AtStart s 1 → (nodes : List Node) → AreStartNodes x nodes
    → (at : AtNode x given s) × (t : State) × Ends x given s t at
unfolding stands_at_return
start_ends x given s at nodes are =
    let here : AtNode x given s = record { frame = at.frame; below = at.below; runs = at.runs; frames = at.frames; now = stands_at_return x given s at nodes are } in
    let e = ends_it x given s here None are.is_return.op at.no_method in
    (here, e.0, e.1)

pub triggers_go_on : (x : Subject) (given : Given) (s : State) (at : AtNode x given s) (trigger : ClassNo) (class : List ℕ) (number : ℕ) → at.now.node.trigger ≡ Some trigger
    → IsClassNumber x.program trigger class → IsInitialiser x.program class number → (Contains s.world.started number → ⊥) → IsGiven given number → StartsOne x given s at number
triggers_go_on x given s at trigger class number is_trigger is_class initialiser fresh m = record {
  next = runs_on (record { method = Some number; offset = 0; slots = []; waits = false } ∷ at.frame ∷ at.below) (with_started s.world number);
  step = record {
    trigger = trigger;
    is_trigger = is_trigger;
    class = class;
    is_class = is_class;
    number = number;
    initialiser = initialiser;
    fresh = fresh;
    method = m.0;
    is_given = m.1;
    slots = [];
    empty = λ z. refl;
    after = refl;
  };
  number_is = refl;
}

-- ---- the first states, and the return of the entry

pub first_goes_on : (x : Subject) (given : Given) (s : State) → IsFirst x s → IsGiven given x.entry
    → (at : AtStart s 0) × (t : State) × EntersEntry x given s t at
first_goes_on x given s first m =
    let e = enters_it x given s at first.entry first.stands m in
    (at, e.0, e.1)
  where
    at : AtStart s 0
    at = record {
      frame = start_frame;
      below = [];
      runs = ap (λ (t : State). t.mode) first.is;
      frames = ap (λ (t : State). t.frames) first.is;
      no_method = refl;
      stands = refl;
    }

first_of : (first second : Node) (offset : ℕ) → first.offset ≡ 0 → offset ≡ 0 → find (λ (n : Node). nat_eq n.offset offset) (first ∷ second ∷ []) ≡ Some first
first_of first second offset e f = rw f (rw e refl)

stands_at_call : (x : Subject) (given : Given) (f : Frame) → f.method ≡ None → f.offset ≡ 0 → (nodes : List Node) → AreStartNodes x nodes → StandsAt x given f
stands_at_call x given f no_method stands nodes are = record {
  locals = 0;
  nodes = nodes;
  of_method = of_start no_method are refl;
  node = are.call;
  is = subst (λ (ns : List Node). find (λ (n : Node). nat_eq n.offset f.offset) ns ≡ Some are.call) (sym are.is)
      (first_of are.call are.return f.offset are.is_call.offset stands);
}

pub entries_return : (x : Subject) (given : Given) (s : State) (at : AtNode x given s) (value : Option ℕ) → at.now.node.op ≡ Return value
    → (caller : Frame) (rest : List Frame) → at.below ≡ caller ∷ rest → caller.method ≡ None → caller.offset ≡ 0 → caller.waits ≡ true
    → (nodes : List Node) → AreStartNodes x nodes → ReturnsTo x given s at 1
unfolding stands_at_call
entries_return x given s at value is caller rest below no_method stands waits nodes are =
    let now : StandsAt x given caller = stands_at_call x given caller no_method stands nodes are in
    let goes : Contains are.call.successors 1 = subst (λ (ns : List ℕ). Contains ns 1) (sym are.is_call.successors) (contains_first 1 []) in
    returns_to x given s at value is caller rest below waits now _ are.is_call.op 1 goes
