-- The claims about frames that each step keeps: of one that runs, and of one that waits.
use Rattle.std.proofs.Common.{◌≡◌, inl, inr, ℕ, false, List, [], ◌∷◌, Some, None, Ok, nat_eq, Contains, sym, ap, ◌∙◌, subst}
use Rattle.std.proofs.lemmas.Bool.{eqb-true}
use Rattle.std.proofs.lemmas.Option.{same_Some, none-some}
use Rattle.list_laws.proofs.Members.{contains_first, contains_later}
use Rattle.list_laws.proofs.Tests.{found}
use Rattle.jvm_model.specs.Programs.{Program}
use Rattle.op_model.specs.declared.lowered.LoweredMethod.{LoweredMethod}
use Rattle.op_model.specs.declared.node.Node.{Node}
use Rattle.op_model.specs.declared.node.NodeHandler.{NodeHandler}
use Rattle.op_model.specs.declared.op.Call.{Call as NodeCall}
use Rattle.op_model.specs.declared.op.Op.{Op}
use Rattle.op_model.specs.declared.op.Op.TheVariants.{Call}
use Rattle.op_model.specs.Supplies.{Given}
use Rattle.machine_bytecode.specs.Objects.{Subject}
use Rattle.machine_bytecode.specs.States.{Value, Frame, moved_to, waiting, slot_at}
use Rattle.machine_nodes.specs.Nodes.{HasNodes, of_start, of_method, StandsAt}
use Rattle.machine_nodes.specs.NodeSteps.{IsFirstTaking}
use Rattle.machine_nodes.specs.Slots.{AreLeft, argument_slots}
use Rattle.slot_names.specs.Variables.{effect_on, IsMerge, of_handler}
use Rattle.slot_names.specs.Sharing.{AreReachedMethods, ReadsAlike}
use Rattle.slot_names.proofs.PlacesOfSlots.{same_node, first_of_all}
use Rattle.slot_names.proofs.Effects.{HandsOn}
use Rattle.slot_names.proofs.Operations.{stays_waiting}
use Rattle.slot_names.proofs.Origins.{distinct_at_merge, distinct_at_first, ReadHandedAlike, AreHandedOn, alike_after}

-- ---- claims

-- slots that the frame's node hands on, and that have one variable there, read alike
pub record HandsOnAlike (given : Given) (f : Frame) : Type 0 where
  pub at_node : (number : ℕ) (l : LoweredMethod) (n : Node) → f.method ≡ Some number → given number ≡ Some (Ok l) → Contains l.nodes n → n.offset ≡ f.offset → ReadHandedAlike l n f.slots

-- a frame that waits: for an initialiser all its slots of one variable read alike, and for a call those that the call hands on
pub record WaitsAlike (given : Given) (f : Frame) : Type 0 where
  pub for_initialiser : f.waits ≡ false → ReadsAlike given f
  pub for_call : HandsOnAlike given f

pub hands_alike : (given : Given) (f : Frame) → ReadsAlike given f → HandsOnAlike given f
hands_alike given f alike = record { at_node = λ number l n in_method is_given there at. record { same = λ x y source target v h g has also. alike number l n x y v in_method is_given there at has also } }

pub triggers_alike : (given : Given) (f : Frame) → ReadsAlike given f → WaitsAlike given f
triggers_alike given f alike = record { for_initialiser = λ e. alike; for_call = hands_alike given f alike }

-- ---- where a frame stands

-- its node is one of its method
record IsNodeOf (l : LoweredMethod) (f : Frame) (n : Node) : Type 0 where
  there : Contains l.nodes n
  at : n.offset ≡ f.offset

same_given : (given : Given) (a b : ℕ) (l m : LoweredMethod) → a ≡ b → given a ≡ Some (Ok l) → given b ≡ Some (Ok m) → l ≡ m
same_given given a b l m e first second = let both : given a ≡ given b = ap given e in cc

nodes_of : (x : Subject) (given : Given) (f : Frame) (locals : ℕ) (nodes : List Node) (number : ℕ) (l : LoweredMethod) → f.method ≡ Some number → given number ≡ Some (Ok l) → HasNodes x given f locals nodes → nodes ≡ l.nodes
nodes_of x given f locals nodes number l in_method is_given (of_start no_method are e) = absurd (none-some number (sym no_method ∙ in_method))
nodes_of x given f locals nodes number l in_method is_given (of_method other m in_other is_other e count) =
    let same : other ≡ number = same_Some other number (sym in_other ∙ in_method) in
    e ∙ ap (λ (k : LoweredMethod). k.nodes) (same_given given other number m l same is_other is_given)

node_of : (x : Subject) (given : Given) (f : Frame) (now : StandsAt x given f) (number : ℕ) (l : LoweredMethod) → f.method ≡ Some number → given number ≡ Some (Ok l) → IsNodeOf l f now.node
node_of x given f now number l in_method is_given =
    let at = found (λ (n : Node). nat_eq n.offset f.offset) now.nodes now.node now.is in
    record {
      there = subst (λ (ns : List Node). Contains ns now.node) (nodes_of x given f now.locals now.nodes number l in_method is_given now.of_method) at.there;
      at = eqb-true now.node.offset f.offset at.taken;
    }

-- the first handler that takes an object is one of them
pub among_handlers : (p : Program) (class : List ℕ) (handlers : List NodeHandler) (h : NodeHandler) → IsFirstTaking p class handlers h → Contains handlers h
among_handlers p class [] h taking = absurd taking
among_handlers p class (g ∷ handlers) h (inl this) = subst (λ (k : NodeHandler). Contains (g ∷ handlers) k) (sym this.1) (contains_first g handlers)
among_handlers p class (g ∷ handlers) h (inr later) = contains_later g h handlers (among_handlers p class handlers h later.1)

-- ---- frames of a method that has no nodes

pub no_nodes_alike : (given : Given) (f : Frame) → f.method ≡ None → ReadsAlike given f
no_nodes_alike given f no_method number l n y z v in_method is_given there at has also = absurd (none-some number (sym no_method ∙ in_method))

module _ (given : Given) (reached : AreReachedMethods given) where
  -- ---- frames that run

  pub begins_alike : (number : ℕ) (slots : List Value) → ReadsAlike given (record { method = Some number; offset = 0; slots = slots; waits = false })
  begins_alike number slots other l n y z v in_method is_given there at has also =
      ap (slot_at slots) (distinct_at_first l n y z v (first_of_all l (reached other l is_given) n there at) has also)

  pub caught_alike : (x : Subject) (f : Frame) (now : StandsAt x given f) (class : List ℕ) (h : NodeHandler) (left : List Value) → IsFirstTaking x.program class now.node.handlers h → ReadsAlike given (moved_to f h.target left)
  caught_alike x f now class h left taking number l n y z v in_method is_given there at has also =
      let is = node_of x given f now number l in_method is_given in
      let merge : IsMerge l n = of_handler (record { covered = now.node; stands = is.there; handler = h; covers = among_handlers x.program class now.node.handlers h taking; begins = sym at }) in
      ap (slot_at left) (distinct_at_merge l n y z v merge has also)

  pub goes_on_alike : (x : Subject) (f : Frame) (now : StandsAt x given f) (next : ℕ) (left : List Value) → Contains now.node.successors next → AreHandedOn now.node f.slots left → HandsOnAlike given f
      → ReadsAlike given (moved_to f next left)
  goes_on_alike x f now next left goes on alike number l n y z v in_method is_given there at has also =
      let is = node_of x given f now number l in_method is_given in
      alike_after l (reached number l is_given) now.node n there (record { stands = is.there; goes = subst (λ (k : ℕ). Contains now.node.successors k) (sym at) goes })
      f.slots left (alike.at_node number l now.node in_method is_given is.there is.at) on y z v has also

  -- ---- a frame that waits for a call

  -- the arguments are taken, and the call hands none of them on
  kept_alike : (l : LoweredMethod) (n : Node) (call : NodeCall) (v : Value) (before after : List Value) → n.op ≡ Call call → AreLeft (argument_slots call.arguments) None v before after
      → ReadHandedAlike l n before → ReadHandedAlike l n after
  kept_alike l n call v before after is left alike = record {
    same = λ x y source target w h g has also.
        stays_waiting call v before after x source left (by x source h) ∙ alike.same x y source target w h g has also ∙ sym (stays_waiting call v before after y target left (by y target g));
  }
    where
      by : (y z : ℕ) → HandsOn (effect_on z n.op) y z → HandsOn (effect_on z (Call call)) y z
      by y z h = subst (λ (op : Op). HandsOn (effect_on z op) y z) is h

  pub calls_alike : (x : Subject) (f : Frame) (now : StandsAt x given f) (call : NodeCall) (v : Value) (left : List Value) → now.node.op ≡ Call call
      → AreLeft (argument_slots call.arguments) None v f.slots left → ReadsAlike given f → WaitsAlike given (waiting f left)
  calls_alike x f now call v left is are_left alike = record {
    for_initialiser = λ e. absurd cc;
    for_call = record {
      at_node = λ number l n in_method is_given there at.
          let here = node_of x given f now number l in_method is_given in
          let same = same_node l (reached number l is_given) now.node n here.there there (here.at ∙ sym at) in
          subst (λ (k : Node). ReadHandedAlike l k left) same
          (kept_alike l now.node call v f.slots left is are_left ((hands_alike given f alike).at_node number l now.node in_method is_given here.there here.at));
    };
  }
