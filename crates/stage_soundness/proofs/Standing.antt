-- A frame that runs: the node at which it stands, and its edge before the node.
use Rattle.std.proofs.Common.{◌≡◌, ℕ, List, Option, None, Contains, refl, sym, ap, ◌∙◌, subst}
use Rattle.std.specs.Option.{option_map}
use Rattle.jvm_model.specs.declared.number.MethodNo.{MethodNo}
use Rattle.jvm_model.specs.declared.site.Site.{Site}
use Rattle.op_model.specs.declared.lowered.LoweredMethod.{LoweredMethod}
use Rattle.op_model.specs.declared.node.Node.{Node}
use Rattle.op_model.specs.Supplies.{Given, GivenAs}
use Rattle.machine_bytecode.specs.Machine.{AtStart}
use Rattle.machine_bytecode.specs.Objects.{Subject}
use Rattle.machine_bytecode.specs.States.{Frame, running, State, World}
use Rattle.machine_nodes.specs.NodeSteps.{AtNode}
use Rattle.slot_names.specs.Sharing.{ReadsAlike}
use Rattle.points_to_rules.specs.Facts.{Fact}
use Rattle.stage_transfer.specs.Stages.{Transfer}
use Rattle.stage_edges.specs.Rules.{before, Edge, edge, IsMethod, IsNode}
use Rattle.stage_relations.specs.Roots.{HasVariables}
use Rattle.stage_steps.specs.Said.{AreEqual}
use Rattle.stage_steps.proofs.Events.{equal_at_start}
use Rattle.stage_soundness.specs.Describing.{IsRunning, method_of}
use Rattle.stage_soundness.proofs.Known.{Described, described_in, edge_before, Premises}
use Rattle.stage_soundness.proofs.Placed.{number_as, placed_of, start_method}

module _ (x : Subject) (given : Given) (gives : GivenAs) (S : Fact → Type 0) (s : Site) (t : Transfer) (E : Edge → Type 0) (k : Premises x given gives S s t E) where
  pub record Stands (w : World) (place : ℕ) (f : Frame) (below : List Frame) (n : Node) : Type 0 where
    pub lowered : LoweredMethod
    pub is_node : IsNode x gives (method_of f) lowered n
    pub at : n.offset ≡ f.offset
    pub variables : HasVariables lowered n
    pub equal : ReadsAlike given f → AreEqual lowered n f.slots
    pub here : IsRunning x gives S s t E w place f below
    pub held : E (edge (method_of f) here.entry (before n) here.fact)

  pub stands_at : (state : State) (at : AtNode x given state) (place : ℕ) → Described x given gives S s t E k place state → Stands state.world place at.frame at.below at.now.node
  stands_at state at place d =
      let f = at.frame in
      let p = placed_of x given gives k.map k.whole f at.now in
      let here : IsRunning x gives S s t E state.world place f at.below = described_in x given gives S s t E k place state running f at.below at.runs at.frames d in
      record {
        lowered = p.lowered;
        is_node = p.is_node;
        at = p.at;
        variables = p.variables;
        equal = p.equal;
        here = here;
        held = edge_before x given gives S s t E k (method_of f) here.entry here.fact at.now.node f.offset p.at here.held;
      }

  -- the frame from which the program is started stands at a node of the start, which has no slots
  abbrev pub stands_at_start : (state : State) (offset : ℕ) (at : AtStart state offset) (n : Node) → Contains k.start.0 n → n.offset ≡ offset → (place : ℕ)
      → Described x given gives S s t E k place state → Stands state.world place at.frame at.below n
  stands_at_start state offset at n there offset_is place d =
      let f = at.frame in
      let l = start_method k.start.0 in
      let none : method_of f ≡ None = ap (option_map number_as) at.no_method in
      let stands : n.offset ≡ f.offset = offset_is ∙ sym at.stands in
      let here : IsRunning x gives S s t E state.world place f at.below = described_in x given gives S s t E k place state running f at.below at.runs at.frames d in
      record {
        lowered = l;
        is_node = record { method = subst (λ (o : Option MethodNo). IsMethod x gives l o) (sym none) (IsMethod.of_start k.start.1 refl refl refl); stands = there };
        at = stands;
        variables = HasVariables.of_start refl refl;
        equal = λ reads. equal_at_start l n f.slots refl refl;
        here = here;
        held = edge_before x given gives S s t E k (method_of f) here.entry here.fact n f.offset stands here.held;
      }
