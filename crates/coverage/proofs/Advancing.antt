-- Steps of operations that go on keep covered states covered.
use Rattle.std.proofs.Common.{◌≡◌, inl, inr, ℕ, false, List, Contains, refl, sym, subst}
use Rattle.jvm_model.specs.declared.number.MethodNo.{MethodNo}
use Rattle.least_sets.specs.Rules.{IsClosedSet}
use Rattle.op_model.specs.declared.lowered.LoweredMethod.{LoweredMethod}
use Rattle.op_model.specs.declared.node.Node.{Node}
use Rattle.op_model.specs.declared.op.Op.{Op}
use Rattle.op_model.specs.Supplies.{Given, GivenAs, IsMapOf}
use Rattle.machine_bytecode.specs.Objects.{Subject}
use Rattle.machine_bytecode.specs.States.{Value, Object, Frame, State, World, moved_to}
use Rattle.machine_nodes.specs.Nodes.{StandsAt}
use Rattle.machine_nodes.specs.NodeSteps.{AtNode, Leads, Advances}
use Rattle.points_to_rules.specs.Facts.{Fact}
use Rattle.points_to_rules.specs.Rules.{Instance}
use Rattle.points_to_rules.specs.WholeMethods.{AreWholeMethods}
use Rattle.coverage.specs.Covering.{StandsIn, IsCoveredFrame, AreCoveredBelow, Covers}
use Rattle.coverage.proofs.Worlds.{IsLater}
use Rattle.coverage.proofs.Frames.{below_on, frames_are}
use Rattle.coverage.proofs.Places.{IsStartNode, Place, in_method, at_start, place_of, stands_in}
use Rattle.coverage.proofs.Slots.{AreSlotsCovered, IsNext}
use Rattle.coverage.proofs.Within.{IsLed, leads_covered}

module _ (x : Subject) (given : Given) (gives : GivenAs) (S : Fact → Type 0) (map : IsMapOf given gives) (closed : IsClosedSet (Instance x.program gives (record { 0 = x.entry })) S)
    (whole : AreWholeMethods x.program gives) where
  -- the slots at the node of a frame
  pub slots_here : (heap : List Object) (f : Frame) (m : MethodNo) (l : LoweredMethod) (n : Node) → StandsIn gives f m l n → IsCoveredFrame gives S heap f → AreSlotsCovered S l n heap f.slots
  slots_here heap f m l n here c z v inside named = c.slots m l n z v here inside named

  -- a frame that goes on to a node
  pub next_node : (f : Frame) (m : MethodNo) (l : LoweredMethod) (n k : Node) (next : ℕ) (slots : List Value) → StandsIn gives f m l n → Contains n.successors next → StandsIn gives (moved_to f next slots) m l k
      → IsNext l n k
  next_node f m l n k next slots here goes there = record {
    stands = there.node.stands;
    leads = record { stands = here.node.stands; goes = subst (λ (o : ℕ). Contains n.successors o) (sym there.at) goes };
  }

  -- a frame after its node, where the slots are covered at each next node
  pub moved_frame : (heap later : List Object) (f : Frame) (now : StandsAt x given f) (next : ℕ) (slots : List Value) → Contains now.node.successors next → IsCoveredFrame gives S heap f
      → ((m : MethodNo) (l : LoweredMethod) (k : Node) → StandsIn gives f m l now.node → IsNext l now.node k → AreSlotsCovered S l k later slots)
      → IsCoveredFrame gives S later (moved_to f next slots)
  moved_frame heap later f now next slots goes c after = record {
    runs = c.runs;
    slots = λ m l k z v there inside named.
        let here = stands_in x given gives map f now m l there.in_method there.node.given in
        after m l k here (next_node f m l now.node k next slots here goes there) z v inside named;
  }

  -- no operation of the start goes on by itself
  pub start_leads_not : (n : Node) (w after : World) (slots left : List Value) → IsStartNode x n → Leads n.op x w slots left after → ⊥
  start_leads_not n w after slots left (inl call) leads = subst (λ (op : Op). Leads op x w slots left after) call.op leads
  start_leads_not n w after slots left (inr return) leads = subst (λ (op : Op). Leads op x w slots left after) return.op leads

  pub advances_cover : (s t : State) (at : AtNode x given s) → Advances x given s t at → Covers x gives S s → Covers x gives S t
  advances_cover s t at a c =
      subst (λ (u : State). Covers x gives S u) (sym a.after) (record {
        world = world.covered;
        frames = (
          moved_frame s.world.heap a.world.heap f at.now a.next a.left a.goes frames.0 (λ m l k here next. (led m l here).slots k next),
          refl,
          below_on x gives S s.world.heap a.world.heap at.below f.method world.grows frames.2,
        );
        mode = tt;
      })
    where
      f : Frame
      f = at.frame

      frames : IsCoveredFrame gives S s.world.heap at.frame × (at.frame.waits ≡ false) × AreCoveredBelow x gives S s.world.heap at.below at.frame.method
      frames = frames_are x gives S s.world.heap s.frames at.below at.frame at.frames c.frames

      led : (m : MethodNo) (l : LoweredMethod) → StandsIn gives at.frame m l at.now.node → IsLed x gives S closed whole l at.now.node s.world a.world a.left
      led m l here =
          leads_covered x gives S closed whole m l at.now.node here.node (frames.0.runs m here.in_method) at.now.node.op s.world a.world at.frame.slots a.left refl a.leads c.world
          (slots_here s.world.heap at.frame m l at.now.node here frames.0)

      world : IsLater x gives S s.world a.world
      world = by (place_of x given gives map at.frame at.now)
        where
          by : Place x gives at.frame at.now.locals at.now.node → IsLater x gives S s.world a.world
          by (in_method m l here count) = (led m l here).later
          by (at_start no_method offset is_start) = absurd (start_leads_not at.now.node s.world a.world at.frame.slots a.left is_start a.leads)
