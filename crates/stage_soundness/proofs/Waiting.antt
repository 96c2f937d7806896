-- Frames that wait, while the frames above them step; and the nodes at which they stand.
use Rattle.std.proofs.Common.{◌≡◌, ◌≢◌, ◌⊎◌, inl, inr, ℕ, false, List, [], ◌∷◌, Option, Some, refl, ap, ◌∙◌, subst}
use Rattle.std.proofs.lemmas.Bool.{false≢true}
use Rattle.jvm_model.specs.declared.number.FieldNo.{FieldNo}
use Rattle.jvm_model.specs.declared.number.MethodNo.{MethodNo}
use Rattle.jvm_model.specs.declared.site.Site.{Site}
use Rattle.op_model.specs.declared.lowered.LoweredMethod.{LoweredMethod}
use Rattle.op_model.specs.declared.node.Node.{Node}
use Rattle.op_model.specs.declared.node.Spot.{Spot}
use Rattle.op_model.specs.declared.op.Op.{Op}
use Rattle.op_model.specs.declared.op.Op.TheVariants.{Store}
use Rattle.op_model.specs.Supplies.{Given, GivenAs}
use Rattle.machine_bytecode.specs.Objects.{Subject}
use Rattle.machine_bytecode.specs.States.{Value, Object, Frame, World}
use Rattle.machine_nodes.specs.NodeSteps.{Leads}
use Rattle.points_to_rules.specs.Facts.{Fact, may_run, may_call, may_write}
use Rattle.points_to_rules.specs.Rules.{IsNodeOf, StartsAt}
use Rattle.points_to_rules.specs.Writes.{write, target_writes, initialiser_writes}
use Rattle.stage_facts.specs.Facts.{SiteFact}
use Rattle.stage_transfer.specs.Calls.{by_call, by_trigger, Entering}
use Rattle.stage_transfer.specs.Stages.{Transfer}
use Rattle.stage_edges.specs.Rules.{Edge, edge, Enters, called, triggered, IsNode, node_at}
use Rattle.stage_steps.specs.Said.{ChangesFields}
use Rattle.stage_steps.proofs.Leaving.{Behind}
use Rattle.stage_steps.proofs.Paths.{Unchanged}
use Rattle.stage_steps.proofs.Shapes.{field_unchanged, shape}
use Rattle.stage_steps.proofs.Sites.{field_or_not}
use Rattle.stage_soundness.specs.Describing.{AreWaiting, method_of, Waits, waits_so}
use Rattle.stage_soundness.proofs.Known.{node_in, Premises}

pub no_changes : (S : Fact → Type 0) (m : MethodNo) (before after : List Object) → ((f : FieldNo) → Unchanged before after f) → ChangesFields S m before after
no_changes S m before after same = record { each = λ place f. inl (same f place) }

pub more_changes : (S : Fact → Type 0) (m : MethodNo) (a b c : List Object) → ChangesFields S m a b → ChangesFields S m b c → ChangesFields S m a c
more_changes S m a b c first second = record {
  each = λ place f. elim (second.each place f) [
    | inl later ↦ elim (first.each place f) [ inl earlier ↦ inl (later ∙ earlier) | inr may ↦ inr may ]
    | inr may ↦ inr may
  ];
}

-- whether an operation stores to a field
pub stores_or_not : (op : Op) (f : FieldNo) → ((object : ℕ) × (value : ℕ) × (op ≡ Store object f value)) ⊎ ((object value : ℕ) → op ≢ Store object f value)
stores_or_not (Store object g value) f = elim (field_or_not g f) [
  | inl e ↦ inl (object, value, ap (λ (h : FieldNo). Store object h value) e)
  | inr ne ↦ inr (λ a b e. ne (cc e))
]
stores_or_not op f = inr (λ a b e. cc e)

-- a frame that does not wait for a call waits for an initialiser
pub triggered_of : (by : Entering) → false ≡ waits_so by → by ≡ by_trigger
triggered_of (by_call c) e = absurd (false≢true e)
triggered_of by_trigger e = refl

module _ (x : Subject) (given : Given) (gives : GivenAs) (S : Fact → Type 0) (s : Site) (t : Transfer) (E : Edge → Type 0) (k : Premises x given gives S s t E) where
  -- an operation changes fields that its method may write
  pub operation_changes : (m : MethodNo) (l : LoweredMethod) (n : Node) (w after : World) (old left : List Value) → IsNodeOf gives m l n → S (may_run m) → Leads n.op x w old left after
      → ChangesFields S m w.heap after.heap
  operation_changes m l n w after old left node runs leads = record {
    each = λ place f. elim (stores_or_not n.op f) [
      | inl store ↦ inr (k.writes _ _ (write m l n store.0 store.1 f node store.2) (runs, tt))
      | inr none ↦ inl (field_unchanged (shape n.op x w after old left leads) f none place)
    ];
  }

  -- what a target may write, its caller may write
  pub written_above : (o : Option MethodNo) (m : MethodNo) (l : LoweredMethod) (n : Node) (target : MethodNo) (fact sent : SiteFact) (by : Entering) (f : FieldNo) → o ≡ Some m → S (may_run m)
      → IsNode x gives o l n → Enters x S t o l n target fact by sent → S (may_write target f) → S (may_write m f)
  written_above o m l n target fact sent by f e runs node (called c u op goes file listed) writes =
      k.writes _ _ (target_writes m l n target f (node_in x gives l n o m e node))
      (runs, (subst (λ (j : Option MethodNo). S (may_call (node_at j n) target)) e goes, (writes, tt)))
  written_above o m l n target fact sent by f e runs node (triggered starts) writes =
      k.writes _ _ (initialiser_writes m l n target f (node_in x gives l n o m e node) starts) (runs, (writes, tt))

  module _ (place : ℕ) where
    abbrev pub waits_on : (w after : World) (f : Frame) (target : MethodNo) (entry : SiteFact) → ChangesFields S target w.heap after.heap
        → Waits x gives S s t E w place f target entry → Waits x gives S s t E after place f target entry
    waits_on w after f target entry changes a = record {
      lowered = a.lowered;
      node = a.node;
      is_node = a.is_node;
      at = a.at;
      runs = a.runs;
      by = a.by;
      waits = a.waits;
      own = a.own;
      fact = a.fact;
      sent = a.sent;
      held = a.held;
      enters = a.enters;
      entered = a.entered;
      slots = a.slots;
      world = a.world;
      says = a.says;
      alike = a.alike;
      stays = a.stays;
      cleared = a.cleared;
      bounded = a.bounded;
      changes = more_changes S target a.world.heap w.heap after.heap a.changes changes;
    }

    -- what is said of waiting frames stays where only fields change that the method above them may write
    pub waiting_on : (w after : World) (below : List Frame) (above : Option MethodNo) (entry : SiteFact) → ((m : MethodNo) → above ≡ Some m → ChangesFields S m w.heap after.heap)
        → AreWaiting x gives S s t E w place below above entry → AreWaiting x gives S s t E after place below above entry
    waiting_on w after [] above entry changes a = a
    waiting_on w after (f ∷ below) above entry changes a = record {
      called = a.called;
      is_called = a.is_called;
      first = waits_on w after f a.called entry (changes a.called a.is_called) a.first;
      rest = waiting_on w after below (method_of f) a.first.own
          (λ m e. record {
            each = λ p g. elim ((changes a.called a.is_called).each p g) [
              | inl same ↦ inl same
              | inr may ↦ inr (written_above (method_of f) m a.first.lowered a.first.node a.called a.first.fact a.first.sent a.first.by g e (a.first.runs m e) a.first.is_node a.first.enters may)
            ];
          }) a.rest;
    }

  -- ---- methods that are left

  -- a frame that waited, now that the method above it is left
  abbrev pub behind_of : (now : World) (place : ℕ) (f : Frame) (target : MethodNo) (entry : SiteFact) (a : Waits x gives S s t E now place f target entry)
      → Behind S s place now a.by target a.sent f.slots
  behind_of now place f target entry a = record {
    slots = a.slots;
    world = a.world;
    says = a.says;
    stays = a.stays;
    cleared = a.cleared;
    bounded = a.bounded;
    changes = a.changes;
  }

  -- the edge where a method is left, as its caller has it
  pub exit_edge : (o : Option MethodNo) (target : MethodNo) (entry entered fact : SiteFact) (spot : Spot) → o ≡ Some target → entry ≡ entered → E (edge o entry spot fact)
      → E (edge (Some target) entered spot fact)
  exit_edge o target entry entered fact spot is same held =
      subst (λ (e : SiteFact). E (edge (Some target) e spot fact)) same (subst (λ (m : Option MethodNo). E (edge m entry spot fact)) is held)

  -- a frame that waits for an initialiser sent what it knew
  pub record IsTriggered (l : LoweredMethod) (n : Node) (target : MethodNo) (fact : SiteFact) (by : Entering) (sent : SiteFact) : Type 0 where
    pub starts : StartsAt x.program n target
    pub entered : t.enter by sent ≡ t.enter by_trigger fact
    pub left : (out : SiteFact) → t.leave l n by target sent out ≡ t.leave l n by_trigger target fact out

  pub triggered_by : (o : Option MethodNo) (l : LoweredMethod) (n : Node) (target : MethodNo) (fact : SiteFact) (by : Entering) (sent : SiteFact) → Enters x S t o l n target fact by sent
      → by ≡ by_trigger → IsTriggered l n target fact by sent
  triggered_by o l n target fact _ sent (called c u op goes file listed) is = absurd (let bad : by_call c ≡ by_trigger = is in cc bad)
  triggered_by o l n target fact _ _ (triggered starts) is = record { starts = starts; entered = refl; left = λ out. refl }
