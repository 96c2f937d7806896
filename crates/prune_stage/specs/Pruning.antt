-- Public contracts rest on this module.
-- The first stage: the events that may occur at the objects of a site, in whatever order and however often each (Fink et al., section 4.1).
use Rattle.std.specs.Prelude.{◌≡◌, ◌↔◌, ℕ, Bool, List, All, Some, slice_get, IsTrue}
use Rattle.jvm_model.specs.declared.automaton.Automaton.{Automaton}
use Rattle.jvm_model.specs.declared.automaton.Event.{Event}
use Rattle.jvm_model.specs.declared.number.MethodNo.{MethodNo}
use Rattle.jvm_model.specs.declared.site.Site.{Site}
use Rattle.jvm_model.specs.Programs.{Program}
use Rattle.machine_bytecode.specs.Events.{event_for}
use Rattle.machine_nodes.specs.NodeSteps.{is_selecting_kind}
use Rattle.op_model.specs.declared.lowered.LoweredMethod.{LoweredMethod}
use Rattle.op_model.specs.declared.node.Node.{Node}
use Rattle.op_model.specs.declared.op.Call.{Call as NodeCall}
use Rattle.op_model.specs.declared.op.Op.TheVariants.{Call}
use Rattle.op_model.specs.Supplies.{GivenAs}
use Rattle.points_to_rules.specs.Facts.{Fact, Holder, may_hold, may_run}
use Rattle.points_to_rules.specs.Rules.{IsNodeOf, IsSlot}
use Rattle.prune_stage.specs.StageOne.{state_after}
use Rattle.site_report.specs.declared.tracked_site.TrackedSite.{TrackedSite}
use Rattle.site_report.specs.Sites.{site_in}

-- A call of a method that may run selects by its object, is the event, and may be made on an object of the site.
pub record MayOccur (gives : GivenAs) (S : Fact → Type 0) (a : Automaton) (s : Site) (e : Event) : Type 0 where
  pub m : MethodNo
  pub l : LoweredMethod
  pub n : Node
  pub c : NodeCall
  pub runs : S (may_run m)
  pub node : IsNodeOf gives m l n
  pub is_call : n.op ≡ Call c
  pub selecting : IsTrue (is_selecting_kind c.kind)
  pub event : event_for a (record { name = c.name; descriptor = c.descriptor }) ≡ Some e
  pub z : ℕ
  pub receiver : slice_get c.arguments 0 ≡ Some (Some z)
  pub from : Holder
  pub slot : IsSlot l n z from
  pub holds : S (may_hold from s)

-- No word over these events leads from the initial to the error state.
pub record IsPruned (gives : GivenAs) (S : Fact → Type 0) (a : Automaton) (s : Site) : Type 0 where
  pub no_word : (word : List Event) → All (MayOccur gives S a s) word → state_after a.initial word ≡ a.error → ⊥

-- The answer says whether the first stage proves the site safe.
abbrev pub IsPruningOf : Program → GivenAs → (Fact → Type 0) → Automaton → TrackedSite → Bool → Type 0
IsPruningOf p gives S a t answer = IsTrue answer ↔ IsPruned gives S a (site_in p t)
