-- This crate's own proofs alone rest on this module.
-- Which events are marked at which sites, by the numbers of the events and the places of the sites.
use Rattle.std.specs.Prelude.{◌≡◌, ◌↔◌, ◌⊎◌, ℕ, ◌<◌, true, List, Some, slice_get, Contains}
use Rattle.std.specs.Option.{option_flatten}
use Rattle.jvm_model.specs.declared.automaton.Automaton.{Automaton}
use Rattle.jvm_model.specs.declared.number.SiteNo.{SiteNo}
use Rattle.jvm_model.specs.declared.site.Site.{Site}
use Rattle.op_model.specs.declared.lowered.LoweredMethod.{LoweredMethod}
use Rattle.op_model.specs.declared.node.Node.{Node}
use Rattle.op_model.specs.declared.op.Call.{Call as NodeCall}
use Rattle.op_model.specs.declared.op.Op.TheVariants.{Call}
use Rattle.points_to_rules.specs.Facts.{Holder, may_hold, may_run}
use Rattle.points_to_rules.specs.Rules.{IsSlot}
use Rattle.ground.specs.CallEvents.{call_event}
use Rattle.ground.specs.Findings.{Findings}
use Rattle.prune_stage.specs.declared.event_set.EventSet.{EventSet}

-- The event of the number is marked at the site of the place.
pub record IsMarked (sets : List EventSet) (place event : ℕ) : Type 0 where
  pub set : EventSet
  pub stands : slice_get sets place ≡ Some set
  pub occurs : slice_get set.occurs event ≡ Some true

-- What was marked still is, and what has the property is marked, and no more.
pub record AreMarked (P : (place event : ℕ) → Type 0) (old new : List EventSet) : Type 0 where
  pub each : (place event : ℕ) → IsMarked new place event ↔ (IsMarked old place event ⊎ P place event)

-- Something in the list marks the event.
abbrev pub OfOne : {X : Type 0} → (X → ℕ → ℕ → Type 0) → List X → ℕ → ℕ → Type 0
OfOne {X} R xs place event = (x : X) × Contains xs x × R x place event

-- Something below the limit marks the event.
abbrev pub OfOneBelow : (ℕ → ℕ → ℕ → Type 0) → (limit : ℕ) → ℕ → ℕ → Type 0
OfOneBelow R limit place event = (k : ℕ) × (k < limit) × R k place event

-- ---- what marks events

-- Which site, by its number, has its events marked at which place.
abbrev pub Standing : Type 1
Standing = (number place : ℕ) → Type 0

-- The event is this one, and the place that of the site.
abbrev pub SiteMarks : Standing → (event : ℕ) → SiteNo → ℕ → ℕ → Type 0
SiteMarks stands event site place e = stands site.0 place × (e ≡ event)

-- The call of the node is the event, and may be made on an object of a site that has the place.
pub record CallMarks (a : Automaton) (g : Findings) (stands : Standing) (l : LoweredMethod) (n : Node) (c : NodeCall) (place event : ℕ) : Type 0 where
  pub is_event : call_event a c ≡ Some event
  pub slot : ℕ
  pub receiver : option_flatten (slice_get c.arguments 0) ≡ Some slot
  pub from : Holder
  pub of_slot : IsSlot l n slot from
  pub site : Site
  pub holds : Contains g.facts (may_hold from site)
  pub number : ℕ
  pub numbered : slice_get g.sites number ≡ Some site
  pub at : stands number place

-- The node at a place has such a call.
pub record NodeMarks (a : Automaton) (g : Findings) (stands : Standing) (method node place event : ℕ) : Type 0 where
  pub l : LoweredMethod
  pub listed : slice_get g.methods method ≡ Some l
  pub n : Node
  pub there : slice_get l.nodes node ≡ Some n
  pub call : NodeCall
  pub is_call : n.op ≡ Call call
  pub marks : CallMarks a g stands l n call place event

-- The method at a place may run, and one of its nodes has such a call.
pub record MethodMarks (a : Automaton) (g : Findings) (stands : Standing) (method place event : ℕ) : Type 0 where
  pub node : ℕ
  pub marks : NodeMarks a g stands method node place event
  pub runs : Contains g.facts (may_run marks.l.method)
