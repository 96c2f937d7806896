-- Public contracts rest on this module.
-- What lists by number say.
use Rattle.std.specs.Prelude.{◌≡◌, ◌↔◌, ℕ, List, map, Some, slice_get, Contains}
use Rattle.jvm_model.specs.declared.number.FieldNo.{FieldNo}
use Rattle.jvm_model.specs.declared.number.MethodNo.{MethodNo}
use Rattle.jvm_model.specs.declared.number.SiteNo.{SiteNo}
use Rattle.jvm_model.specs.declared.site.Site.{Site}
use Rattle.op_model.specs.declared.lowered.LoweredMethod.{LoweredMethod}
use Rattle.op_model.specs.declared.node.NodeRef.{NodeRef}
use Rattle.grouped_lists.specs.Groups.{values_at}
use Rattle.points_to_rules.specs.declared.running_method.RunningMethod.{RunningMethod}
use Rattle.points_to_rules.specs.Facts.{Holder, Fact, may_hold, may_run, may_call, may_write}
use Rattle.points_to_rules.specs.Places.{holder_from}
use Rattle.ground.specs.declared.lists.Lists.{Lists}

abbrev pub nodes_of : RunningMethod → LoweredMethod
nodes_of m = m.method

abbrev pub number_of : RunningMethod → MethodNo
number_of m = m.method.method

-- No two of the methods have one number.
abbrev pub HaveDifferentNumbers : List RunningMethod → Type 0
HaveDifferentNumbers methods =
    (i j : ℕ) (a b : RunningMethod) → slice_get methods i ≡ Some a → slice_get methods j ≡ Some b → number_of a ≡ number_of b → i ≡ j

-- The holders that the places stand for.
abbrev pub holders_of : Lists → List Holder
holders_of l = map (holder_from l.sites.items) l.places.keys

-- A place that stands for the holder has the number of the site.
abbrev pub IsHeldIn : Lists → Holder → Site → Type 0
IsHeldIn l h s =
    (place : ℕ) × (site : SiteNo) × (slice_get (holders_of l) place ≡ Some h) × (slice_get l.sites.items site.0 ≡ Some s) × Contains (values_at l.held.groups.items place) site

-- The target is listed for the call.
abbrev pub IsTargetIn : Lists → NodeRef → MethodNo → Type 0
IsTargetIn l call target = (number : ℕ) × (slice_get l.calls.keys number ≡ Some call) × Contains (values_at l.targets.groups.items number) target

-- The facts are those that the lists tell.
pub record HasFacts (l : Lists) (facts : List Fact) : Type 0 where
  pub holds : (h : Holder) (s : Site) → Contains facts (may_hold h s) ↔ IsHeldIn l h s
  pub runs : (m : MethodNo) → Contains facts (may_run m) ↔ Contains l.running.keys m
  pub calls : (call : NodeRef) (target : MethodNo) → Contains facts (may_call call target) ↔ IsTargetIn l call target
  pub writes : (m : MethodNo) (field : FieldNo) → Contains facts (may_write m field) ↔ Contains l.writes.keys (record { method = m; field = field })
