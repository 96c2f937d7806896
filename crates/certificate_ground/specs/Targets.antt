-- This crate's own proofs alone rest on this module.
-- The targets of calls, by what places hold.
use Rattle.std.specs.Prelude.{◌≡◌, ℕ, List, Ok, Some, slice_get, Contains}
use Rattle.jvm_model.specs.declared.number.MethodNo.{MethodNo}
use Rattle.jvm_model.specs.declared.number.SiteNo.{SiteNo}
use Rattle.jvm_model.specs.declared.site.Site.{Site}
use Rattle.jvm_model.specs.Programs.{Program}
use Rattle.op_model.specs.declared.lowered.LoweredMethod.{LoweredMethod}
use Rattle.op_model.specs.declared.node.Node.{Node}
use Rattle.op_model.specs.declared.node.NodeRef.{NodeRef}
use Rattle.op_model.specs.declared.op.Call.{Call as NodeCall}
use Rattle.op_model.specs.declared.op.Op.TheVariants.{Call}
use Rattle.slot_names.specs.declared.variable.Variable.{Variable}
use Rattle.slot_names.specs.Variables.{IsVariable}
use Rattle.points_to_rules.specs.declared.place.Place.TheVariants as places
use Rattle.points_to_rules.specs.declared.running_method.RunningMethod.{RunningMethod}
use Rattle.points_to_rules.specs.Calls.{SelectsFor}
use Rattle.points_to_rules.specs.Rules.{node_of}
use Rattle.certificate_ground.specs.declared.held.Held.{Held}
use Rattle.certificate_ground.specs.Pairs.{IsPair}

-- The place of the variable holds the site of the number.
abbrev pub IsHeldAt : Held → Variable → SiteNo → Type 0
IsHeldAt held v site = IsPair held.places.keys held.sites.groups.items (places.Variable v) site

-- The variable of the first argument holds the site of the number.
pub record IsReceiver (held : Held) (l : LoweredMethod) (n : Node) (c : NodeCall) (site : SiteNo) : Type 0 where
  pub slot : ℕ
  pub passed : slice_get c.arguments 0 ≡ Some (Some slot)
  pub name : Variable
  pub named : IsVariable l n slot name
  pub holds : IsHeldAt held name site

-- An object of the site of the number selects the target.
pub record Selects (p : Program) (sites : List Site) (c : NodeCall) (site : SiteNo) (target : MethodNo) : Type 0 where
  pub receiver : Site
  pub numbered : slice_get sites site.0 ≡ Some receiver
  pub selects : SelectsFor c.kind p c.resolved receiver (Ok target.0)

-- It is this call, and an object of the site of the number selects the target.
abbrev pub IsSelectedAt : Program → List Site → NodeCall → NodeRef → SiteNo → NodeRef → MethodNo → Type 0
IsSelectedAt p sites c at site call target = (call ≡ at) × Selects p sites c site target

-- It is this call, and an object of one of the sites selects the target.
abbrev pub IsSelectedBy : Program → List Site → NodeCall → NodeRef → List SiteNo → NodeRef → MethodNo → Type 0
IsSelectedBy p sites c at receivers call target = (call ≡ at) × ((site : SiteNo) × Contains receivers site × Selects p sites c site target)

-- The operation is a call, which goes to the target: its chosen one, or the one that an object of its first argument selects.
pub data GoesTo (p : Program) (sites : List Site) (held : Held) (l : LoweredMethod) (n : Node) (target : MethodNo) : Type 0 where
  chosen : (c : NodeCall) → n.op ≡ Call c → c.chosen ≡ Some target → GoesTo p sites held l n target
  selected : (c : NodeCall) (site : SiteNo) → n.op ≡ Call c → IsReceiver held l n c site → Selects p sites c site target → GoesTo p sites held l n target

-- It is the call of the node, which goes to the target.
abbrev pub IsTargetOf : Program → List Site → Held → LoweredMethod → Node → NodeRef → MethodNo → Type 0
IsTargetOf p sites held l n call target = (call ≡ node_of l.method n) × GoesTo p sites held l n target

-- It is the call of a node of the method, which goes to the target.
abbrev pub IsTargetIn : Program → List Site → Held → RunningMethod → NodeRef → MethodNo → Type 0
IsTargetIn p sites held r call target = (n : Node) × Contains r.method.nodes n × IsTargetOf p sites held r.method n call target
