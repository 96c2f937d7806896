-- Public contracts rest on this module.
-- A ground has the least facts that have those that were found, and all that methods may write.
use Rattle.std.specs.Prelude.{◌≡◌, ◌⊎◌, ℕ, List, [], Some, slice_get, Contains}
use Rattle.jvm_model.specs.declared.number.MethodNo.{MethodNo}
use Rattle.jvm_model.specs.declared.site.Site.{Site}
use Rattle.jvm_model.specs.Programs.{Program}
use Rattle.program_model.specs.Numbers.{IsMethodNumber}
use Rattle.op_model.specs.declared.lowered.LoweredMethod.{LoweredMethod}
use Rattle.op_model.specs.declared.node.NodeRef.{NodeRef}
use Rattle.least_sets.specs.Rules.{IsLeast}
use Rattle.points_to_rules.specs.Facts.{Fact, Holder, may_call, may_hold}
use Rattle.points_to_rules.specs.Writes.{WriteInstance}
use Rattle.ground.specs.Findings.{Findings, gives_listed}

-- The targets of calls are methods of the program.
pub record HaveTargets (p : Program) (found : List Fact) : Type 0 where
  pub each : (call : NodeRef) (target : MethodNo) → Contains found (may_call call target) → IsMethodNumber p target.0

-- What was found without what methods may write, and the rules of that.
abbrev pub GroundInstance : Program → List LoweredMethod → (found : List Fact) → List Fact → Fact → Type 0
GroundInstance p methods found premises fact = ((premises ≡ []) × Contains found fact) ⊎ WriteInstance p (gives_listed methods) premises fact

-- The ground's facts are the least ones that have those that were found, and each holder of an object stands at a place.
pub record IsGround (p : Program) (found : List Fact) (g : Findings) : Type 0 where
  pub program : g.program ≡ p
  pub least : IsLeast (GroundInstance p g.methods found) g.facts
  pub placed : (h : Holder) (s : Site) → Contains g.facts (may_hold h s) → (place : ℕ) × (slice_get g.holders place ≡ Some h)
