-- Public contracts rest on this module.
-- The ground of what a certificate lists: its facts are the listed ones, and the targets of calls that follow from them.
use Rattle.std.specs.Prelude.{◌≡◌, ◌⊎◌, ◌↔◌, ℕ, List, Ok, Some, slice_get, Contains}
use Rattle.jvm_model.specs.declared.number.MethodNo.{MethodNo}
use Rattle.jvm_model.specs.declared.site.Site.{Site}
use Rattle.jvm_model.specs.Programs.{Program}
use Rattle.op_model.specs.declared.lowered.LoweredMethod.{LoweredMethod}
use Rattle.op_model.specs.declared.node.NodeRef.{NodeRef}
use Rattle.op_model.specs.Supplies.{GivenAs}
use Rattle.least_sets.specs.Rules.{Hold}
use Rattle.points_to_rules.specs.Facts.{Fact, may_call}
use Rattle.points_to_rules.specs.Rules.{Instance}
use Rattle.ground.specs.Findings.{Findings}
use Rattle.certificate_lines.specs.declared.line.Line.{Line}
use Rattle.certificate_lines.specs.declared.line.Line.TheVariants as lines
use Rattle.certificate_ground.specs.Listed.{IsListed, named_sites}

-- The call goes to the target by a rule whose premises are all listed.
pub record IsTargetBy (p : Program) (gives : GivenAs) (entry : MethodNo) (all : List Line) (call : NodeRef) (target : MethodNo) : Type 0 where
  pub premises : List Fact
  pub listed : Hold (IsListed all) premises
  pub instance : Instance p gives entry premises (may_call call target)

-- The fact says that a call goes to a target by such a rule.
abbrev pub IsTargetFact : Program → GivenAs → MethodNo → List Line → Fact → Type 0
IsTargetFact p gives entry all f = (call : NodeRef) × (target : MethodNo) × (f ≡ may_call call target) × IsTargetBy p gives entry all call target

-- The methods are those that are listed as reached and given as nodes, each once.
pub record AreReached (gives : GivenAs) (listed : List Line) (methods : List LoweredMethod) : Type 0 where
  pub only : (l : LoweredMethod) → Contains methods l → Contains listed (lines.Reached l.method) × gives l.method.0 (Ok l)
  pub all : (number : MethodNo) (l : LoweredMethod) → Contains listed (lines.Reached number) → gives number.0 (Ok l) → Contains methods l
  pub apart : (i j : ℕ) (a b : LoweredMethod) → slice_get methods i ≡ Some a → slice_get methods j ≡ Some b → a.method ≡ b.method → i ≡ j

-- The ground is one of the program. Its facts are those that are listed and the targets that follow, its methods those that are reached and
-- given; and each site that a line of a pair or of a claim names has a number.
pub record IsListedGround (p : Program) (gives : GivenAs) (entry : MethodNo) (all : List Line) (g : Findings) : Type 0 where
  pub program : g.program ≡ p
  pub facts : (f : Fact) → Contains g.facts f ↔ (IsListed all f ⊎ IsTargetFact p gives entry all f)
  pub methods : AreReached gives all g.methods
  pub named : (x : Line) (s : Site) → Contains all x → Contains (named_sites x) s → (number : ℕ) × (slice_get g.sites number ≡ Some s)
