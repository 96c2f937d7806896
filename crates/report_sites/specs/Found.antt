-- This crate's own proofs alone rest on this module.
-- The tracked sites as they are found: by an outcome of a target, by a target, at a node, in a method, and in all methods.
use Rattle.std.specs.Prelude.{◌≡◌, ◌↔◌, ◌⊎◌, ℕ, false, List, Option, Some, Contains}
use Rattle.jvm_model.specs.declared.number.ClassNo.{ClassNo}
use Rattle.jvm_model.specs.declared.number.MethodNo.{MethodNo}
use Rattle.jvm_model.specs.declared.site.Site.{Site}
use Rattle.jvm_model.specs.declared.site.SiteKind.TheVariants as kinds
use Rattle.jvm_model.specs.declared.stub.StubMethod.{StubMethod}
use Rattle.jvm_model.specs.declared.stub.StubResult.{StubResult}
use Rattle.jvm_model.specs.declared.stub.StubResult.TheVariants as results
use Rattle.jvm_model.specs.Programs.{Program}
use Rattle.jvm_model.specs.Subtypes.{IsSubtype}
use Rattle.program_model.specs.Numbers.{name_at, IsClassNumber}
use Rattle.op_model.specs.declared.lowered.LoweredMethod.{LoweredMethod}
use Rattle.op_model.specs.declared.node.Node.{Node}
use Rattle.op_model.specs.declared.op.Call.{Call as NodeCall}
use Rattle.op_model.specs.declared.op.Op.TheVariants.{New, Call}
use Rattle.points_to_rules.specs.Calls.{IsDescribedBy}
use Rattle.points_to_rules.specs.Facts.{may_call, may_run}
use Rattle.points_to_rules.specs.Rules.{node_of}
use Rattle.ground.specs.Added.{OfOne}
use Rattle.ground.specs.Findings.{Findings}
use Rattle.site_report.specs.declared.tracked_site.TrackedSite.{TrackedSite}
use Rattle.site_report.specs.Sites.{site_in}

-- ---- one site

-- The tracked site is this one, and its class is the upper class or one below it.
pub record IsTrackedAs (p : Program) (upper : ClassNo) (s : Site) (t : TrackedSite) : Type 0 where
  pub known : IsClassNumber p t.class.0
  pub is : site_in p t ≡ s
  pub below : IsSubtype p (name_at p upper.0) (name_at p t.class.0)

-- The answer is the only tracked site that is this one, or there is none.
pub record IsOnlySite (p : Program) (upper : ClassNo) (s : Site) (answer : Option TrackedSite) : Type 0 where
  pub each : (t : TrackedSite) → (answer ≡ Some t) ↔ IsTrackedAs p upper s t

-- ---- what a call is given

-- The site at which a call of the method is given an object of the class.
abbrev pub result_site : (m : MethodNo) (offset : ℕ) (class : List ℕ) → Site
result_site m offset class = record { kind = kinds.Result; method = Some m; offset = offset; class = class }

-- The outcome is a new object of the site.
abbrev pub GivesNew : Program → ClassNo → MethodNo → (offset : ℕ) → StubResult → TrackedSite → Type 0
GivesNew p upper m offset outcome t = (class : List ℕ) × (outcome ≡ results.New class) × IsTrackedAs p upper (result_site m offset class) t

-- The stub is not abstract, and an outcome of it is a new object of the site.
abbrev pub StubGives : Program → ClassNo → MethodNo → (offset : ℕ) → StubMethod → TrackedSite → Type 0
StubGives p upper m offset stub t = (stub.is_abstract ≡ false) × OfOne (GivesNew p upper m offset) stub.returns t

-- A stub describes the target, and an outcome of it is a new object of the site.
abbrev pub TargetGives : Program → ClassNo → MethodNo → (offset : ℕ) → MethodNo → TrackedSite → Type 0
TargetGives p upper m offset target t = (stub : StubMethod) × IsDescribedBy p target stub × OfOne (GivesNew p upper m offset) stub.returns t

-- ---- nodes

-- The node makes objects at the site.
abbrev pub IsMadeAt : Program → ClassNo → Node → TrackedSite → Type 0
IsMadeAt p upper n t = (s : Site) × (target : ℕ) × (n.op ≡ New s target) × IsTrackedAs p upper s t

-- The node's call may go to a target that gives a new object of the site.
abbrev pub IsGivenAt : Program → Findings → ClassNo → MethodNo → Node → TrackedSite → Type 0
IsGivenAt p g upper m n t =
    (c : NodeCall) × (n.op ≡ Call c) × ((target : MethodNo) × Contains g.facts (may_call (node_of m n) target) × TargetGives p upper m n.offset target t)

-- It does the one or the other.
abbrev pub IsSiteOf : Program → Findings → ClassNo → MethodNo → Node → TrackedSite → Type 0
IsSiteOf p g upper m n t = IsMadeAt p upper n t ⊎ IsGivenAt p g upper m n t

-- ---- methods

-- The method may run, and the site is one of its nodes.
abbrev pub IsSiteOfMethod : Program → Findings → ClassNo → LoweredMethod → TrackedSite → Type 0
IsSiteOfMethod p g upper l t = Contains g.facts (may_run l.method) × OfOne (IsSiteOf p g upper l.method) l.nodes t

-- The list has the sites of all methods.
pub record AreFound (p : Program) (g : Findings) (upper : ClassNo) (sites : List TrackedSite) : Type 0 where
  pub each : (t : TrackedSite) → Contains sites t ↔ OfOne (IsSiteOfMethod p g upper) g.methods t

-- The lists have the same sites.
pub record HaveSame (old new : List TrackedSite) : Type 0 where
  pub each : (t : TrackedSite) → Contains new t ↔ Contains old t
