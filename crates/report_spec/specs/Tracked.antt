-- Public contracts rest on this module.
-- The allocation sites that a property is about: those at which methods that may run make objects of the property's class or of one below it.
use Rattle.std.specs.Prelude.{◌≡◌, ◌↔◌, ℕ, List, Contains}
use Rattle.jvm_model.specs.declared.number.MethodNo.{MethodNo}
use Rattle.jvm_model.specs.declared.site.Site.{Site}
use Rattle.jvm_model.specs.declared.site.SiteKind.TheVariants as kinds
use Rattle.jvm_model.specs.declared.stub.StubMethod.{StubMethod}
use Rattle.jvm_model.specs.declared.stub.StubResult.TheVariants as results
use Rattle.jvm_model.specs.Programs.{Program}
use Rattle.jvm_model.specs.Subtypes.{IsSubtype}
use Rattle.program_model.specs.Numbers.{name_at, IsClassNumber}
use Rattle.op_model.specs.declared.lowered.LoweredMethod.{LoweredMethod}
use Rattle.op_model.specs.declared.node.Node.{Node}
use Rattle.op_model.specs.declared.op.Call.{Call as NodeCall}
use Rattle.op_model.specs.declared.op.Op.TheVariants.{New, Call}
use Rattle.op_model.specs.Supplies.{GivenAs}
use Rattle.points_to_rules.specs.Calls.{IsDescribedBy}
use Rattle.points_to_rules.specs.Facts.{Fact, may_run, may_call}
use Rattle.points_to_rules.specs.Rules.{IsNodeOf, node_of, site_of}
use Rattle.site_report.specs.declared.tracked_site.TrackedSite.{TrackedSite}
use Rattle.site_report.specs.Sites.{site_in, AreInOrder}

-- A node of a method that may run makes objects at the site (JVMS 6.5.new); or its call may go to a described method that gives a new object.
pub data Allocates (p : Program) (gives : GivenAs) (S : Fact → Type 0) (s : Site) : Type 0 where
  makes : (m : MethodNo) (l : LoweredMethod) (n : Node) (target : ℕ) → S (may_run m) → IsNodeOf gives m l n → n.op ≡ New s target → Allocates p gives S s
  is_given : (m : MethodNo) (l : LoweredMethod) (n : Node) (c : NodeCall) (target : MethodNo) (stub : StubMethod) (class : List ℕ)
      → S (may_run m) → IsNodeOf gives m l n → n.op ≡ Call c → S (may_call (node_of m n) target) → IsDescribedBy p target stub
      → Contains stub.returns (results.New class) → s ≡ site_of kinds.Result m n class → Allocates p gives S s

-- Objects are made at the site, and their class is the named one or below it. So it is that of no array.
pub record IsTracked (p : Program) (gives : GivenAs) (S : Fact → Type 0) (upper : List ℕ) (t : TrackedSite) : Type 0 where
  pub known : IsClassNumber p t.class.0
  pub allocated : Allocates p gives S (site_in p t)
  pub below : IsSubtype p upper (name_at p t.class.0)

-- The list has all of them, each once, in the order of a report.
pub record AreTracked (p : Program) (gives : GivenAs) (S : Fact → Type 0) (upper : List ℕ) (sites : List TrackedSite) : Type 0 where
  pub those : (t : TrackedSite) → Contains sites t ↔ IsTracked p gives S upper t
  pub order : AreInOrder sites
