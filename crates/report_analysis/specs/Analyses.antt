-- Public contracts rest on this module.
-- The answer of the analysis: the least sets of all rules, below the limit and without a refusal.
use Rattle.std.specs.Prelude.{◌≡◌, ℕ, List, Contains, Ok, Some, slice_get}
use Rattle.jvm_model.specs.declared.number.MethodNo.{MethodNo}
use Rattle.jvm_model.specs.declared.site.Site.{Site}
use Rattle.jvm_model.specs.Programs.{Program}
use Rattle.op_model.specs.declared.lowered.LoweredMethod.{LoweredMethod}
use Rattle.op_model.specs.Supplies.{GivenAs}
use Rattle.least_sets.specs.Rules.{IsLeast}
use Rattle.points_to_rules.specs.Facts.{Fact, Holder, may_hold, may_run}
use Rattle.points_to_rules.specs.Refusals.{IsUnrefused}
use Rattle.points_to_rules.specs.Writes.{AnyInstance}
use Rattle.points_to_rules.specs.Solutions.{IsSolution}
use Rattle.ground.specs.Findings.{Findings}

-- The listed methods are those that may run and are given as nodes, each once.
pub record AreListed (gives : GivenAs) (S : Fact → Type 0) (methods : List LoweredMethod) : Type 0 where
  pub only : (l : LoweredMethod) → Contains methods l → S (may_run l.method) × gives l.method.0 (Ok l)
  pub all : (number : MethodNo) (l : LoweredMethod) → S (may_run number) → gives number.0 (Ok l) → Contains methods l
  pub apart : (i j : ℕ) (a b : LoweredMethod) → slice_get methods i ≡ Some a → slice_get methods j ≡ Some b → a.method ≡ b.method → i ≡ j

-- The ground is one of the program and has the least facts, of which those that are not of writes are the solution below the limit; and its methods
-- are those that may run. Each holder of an object stands at a place.
pub record IsAnalysis (p : Program) (gives : GivenAs) (entry : MethodNo) (limit : ℕ) (g : Findings) : Type 0 where
  pub found : List Fact
  pub solution : IsSolution p gives entry limit found
  pub program : g.program ≡ p
  pub least : IsLeast (AnyInstance p gives entry) g.facts
  pub unrefused : IsUnrefused p gives (Contains g.facts)
  pub listed : AreListed gives (Contains g.facts) g.methods
  pub placed : (h : Holder) (s : Site) → Contains g.facts (may_hold h s) → (place : ℕ) × (slice_get g.holders place ≡ Some h)
