-- This crate's own proofs alone rest on this module.
-- The lists of what lines list.
use Rattle.std.specs.Prelude.{◌≡◌, ◌⊎◌, ◌↔◌, ◌<◌, ◌^◌, List, length, map, Contains}
use Rattle.jvm_model.specs.declared.number.MethodNo.{MethodNo}
use Rattle.jvm_model.specs.declared.site.Site.{Site}
use Rattle.jvm_model.specs.Programs.{Program}
use Rattle.op_model.specs.declared.node.NodeRef.{NodeRef}
use Rattle.op_model.specs.Supplies.{GivenAs}
use Rattle.least_sets.specs.Rules.{IsWithoutDoubles}
use Rattle.points_to_rules.specs.declared.running_method.RunningMethod.{RunningMethod}
use Rattle.points_to_rules.specs.Rules.{start_call}
use Rattle.ground.specs.declared.lists.FieldWrite.{FieldWrite}
use Rattle.ground.specs.declared.lists.Lists.{Lists}
use Rattle.ground.specs.Added.{OfOne}
use Rattle.ground.specs.Lists.{number_of}
use Rattle.certificate_lines.specs.declared.line.Line.{Line}
use Rattle.certificate_ground.specs.declared.held.Held.{Held}
use Rattle.certificate_ground.specs.Held.{IsHeldIn}
use Rattle.certificate_ground.specs.Pairs.{ArePairs, IsJust, OfSome}
use Rattle.certificate_ground.specs.Reached.{AreGivenOf, IsReachedBy, IsWriteOf}
use Rattle.certificate_ground.specs.Sites.{AreNumbered}
use Rattle.certificate_ground.specs.Targets.{IsTargetIn}

-- The sites have numbers, each one; and pairs and writes are those that lines list.
pub record AreListedSets (all : List Line) (sites : List Site) (held : Held) (writes : List FieldWrite) : Type 0 where
  pub named : AreNumbered all sites
  pub apart : IsWithoutDoubles sites
  pub pairs : ArePairs (IsHeldIn sites all) held.places.keys held.sites.groups.items
  pub places_apart : IsWithoutDoubles held.places.keys
  pub few : length held.places.keys < 2 ^ 32
  pub written : (w : FieldWrite) → Contains writes w ↔ OfOne IsWriteOf all w

-- The call of the start goes to the entry, and the calls of the methods where they go by what places hold.
abbrev pub IsTarget : Program → List Site → Held → MethodNo → List RunningMethod → NodeRef → MethodNo → Type 0
IsTarget p sites held entry methods call target = IsJust start_call entry call target ⊎ OfSome (IsTargetIn p sites held) methods call target

-- The places of lists with what they hold.
abbrev pub held_in : Lists → Held
held_in l = record { places = l.places; sites = l.held }

-- The lists are what lines list, with the methods that are given and the targets of their calls.
pub record AreListsOf (p : Program) (gives : GivenAs) (entry : MethodNo) (all : List Line) (l : Lists) : Type 0 where
  pub running : (m : MethodNo) → Contains l.running.keys m ↔ OfOne IsReachedBy all m
  pub given : AreGivenOf gives l.running.keys l.methods.items
  pub numbered : l.numbers.keys ≡ map number_of l.methods.items
  pub sets : AreListedSets all l.sites.items (held_in l) l.writes.keys
  pub targets : ArePairs (IsTarget p l.sites.items (held_in l) entry l.methods.items) l.calls.keys l.targets.groups.items
