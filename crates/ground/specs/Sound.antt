-- Public contracts rest on this module.
-- Lists that are those of a program.
use Rattle.std.specs.Prelude.{◌≡◌, ◌<◌, ◌^◌, ℕ, length, map, Some, slice_get, Contains}
use Rattle.jvm_model.specs.declared.number.MethodNo.{MethodNo}
use Rattle.jvm_model.specs.declared.number.SiteNo.{SiteNo}
use Rattle.jvm_model.specs.declared.site.Site.{Site}
use Rattle.jvm_model.specs.Programs.{Program}
use Rattle.program_model.specs.Numbers.{IsMethodNumber}
use Rattle.op_model.specs.declared.node.NodeRef.{NodeRef}
use Rattle.grouped_lists.specs.Groups.{values_at}
use Rattle.least_sets.specs.Rules.{IsWithoutDoubles}
use Rattle.slot_names.specs.KeptNames.{name_table}
use Rattle.slot_names.specs.Tables.{AreNames}
use Rattle.points_to_rules.specs.declared.place.Place.{Place}
use Rattle.points_to_rules.specs.declared.running_method.RunningMethod.{RunningMethod}
use Rattle.points_to_rules.specs.Facts.{Holder}
use Rattle.points_to_rules.specs.Places.{IsHolderIn}
use Rattle.points_to_rules.specs.WholeMethods.{IsWholeMethod}
use Rattle.ground.specs.declared.lists.Lists.{Lists}
use Rattle.ground.specs.Lists.{number_of}

-- The methods are methods of the program, with their numbers and the variables of their slots; no site and no place has two numbers; each place stands for a
-- holder; each listed call has a target; and the numbers of sites and of targets are numbers of something. 32 bits number the places.
pub record AreSound (p : Program) (l : Lists) : Type 0 where
  pub methods : (m : RunningMethod) → Contains l.methods.items m → IsWholeMethod p m.method.method.0 m.method
  pub names : (m : RunningMethod) → Contains l.methods.items m → AreNames m.method (name_table m.names)
  pub numbered : l.numbers.keys ≡ map number_of l.methods.items
  pub apart : IsWithoutDoubles l.sites.items
  pub places : (number : ℕ) (place : Place) → slice_get l.places.keys number ≡ Some place → (h : Holder) × IsHolderIn l.sites.items place h
  pub places_apart : IsWithoutDoubles l.places.keys
  pub held : (place : ℕ) (site : SiteNo) → Contains (values_at l.held.groups.items place) site → (s : Site) × (slice_get l.sites.items site.0 ≡ Some s)
  pub called : (number : ℕ) (call : NodeRef) → slice_get l.calls.keys number ≡ Some call → (target : MethodNo) × Contains (values_at l.targets.groups.items number) target
  pub targets : (call : ℕ) (target : MethodNo) → Contains (values_at l.targets.groups.items call) target → IsMethodNumber p target.0
  pub few : length l.places.keys < 2 ^ 32
