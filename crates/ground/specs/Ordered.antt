-- Public contracts rest on this module.
-- Lists in the order of numbers.
use Rattle.std.specs.Prelude.{◌≡◌, ◌↔◌, ◌<◌, ℕ, List, Some, slice_get, Contains}
use Rattle.jvm_model.specs.declared.number.MethodNo.{MethodNo}
use Rattle.jvm_model.specs.declared.number.SiteNo.{SiteNo}
use Rattle.jvm_model.specs.Programs.{Program}
use Rattle.grouped_lists.specs.Groups.{values_at}
use Rattle.ground.specs.declared.lists.Lists.{Lists}
use Rattle.ground.specs.Sound.{AreSound}

abbrev pub site_number : SiteNo → ℕ
site_number site = site.0

abbrev pub method_number : MethodNo → ℕ
method_number m = m.0

-- The numbers ascend, so that nothing stands twice.
pub record DoAscend {X : Type 0} (number : X → ℕ) (xs : List X) : Type 0 where
  pub each : (i j : ℕ) (x y : X) → i < j → slice_get xs i ≡ Some x → slice_get xs j ≡ Some y → number x < number y

-- The sites of each place and the targets of each call stand in the order of their numbers.
pub record AreOrdered (l : Lists) : Type 0 where
  pub held : (place : ℕ) → DoAscend site_number (values_at l.held.groups.items place)
  pub targets : (call : ℕ) → DoAscend method_number (values_at l.targets.groups.items call)

-- The new lists are the old ones, but that the sites of each place and the targets of each call are in order.
pub record ArePutInOrder (old new : Lists) : Type 0 where
  pub ordered : AreOrdered new
  pub held : (place : ℕ) (site : SiteNo) → Contains (values_at new.held.groups.items place) site ↔ Contains (values_at old.held.groups.items place) site
  pub targets : (call : ℕ) (m : MethodNo) → Contains (values_at new.targets.groups.items call) m ↔ Contains (values_at old.targets.groups.items call) m
  pub others : new ≡ record old { held = new.held; targets = new.targets }

-- The lists are those of a program, in order.
pub record AreOfGround (p : Program) (l : Lists) : Type 0 where
  pub sound : AreSound p l
  pub ordered : AreOrdered l
