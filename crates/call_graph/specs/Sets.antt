-- This crate's own proofs alone rest on this module.
-- The sets of items.
use Rattle.std.specs.Prelude.{◌≡◌, ◌↔◌, ◌⊎◌, ℕ, List, [], ◌∷◌, ◌++◌, Some, slice_get, Contains}
use Rattle.jvm_model.specs.declared.number.MethodNo.{MethodNo}
use Rattle.jvm_model.specs.declared.number.SiteNo.{SiteNo}
use Rattle.op_model.specs.declared.node.NodeRef.{NodeRef}
use Rattle.grouped_lists.specs.Groups.{values_at}
use Rattle.points_to_constraints.specs.Items.{CallSite}
use Rattle.points_to_numbers.specs.declared.item.Item.{Item}
use Rattle.points_to_numbers.specs.declared.item.Item.TheVariants.{Holds, Runs, Calls}
use Rattle.points_to_numbers.specs.declared.keys.CallNo.{CallNo}
use Rattle.points_to_numbers.specs.Numbered.{Numbered}
use Rattle.call_graph.specs.declared.sets.Sets.{Sets}

-- The target is listed at the number of the call.
abbrev pub IsTarget : Sets → NodeRef → MethodNo → Type 0
IsTarget s key target = (number : ℕ) × (slice_get s.calls.keys number ≡ Some key) × Contains (values_at s.targets.groups.items number) target

-- An item says that the call goes to the target.
abbrev pub IsCalled : Numbered → List Item → NodeRef → MethodNo → Type 0
IsCalled n items key target = (call : CallNo) × (site : CallSite) × Contains items (Calls call target) × (slice_get n.calls call.0 ≡ Some site) × (key ≡ site.at)

-- Targets are listed at the numbers of calls alone.
abbrev pub AreListed : Sets → Type 0
AreListed s = (number : ℕ) (target : MethodNo) → Contains (values_at s.targets.groups.items number) target → (key : NodeRef) × (slice_get s.calls.keys number ≡ Some key)

-- Each listed call has a target.
abbrev pub AreCalled : Sets → Type 0
AreCalled s = (number : ℕ) (key : NodeRef) → slice_get s.calls.keys number ≡ Some key → (target : MethodNo) × Contains (values_at s.targets.groups.items number) target

pub record AreSetsOf (n : Numbered) (items : List Item) (s : Sets) : Type 0 where
  pub holds : (place : ℕ) (site : SiteNo) → Contains (values_at s.sites.groups.items place) site ↔ Contains items (Holds (record { 0 = place }) site)
  pub runs : (m : MethodNo) → Contains s.running.keys m ↔ Contains items (Runs m)
  pub targets : (key : NodeRef) (target : MethodNo) → IsTarget s key target ↔ IsCalled n items key target
  pub listed : AreListed s
  pub called : AreCalled s

-- The sets have one item more.
pub record TakesItem (n : Numbered) (item : Item) (old new : Sets) : Type 0 where
  pub goes : (items : List Item) → AreSetsOf n items old → AreSetsOf n (items ++ item ∷ []) new

-- The target is one of the call, and nothing else has changed.
pub record AddsTarget (call : NodeRef) (target : MethodNo) (old new : Sets) : Type 0 where
  pub sites : new.sites ≡ old.sites
  pub running : new.running ≡ old.running
  pub targets : AreListed old → (key : NodeRef) (m : MethodNo) → IsTarget new key m ↔ (IsTarget old key m ⊎ ((key ≡ call) × (m ≡ target)))
  pub listed : AreListed old → AreListed new
  pub called : AreCalled old → AreCalled new
