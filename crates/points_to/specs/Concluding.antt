-- This crate's own proofs alone rest on this module.
-- What follows from what one turn does, by numbers, together with what is done by then at the same place.
use Rattle.std.specs.Prelude.{◌≡◌, ◌⊎◌, ◌↔◌, ℕ, List, [], ◌∷◌, ◌++◌, length, Some, Ok, Err, Contains, slice_get}
use Rattle.jvm_model.specs.declared.number.MethodNo.{MethodNo}
use Rattle.jvm_model.specs.declared.number.SiteNo.{SiteNo}
use Rattle.jvm_model.specs.Programs.{Program}
use Rattle.program_model.specs.Numbers.{IsMethodNumber}
use Rattle.op_model.specs.declared.lowered.LoweredMethod.{LoweredMethod}
use Rattle.op_model.specs.Supplies.{GivenAs}
use Rattle.points_to_constraints.specs.CallItems.{CallItem}
use Rattle.points_to_constraints.specs.Items.{CallSite, Item as RuleItem}
use Rattle.points_to_constraints.specs.ItemRules.{MethodItem}
use Rattle.points_to_methods.specs.NewCalls.{AddsCalls}
use Rattle.points_to_numbers.specs.declared.item.Item.{Item}
use Rattle.points_to_numbers.specs.declared.item.Item.TheVariants.{Holds, Runs, Calls, Constrains}
use Rattle.points_to_rules.specs.declared.place.PlaceNo.{PlaceNo}
use Rattle.points_to_numbers.specs.declared.keys.ConstraintNo.{ConstraintNo}
use Rattle.points_to_numbers.specs.Numbered.{Numbered, IsNumbered}
use Rattle.slot_names.specs.KeptNames.{name_table}
use Rattle.slot_names.specs.Tables.{AreNames}
use Rattle.points_to.specs.declared.refusals.RefusedCall.{RefusedCall}
use Rattle.points_to.specs.declared.refusals.RefusedMethod.{RefusedMethod}
use Rattle.points_to_rules.specs.declared.running_method.RunningMethod.{RunningMethod}
use Rattle.points_to.specs.Passing.{IsKnownConstraint, IsLackOf, IsPassed, PassesToSome, LacksForSome}
use Rattle.points_to.specs.declared.queue.Turn.{Turn}
use Rattle.points_to.specs.declared.queue.Turn.TheVariants.{Sites, One}
use Rattle.points_to.specs.Queues.{HasPassed, IsDone, State}
use Rattle.points_to.specs.Turns.{IsInTurn}
use Rattle.bit_rows.specs.declared.set.NumberSet.{NumberSet}
use Rattle.bit_rows.specs.Sets.{IsIn}
use Rattle.site_rows.specs.declared.row.SiteRow.{SiteRow}
use Rattle.site_rows.specs.Rows.{held_at}

-- ---- the sites and the constraints of each place

-- The constraints of each place by its number.
abbrev pub ConstraintsBy : Type 0
ConstraintsBy = ℕ → List ConstraintNo

-- The constraints of each place are what the items that are done say of it.
pub record IsIndex (constraints : ConstraintsBy) (s : State) : Type 0 where
  pub constraints_are : (place : PlaceNo) (constraint : ConstraintNo) → Contains (constraints place.0) constraint ↔ IsDone s (Constrains place constraint)

-- Sites are numbered, and so are constraints; calls that constraints select at are resolved to methods of the program.
pub record IsKnownIndex (p : Program) (n : Numbered) (rows : List SiteRow) (constraints : ConstraintsBy) : Type 0 where
  pub sites_known : (place site : ℕ) → IsIn (held_at rows place) site → IsNumbered n.sites site
  pub constraints_known : (place : ℕ) (constraint : ConstraintNo) → Contains (constraints place) constraint → IsKnownConstraint p n constraint

-- The call is that of a node of a method, and not the one of the start.
abbrev pub HasCaller : CallSite → Type 0
HasCaller call = (m : MethodNo) × (call.at.method ≡ Some m)

-- The call of the number, where it is that of a node, is resolved to a method of the program.
abbrev pub ResolvesIn : Program → Numbered → ℕ → Type 0
ResolvesIn p n number = (call : CallSite) → slice_get n.calls number ≡ Some call → HasCaller call → IsMethodNumber p call.resolved.0

-- A call that is numbered, and the target to which it goes.
pub record IsKnownCall (p : Program) (n : Numbered) (number : ℕ) (target : MethodNo) : Type 0 where
  pub numbered : IsNumbered n.calls number
  pub target_is : IsMethodNumber p target.0
  pub resolved : ResolvesIn p n number

-- What an item names by its number is there.
abbrev pub IsKnownItem : Program → Numbered → Item → Type 0
IsKnownItem p n (Holds place site) = IsNumbered n.sites site.0
IsKnownItem p n (Runs method) = IsMethodNumber p method.0
IsKnownItem p n (Calls call target) = IsKnownCall p n call.0 target
IsKnownItem p n (Constrains place constraint) = IsKnownConstraint p n constraint

-- ---- what follows

-- What the call of the number leads to that goes to the target.
pub record IsCallItem (p : Program) (n : Numbered) (number : ℕ) (target : MethodNo) (x : RuleItem) : Type 0 where
  pub call : CallSite
  pub stands : slice_get n.calls number ≡ Some call
  pub caller : HasCaller call
  pub item : CallItem p call target x

-- What the nodes lead to as which the method is given.
pub record IsGivenItem (p : Program) (gives : GivenAs) (number : ℕ) (x : RuleItem) : Type 0 where
  pub method : LoweredMethod
  pub given : gives number (Ok method)
  pub item : MethodItem p method x

-- The constraint makes this of an object of one of the sites of the place that are passed on.
abbrev pub PassesSomeAt : Program → Numbered → ConstraintNo → List SiteRow → PlaceNo → RuleItem → Type 0
PassesSomeAt p n constraint rows place x = (site : SiteNo) × HasPassed rows place.0 site.0 × IsPassed p n constraint site x

abbrev pub LacksSomeAt : Program → Numbered → ConstraintNo → List SiteRow → PlaceNo → RefusedCall → Type 0
LacksSomeAt p n constraint rows place c = (site : SiteNo) × HasPassed rows place.0 site.0 × IsLackOf p n constraint site c

-- One of the constraints makes this of an object of one of the sites of the set.
abbrev pub PassesFresh : Program → Numbered → List ConstraintNo → NumberSet → RuleItem → Type 0
PassesFresh p n constraints sites x = (site : SiteNo) × IsIn sites site.0 × PassesToSome p n constraints site x

abbrev pub LacksFresh : Program → Numbered → List ConstraintNo → NumberSet → RefusedCall → Type 0
LacksFresh p n constraints sites c = (site : SiteNo) × IsIn sites site.0 × LacksForSome p n constraints site c

-- What follows from an item, with the sites of its place that are passed on, and the constraints of its place.
abbrev pub FollowsFrom : Program → GivenAs → Numbered → List SiteRow → ConstraintsBy → Item → RuleItem → Type 0
FollowsFrom p gives n rows constraints (Holds place site) x = PassesToSome p n (constraints place.0) site x
FollowsFrom p gives n rows constraints (Runs method) x = IsGivenItem p gives method.0 x
FollowsFrom p gives n rows constraints (Calls call target) x = IsCallItem p n call.0 target x
FollowsFrom p gives n rows constraints (Constrains place constraint) x = PassesSomeAt p n constraint rows place x

-- What follows from one of the items of a turn.
abbrev pub FollowsInTurn : Program → GivenAs → Numbered → List SiteRow → ConstraintsBy → Turn → RuleItem → Type 0
FollowsInTurn p gives n rows constraints turn x = (i : Item) × IsInTurn turn i × FollowsFrom p gives n rows constraints i x

-- The calls that lack a target by an item, and by one of a turn.
abbrev pub LacksBy : Program → Numbered → List SiteRow → ConstraintsBy → Item → RefusedCall → Type 0
LacksBy p n rows constraints (Holds place site) c = LacksForSome p n (constraints place.0) site c
LacksBy p n rows constraints (Runs method) c = ⊥
LacksBy p n rows constraints (Calls call target) c = ⊥
LacksBy p n rows constraints (Constrains place constraint) c = LacksSomeAt p n constraint rows place c

abbrev pub LacksInTurn : Program → Numbered → List SiteRow → ConstraintsBy → Turn → RefusedCall → Type 0
LacksInTurn p n rows constraints turn c = (i : Item) × IsInTurn turn i × LacksBy p n rows constraints i c

-- The method that is refused by it.
pub record IsRefusedAs (gives : GivenAs) (method : MethodNo) (r : RefusedMethod) : Type 0 where
  pub is : r.method ≡ method
  pub refused : gives method.0 (Err r.refusal)

abbrev pub RefusedBy : GivenAs → Item → RefusedMethod → Type 0
RefusedBy gives (Holds place site) r = ⊥
RefusedBy gives (Runs method) r = IsRefusedAs gives method r
RefusedBy gives (Calls call target) r = ⊥
RefusedBy gives (Constrains place constraint) r = ⊥

-- The calls that are numbered by it: the calls of the method that is given, or none.
pub record AddsGivenCalls (gives : GivenAs) (number : ℕ) (old new : List CallSite) : Type 0 where
  pub method : LoweredMethod
  pub given : gives number (Ok method)
  pub adds : AddsCalls method old new

abbrev pub AddsCallsBy : GivenAs → Item → List CallSite → List CallSite → Type 0
AddsCallsBy gives (Holds place site) old new = length new ≡ length old
AddsCallsBy gives (Runs method) old new = AddsGivenCalls gives method.0 old new ⊎ (length new ≡ length old)
AddsCallsBy gives (Calls call target) old new = length new ≡ length old
AddsCallsBy gives (Constrains place constraint) old new = length new ≡ length old

-- ---- the methods that may run

-- It is the method as which the number is given, with the variables of its slots.
pub record IsRunningAs (gives : GivenAs) (number : ℕ) (m : RunningMethod) : Type 0 where
  pub given : gives number (Ok m.method)
  pub named : AreNames m.method (name_table m.names)

-- The method of the number was added, if it is given as nodes.
abbrev pub AddsMethod : GivenAs → ℕ → List RunningMethod → List RunningMethod → Type 0
AddsMethod gives number old new =
    ((m : RunningMethod) × IsRunningAs gives number m × (new ≡ old ++ m ∷ [])) ⊎ (((l : LoweredMethod) → gives number (Ok l) → ⊥) × (new ≡ old))

abbrev pub AddsMethodsBy : GivenAs → Item → List RunningMethod → List RunningMethod → Type 0
AddsMethodsBy gives (Holds place site) old new = new ≡ old
AddsMethodsBy gives (Runs method) old new = AddsMethod gives method.0 old new
AddsMethodsBy gives (Calls call target) old new = new ≡ old
AddsMethodsBy gives (Constrains place constraint) old new = new ≡ old

-- ---- what a turn names

-- The sites that are taken were numbered; and what the one item names is there.
abbrev pub IsKnownTurn : Program → Numbered → Turn → Type 0
IsKnownTurn p n (Sites fresh) = (site : ℕ) → IsIn fresh.sites site → IsNumbered n.sites site
IsKnownTurn p n (One item) = IsKnownItem p n item
