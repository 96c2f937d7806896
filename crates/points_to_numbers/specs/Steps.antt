-- Public contracts rest on this module.
-- The items that the solver keeps, by numbers, and what is added to a list of them.
use Rattle.std.specs.Prelude.{◌≡◌, ◌++◌, List, length, Some, slice_get, All, Contains}
use Rattle.jvm_model.specs.declared.site.Site.{Site}
use Rattle.points_to_rules.specs.Facts.{Holder, may_hold, may_run, may_call}
use Rattle.points_to_constraints.specs.Items.{CallSite, Constraint as ItemConstraint, Item as RuleItem, known, constrained}
use Rattle.points_to_numbers.specs.declared.item.Item.{Item}
use Rattle.points_to_numbers.specs.declared.item.Item.TheVariants.{Holds, Runs, Calls, Constrains}
use Rattle.points_to_rules.specs.declared.place.Place.{Place}
use Rattle.points_to_numbers.specs.declared.keys.Constraint.{Constraint}
use Rattle.points_to_numbers.specs.Numbered.{Numbered, Grows, IsHolderAt, IsConstraintAt}

-- What an item stands for.
abbrev pub IsItemAt : Numbered → Item → RuleItem → Type 0
IsItemAt n (Holds place site) x = (h : Holder) × (s : Site) × (slice_get n.holders place.0 ≡ Some h) × (slice_get n.sites site.0 ≡ Some s) × (x ≡ known (may_hold h s))
IsItemAt n (Runs method) x = x ≡ known (may_run method)
IsItemAt n (Calls call target) x = (c : CallSite) × (slice_get n.calls call.0 ≡ Some c) × (x ≡ known (may_call c.at target))
IsItemAt n (Constrains place constraint) x = (h : Holder) × (u : ItemConstraint) × (slice_get n.holders place.0 ≡ Some h) × (slice_get n.constraints constraint.0 ≡ Some u) × (x ≡ constrained h u)

-- Items were added at the end: each stands for something that has the property, and all that has it is among them.
pub record Adds (n : Numbered) (P : RuleItem → Type 0) (old new : List Item) : Type 0 where
  pub more : List Item
  pub is : new ≡ old ++ more
  pub sound : All (λ (i : Item). (x : RuleItem) × IsItemAt n i x × P x) more
  pub complete : (x : RuleItem) → P x → (i : Item) × Contains more i × IsItemAt n i x

-- What was numbered stays, no call is numbered, and items are added.
pub record Makes (n m : Numbered) (P : RuleItem → Type 0) (old new : List Item) : Type 0 where
  pub grows : Grows n m
  pub calls : length m.calls ≡ length n.calls
  pub adds : Adds m P old new

-- It is the constraint of what the place stands for.
abbrev pub IsUseOf : Numbered → Place → Constraint → RuleItem → Type 0
IsUseOf n place constraint x = (h : Holder) × (u : ItemConstraint) × IsHolderAt n place h × IsConstraintAt n constraint u × (x ≡ constrained h u)

-- What the place stands for holds the objects of the site.
abbrev pub IsHoldingOf : Numbered → Place → Site → RuleItem → Type 0
IsHoldingOf n place s x = (h : Holder) × IsHolderAt n place h × (x ≡ known (may_hold h s))
