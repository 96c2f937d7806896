-- This crate's own proofs alone rest on this module.
-- What constraints make of objects, and which calls lack a target then, by the numbers of constraints and sites.
use Rattle.std.specs.Prelude.{◌≡◌, ◌++◌, List, Option, Some, All, Contains, slice_get}
use Rattle.jvm_model.specs.declared.number.SiteNo.{SiteNo}
use Rattle.jvm_model.specs.declared.reason.Reason.{Reason}
use Rattle.jvm_model.specs.declared.site.Site.{Site}
use Rattle.jvm_model.specs.Programs.{Program}
use Rattle.program_model.specs.Numbers.{IsMethodNumber}
use Rattle.points_to_rules.specs.Refusals.{LacksTarget}
use Rattle.points_to_constraints.specs.Items.{CallSite, Constraint as ItemConstraint, dispatch, Item as RuleItem}
use Rattle.points_to_constraints.specs.ItemRules.{Passed}
use Rattle.points_to_numbers.specs.declared.keys.ConstraintNo.{ConstraintNo}
use Rattle.points_to_numbers.specs.Numbered.{Numbered, IsNumbered}
use Rattle.points_to.specs.declared.refusals.RefusedCall.{RefusedCall}
use Rattle.points_to.specs.declared.refusals.RefusedMethod.{RefusedMethod}
use Rattle.points_to.specs.Firsts.{IsFirstCall, IsFirstMethod}

-- ---- one constraint and one site

-- The constraint is numbered; and where it selects the target of a call, that is resolved to a method of the program.
pub record IsKnownConstraint (p : Program) (n : Numbered) (constraint : ConstraintNo) : Type 0 where
  pub numbered : IsNumbered n.constraints constraint.0
  pub resolved : (call : CallSite) → slice_get n.constraints constraint.0 ≡ Some (dispatch call) → IsMethodNumber p call.resolved.0

-- The constraint of the one number makes this of an object of the site of the other.
pub record IsPassed (p : Program) (n : Numbered) (constraint : ConstraintNo) (site : SiteNo) (x : RuleItem) : Type 0 where
  pub u : ItemConstraint
  pub stands : slice_get n.constraints constraint.0 ≡ Some u
  pub s : Site
  pub is_site : slice_get n.sites site.0 ≡ Some s
  pub passed : Passed p u s x

-- The constraint selects the target of this call.
pub record SelectsAt (n : Numbered) (constraint : ConstraintNo) (c : RefusedCall) (call : CallSite) : Type 0 where
  pub selects : slice_get n.constraints constraint.0 ≡ Some (dispatch call)
  pub at : call.at ≡ record { method = Some c.method; offset = c.offset }

-- The constraint selects the target of this call, and has none for an object of the site.
pub record IsLackOf (p : Program) (n : Numbered) (constraint : ConstraintNo) (site : SiteNo) (c : RefusedCall) : Type 0 where
  pub call : CallSite
  pub selects : SelectsAt n constraint c call
  pub s : Site
  pub is_site : slice_get n.sites site.0 ≡ Some s
  pub lacks : LacksTarget p call.kind call.resolved s c.reason

-- The constraint selects the target of this call, which lacks it for this reason.
pub record NotesReason (n : Numbered) (constraint : ConstraintNo) (lacks : Option Reason) (c : RefusedCall) : Type 0 where
  pub call : CallSite
  pub selects : SelectsAt n constraint c call
  pub reason : lacks ≡ Some c.reason

-- ---- several of them

-- One of the constraints makes this of an object of the site.
abbrev pub PassesToSome : Program → Numbered → List ConstraintNo → SiteNo → RuleItem → Type 0
PassesToSome p n constraints site x = (constraint : ConstraintNo) × Contains constraints constraint × IsPassed p n constraint site x

-- The constraint makes this of an object of one of the sites.
abbrev pub PassesSome : Program → Numbered → ConstraintNo → List SiteNo → RuleItem → Type 0
PassesSome p n constraint sites x = (site : SiteNo) × Contains sites site × IsPassed p n constraint site x

abbrev pub LacksForSome : Program → Numbered → List ConstraintNo → SiteNo → RefusedCall → Type 0
LacksForSome p n constraints site c = (constraint : ConstraintNo) × Contains constraints constraint × IsLackOf p n constraint site c

abbrev pub LacksSome : Program → Numbered → ConstraintNo → List SiteNo → RefusedCall → Type 0
LacksSome p n constraint sites c = (site : SiteNo) × Contains sites site × IsLackOf p n constraint site c

-- One of the constraints makes this of an object of one of the sites.
abbrev pub PassesAny : Program → Numbered → List ConstraintNo → List SiteNo → RuleItem → Type 0
PassesAny p n constraints sites x = (constraint : ConstraintNo) × Contains constraints constraint × PassesSome p n constraint sites x

abbrev pub LacksAny : Program → Numbered → List ConstraintNo → List SiteNo → RefusedCall → Type 0
LacksAny p n constraints sites c = (constraint : ConstraintNo) × Contains constraints constraint × LacksSome p n constraint sites c

-- ---- notes

-- These have the property, and nothing else has.
pub record AreThose {X : Type 0} (R : X → Type 0) (xs : List X) : Type 0 where
  pub sound : All R xs
  pub complete : (x : X) → R x → Contains xs x

-- The calls that have the property were noted.
pub record NotesCalls (R : RefusedCall → Type 0) (old new : Option RefusedCall) : Type 0 where
  pub noted : List RefusedCall
  pub those : AreThose R noted
  pub first : (before : List RefusedCall) → IsFirstCall before old → IsFirstCall (before ++ noted) new

-- The methods that have the property were noted.
pub record NotesMethods (R : RefusedMethod → Type 0) (old new : Option RefusedMethod) : Type 0 where
  pub noted : List RefusedMethod
  pub those : AreThose R noted
  pub first : (before : List RefusedMethod) → IsFirstMethod before old → IsFirstMethod (before ++ noted) new
