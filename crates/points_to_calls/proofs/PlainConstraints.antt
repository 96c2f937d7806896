-- Constraints that select no target: what they make, and that they lack none.
use Rattle.std.proofs.Common.{◌≡◌, ◌↔◌, None, refl}
use Rattle.jvm_model.specs.declared.site.Site.{Site}
use Rattle.jvm_model.specs.Programs.{Program}
use Rattle.points_to_constraints.specs.ItemRules.{Passed}
use Rattle.points_to_constraints.specs.Items.{CallSite, Constraint as ItemConstraint, copy_to, filter_to, load_field, store_field, load_elements, store_elements, throw_to, rethrow_to, dispatch, Item as RuleItem}
use Rattle.points_to_numbers.specs.declared.keys.CallNo.{CallNo}
use Rattle.points_to_numbers.specs.declared.keys.Constraint.{Constraint}
use Rattle.points_to_numbers.specs.declared.keys.Constraint.TheVariants as constraints
use Rattle.points_to_numbers.specs.Numbered.{Numbered, IsConstraintAt}
use Rattle.points_to_calls.specs.Lacks.{ConstraintLacks}
use Rattle.points_to_calls.specs.Constraints.{PlainPassed}

-- an entry that selects nothing stands for no constraint that does
pub no_selection : (n : Numbered) (entry : Constraint) (u : ItemConstraint) → ((call : CallNo) → entry ≡ constraints.Dispatch call → ⊥) → IsConstraintAt n entry u → (site : CallSite) → u ≡ dispatch site → ⊥
no_selection n (constraints.CopyTo to) u none (h, held, e) site is = cc (e, is)
no_selection n (constraints.FilterTo class to) u none (name, h, named, held, e) site is = cc (e, is)
no_selection n (constraints.LoadField field to) u none (h, held, e) site is = cc (e, is)
no_selection n (constraints.StoreField field from) u none (h, held, e) site is = cc (e, is)
no_selection n (constraints.LoadElements to) u none (h, held, e) site is = cc (e, is)
no_selection n (constraints.StoreElements from) u none (h, held, e) site is = cc (e, is)
no_selection n (constraints.ThrowTo catch_chain) u none (l, at, e) site is = cc (e, is)
no_selection n (constraints.RethrowTo catch_chain) u none (l, at, e) site is = cc (e, is)
no_selection n (constraints.Dispatch call) u none at site is = none call refl

pub plain_passed : (p : Program) (u : ItemConstraint) (s : Site) → ((site : CallSite) → u ≡ dispatch site → ⊥) → (x : RuleItem) → PlainPassed p u s x ↔ Passed p u s x
plain_passed p (copy_to to) s none x = (λ h. h, λ h. h)
plain_passed p (filter_to class to) s none x = (λ h. h, λ h. h)
plain_passed p (load_field field to) s none x = (λ h. h, λ h. h)
plain_passed p (store_field field from) s none x = (λ h. h, λ h. h)
plain_passed p (load_elements to) s none x = (λ h. h, λ h. h)
plain_passed p (store_elements from) s none x = (λ h. h, λ h. h)
plain_passed p (throw_to catch_chain) s none x = (λ h. h, λ h. h)
plain_passed p (rethrow_to catch_chain) s none x = (λ h. h, λ h. h)
plain_passed p (dispatch site) s none x = absurd (none site refl)

pub plain_lacks : (p : Program) (u : ItemConstraint) (s : Site) → ((site : CallSite) → u ≡ dispatch site → ⊥) → ConstraintLacks p u s None
plain_lacks p (copy_to to) s none = refl
plain_lacks p (filter_to class to) s none = refl
plain_lacks p (load_field field to) s none = refl
plain_lacks p (store_field field from) s none = refl
plain_lacks p (load_elements to) s none = refl
plain_lacks p (store_elements from) s none = refl
plain_lacks p (throw_to catch_chain) s none = refl
plain_lacks p (rethrow_to catch_chain) s none = refl
plain_lacks p (dispatch site) s none = absurd (none site refl)
