-- The parameters of a target get what the units of the arguments hold.
use Rattle.std.proofs.Common.{◌≡◌, ℕ, ◌<◌, true, false, List, Some, None, length, sym, ap, ◌∙◌, subst}
use Rattle.std.proofs.lemmas.Bool.{false≢true}
use Rattle.std.proofs.lemmas.Option.{none-some, same_Some, slice_get_within}
use Rattle.jvm_model.specs.declared.number.MethodNo.{MethodNo}
use Rattle.slot_names.specs.declared.variable.Variable.TheVariants.{Parameter}
use Rattle.points_to_rules.specs.Facts.{Holder, variable}
use Rattle.points_to_constraints.specs.CallItems.{is_passed}
use Rattle.points_to_constraints.specs.Items.{CallSite, copy_to, constrained}
use Rattle.points_to_numbers.specs.declared.item.Item.{Item}
use Rattle.points_to_numbers.specs.Numbered.{Numbered}
use Rattle.points_to_numbers.proofs.Adding.{OfOneBelow}
use Rattle.points_to_calls.specs.Parts.{PassesUnit, UnitPassed, unit_in}
use Rattle.points_to_numbers.specs.Steps.{Makes}
use Rattle.points_to_calls.proofs.CallParts.{unit_there, there_from_unit}
use Rattle.points_to_numbers.proofs.Making.{makes_none, makes_same}

-- a unit that is not passed
pub none_passed : (n : Numbered) (site : CallSite) (target : MethodNo) (u : ℕ) (a : List Item) → is_passed site.kind u ≡ false → Makes n n (PassesUnit site target u) a a
none_passed n site target u a kept = makes_none n (PassesUnit site target u) a (λ x passes. false≢true (sym kept ∙ passes.passed))

-- a unit that is no reference
pub no_reference : (n : Numbered) (site : CallSite) (target : MethodNo) (u : ℕ) (a : List Item) → unit_in site.arguments u ≡ None → Makes n n (PassesUnit site target u) a a
no_reference n site target u a none = makes_none n (PassesUnit site target u) a (λ x passes. none-some passes.from (sym none ∙ unit_there site.arguments u (Some passes.from) passes.stands))

pub unit_passed : (n m : Numbered) (site : CallSite) (target : MethodNo) (u : ℕ) (from : Holder) (a b : List Item) → unit_in site.arguments u ≡ Some from → is_passed site.kind u ≡ true
    → Makes n m (λ x. x ≡ constrained from (copy_to (variable (Parameter target u)))) a b → Makes n m (PassesUnit site target u) a b
unit_passed n m site target u from a b stands passed makes =
    makes_same n m (λ x. x ≡ constrained from (copy_to (variable (Parameter target u)))) (PassesUnit site target u) a b
    (λ x. (
      λ e. record { from = from; stands = there_from_unit site.arguments u from stands; passed = passed; is = e },
      λ passes. passes.is ∙ ap (λ (h : Holder). constrained h (copy_to (variable (Parameter target u))))
          (same_Some passes.from from (sym (unit_there site.arguments u (Some passes.from) passes.stands) ∙ stands)),
    ))
    makes

pub units_passed : (n m : Numbered) (site : CallSite) (target : MethodNo) (count : ℕ) (a b : List Item) → count ≡ length site.arguments
    → Makes n m (OfOneBelow (PassesUnit site target) count) a b → Makes n m (UnitPassed site target) a b
units_passed n m site target count a b long makes =
    makes_same n m (OfOneBelow (PassesUnit site target) count) (UnitPassed site target) a b
    (λ x. (
      λ (k, below, passes). (k, passes),
      λ (k, passes). (k, subst (λ (limit : ℕ). k < limit) (sym long) (slice_get_within site.arguments k (Some passes.from) passes.stands), passes),
    ))
    makes
