-- The item that stands for a use, and the one that stands for what a place holds.
use Rattle.std.proofs.Common.{◌≡◌, List, [], ◌∷◌, ◌++◌, Some, refl, sym, ◌∙◌, subst}
use Rattle.std.specs.List.{slice_get}
use Rattle.jvm_model.specs.declared.number.SiteNo.{SiteNo}
use Rattle.jvm_model.specs.declared.site.Site.{Site}
use Rattle.points_to_rules.specs.Facts.{Holder, may_hold}
use Rattle.points_to_constraints.specs.Items.{Constraint as ItemConstraint, known, constrained}
use Rattle.points_to_numbers.specs.declared.item.Item.{Item}
use Rattle.points_to_numbers.specs.declared.item.Item.TheVariants.{Holds, Constrains}
use Rattle.points_to_rules.specs.declared.place.Place.{Place}
use Rattle.points_to_rules.specs.declared.place.PlaceNo.{PlaceNo}
use Rattle.points_to_numbers.specs.declared.keys.Constraint.{Constraint}
use Rattle.points_to_numbers.specs.declared.keys.ConstraintNo.{ConstraintNo}
use Rattle.points_to_numbers.specs.Numbered.{Numbered, Grows, IsHolderAt, IsConstraintAt}
use Rattle.points_to_numbers.specs.Steps.{IsItemAt, Adds, IsUseOf, IsHoldingOf}
use Rattle.points_to_numbers.proofs.Adding.{adds_one, adds_same}
use Rattle.points_to_numbers.proofs.Growing.{grown_constraint}
use Rattle.points_to_numbers.proofs.Standing.{one_holder, one_constraint}

-- the place is numbered first, and then the constraint
pub use_added : (n m o : Numbered) (place : Place) (constraint : Constraint) (to : PlaceNo) (by : ConstraintNo) (xs ys : List Item)
    → Grows n m → ((h : Holder) → IsHolderAt n place h → slice_get m.holders to.0 ≡ Some h)
    → Grows m o → ((u : ItemConstraint) → IsConstraintAt m constraint u → slice_get o.constraints by.0 ≡ Some u)
    → (h : Holder) × IsHolderAt n place h → (u : ItemConstraint) × IsConstraintAt n constraint u → ys ≡ xs ++ Constrains to by ∷ [] → Adds o (IsUseOf n place constraint) xs ys
use_added n m o place constraint to by xs ys grows held grows_on done (h, is_h) (u, is_u) is =
    let at : (i : Holder) (v : ItemConstraint) → IsHolderAt n place i → IsConstraintAt n constraint v → IsItemAt o (Constrains to by) (constrained i v) =
    λ i v is_i is_v. (i, v, grows_on.holders to.0 i (held i is_i), done v (grown_constraint n m grows constraint v is_v), refl) in
    subst (Adds o (IsUseOf n place constraint) xs) (sym is)
    (adds_one o (IsUseOf n place constraint) xs (Constrains to by) (constrained h u) (at h u is_h is_u) (h, u, is_h, is_u, refl)
    (λ y (i, v, is_i, is_v, e). subst (IsItemAt o (Constrains to by)) (sym e) (at i v is_i is_v)))

pub holding_added : (n m : Numbered) (place : Place) (site : SiteNo) (s : Site) (to : PlaceNo) (xs ys : List Item)
    → Grows n m → ((h : Holder) → IsHolderAt n place h → slice_get m.holders to.0 ≡ Some h) → slice_get n.sites site.0 ≡ Some s
    → (h : Holder) × IsHolderAt n place h → ys ≡ xs ++ Holds to site ∷ [] → Adds m (IsHoldingOf n place s) xs ys
holding_added n m place site s to xs ys grows held there (h, is_h) is =
    let at : (i : Holder) → IsHolderAt n place i → IsItemAt m (Holds to site) (known (may_hold i s)) =
    λ i is_i. (i, s, held i is_i, grows.sites site.0 s there, refl) in
    subst (Adds m (IsHoldingOf n place s) xs) (sym is)
    (adds_one m (IsHoldingOf n place s) xs (Holds to site) (known (may_hold h s)) (at h is_h) (h, is_h, refl)
    (λ y (i, is_i, e). subst (IsItemAt m (Holds to site)) (sym e) (at i is_i)))

-- ---- what was added, by the things that stand for the place and the constraint

pub adds_constrained : (n m : Numbered) (place : Place) (constraint : Constraint) (h : Holder) (u : ItemConstraint) (a b : List Item) → IsHolderAt n place h → IsConstraintAt n constraint u
    → Adds m (IsUseOf n place constraint) a b → Adds m (λ x. x ≡ constrained h u) a b
adds_constrained n m place constraint h u a b is_h is_u adds =
    adds_same m (IsUseOf n place constraint) (λ x. x ≡ constrained h u) a b
    (λ x. (
      (λ (i, v, is_i, is_v, e). e ∙ (λ k. constrained (one_holder n place i h is_i is_h k) (one_constraint n constraint v u is_v is_u k))),
      (λ e. (h, u, is_h, is_u, e)),
    ))
    adds

pub adds_held : (n m : Numbered) (place : Place) (h : Holder) (s : Site) (a b : List Item) → IsHolderAt n place h
    → Adds m (IsHoldingOf n place s) a b → Adds m (λ x. x ≡ known (may_hold h s)) a b
adds_held n m place h s a b is_h adds =
    adds_same m (IsHoldingOf n place s) (λ x. x ≡ known (may_hold h s)) a b
    (λ x. (
      (λ (i, is_i, e). e ∙ (λ k. known (may_hold (one_holder n place i h is_i is_h k) s))),
      (λ e. (h, is_h, e)),
    ))
    adds
