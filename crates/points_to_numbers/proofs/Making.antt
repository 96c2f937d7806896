-- What steps make, one after another: nothing, one item, what several steps make, and what the turns of a loop make.
use Rattle.std.proofs.Common.{◌≡◌, ◌↔◌, ℕ, ◌+◌, ◌<◌, ◌≤◌, List, [], ◌∷◌, ◌++◌, length, take, get_or, refl, sym, subst, ◌∙◌, ◌⊎◌, Result, Ok, Err}
use Rattle.std.specs.Result.{OnOk}
use Rattle.std.proofs.lemmas.Option.{slice_get-get_or, same_Some}
use Rattle.jvm_model.specs.declared.site.Site.{Site}
use Rattle.points_to_rules.specs.Facts.{Holder, may_hold}
use Rattle.points_to_constraints.specs.Items.{Constraint as ItemConstraint, Item as RuleItem, known, constrained}
use Rattle.points_to_numbers.specs.declared.item.Item.{Item}
use Rattle.points_to_numbers.specs.Numbered.{Numbered, Grows, IsHolderAt, IsConstraintAt}
use Rattle.points_to_numbers.specs.Steps.{IsItemAt, Adds, Makes, IsUseOf, IsHoldingOf}
use Rattle.points_to_rules.specs.declared.place.Place.{Place}
use Rattle.points_to_numbers.specs.declared.keys.Constraint.{Constraint}
use Rattle.points_to_numbers.proofs.AddedItems.{adds_constrained, adds_held}
use Rattle.points_to_numbers.proofs.Adding.{adds_none, adds_only, adds_same, adds_both, OfOne, adds_start, adds_next, adds_all, OfOneBelow, adds_below_start, adds_below_next}
use Rattle.points_to_numbers.proofs.Growing.{grows_same, grows_on}

-- what the clauses of a call give together
pub on_ok_three : {T E A B C D : Type 0} (r : Result T E) → OnOk r A → OnOk r B → OnOk r C → (A → B → C → D) → OnOk r D
on_ok_three (Ok x) a b c give = give a b c
on_ok_three (Err e) a b c give = tt

pub makes_none : (n : Numbered) (P : RuleItem → Type 0) (xs : List Item) → ((x : RuleItem) → P x → ⊥) → Makes n n P xs xs
makes_none n P xs none = record { grows = grows_same n; calls = refl; adds = adds_none n P xs none }

-- one item, which stands for the only thing that has the property
pub makes_one : (n : Numbered) (P : RuleItem → Type 0) (xs ys : List Item) (i : Item) (x : RuleItem) → ys ≡ xs ++ i ∷ [] → IsItemAt n i x → P x → ((y : RuleItem) → P y → y ≡ x) → Makes n n P xs ys
makes_one n P xs ys i x is at p one =
    record { grows = grows_same n; calls = refl; adds = subst (λ (zs : List Item). Adds n P xs zs) (sym is) (adds_only n P xs i x at p one) }

pub makes_same : (n m : Numbered) (P Q : RuleItem → Type 0) (a b : List Item) → ((x : RuleItem) → P x ↔ Q x) → Makes n m P a b → Makes n m Q a b
makes_same n m P Q a b same makes = record { grows = makes.grows; calls = makes.calls; adds = adds_same m P Q a b same makes.adds }

pub makes_both : (n m o : Numbered) (P Q : RuleItem → Type 0) (a b c : List Item) → Makes n m P a b → Makes m o Q b c → Makes n o (λ x. P x ⊎ Q x) a c
makes_both n m o P Q a b c first second = record {
  grows = grows_on n m o first.grows second.grows;
  calls = second.calls ∙ first.calls;
  adds = adds_both m o P Q a b c first.adds second.grows second.adds;
}

-- tables that have grown, before anything is added
pub makes_grown : (n m o : Numbered) (P : RuleItem → Type 0) (a b : List Item) → Grows n m → length m.calls ≡ length n.calls → Makes m o P a b → Makes n o P a b
makes_grown n m o P a b grows calls makes = record { grows = grows_on n m o grows makes.grows; calls = makes.calls ∙ calls; adds = makes.adds }

-- one use, by the things that stand for the place and the constraint
pub makes_constrained : (n m : Numbered) (place : Place) (constraint : Constraint) (h : Holder) (u : ItemConstraint) (a b : List Item) → IsHolderAt n place h → IsConstraintAt n constraint u
    → Grows n m → length m.calls ≡ length n.calls → Adds m (IsUseOf n place constraint) a b → Makes n m (λ x. x ≡ constrained h u) a b
makes_constrained n m place constraint h u a b is_h is_u grows calls adds = record { grows = grows; calls = calls; adds = adds_constrained n m place constraint h u a b is_h is_u adds }

-- one holding, by what stands for the place
pub makes_held : (n m : Numbered) (place : Place) (h : Holder) (s : Site) (a b : List Item) → IsHolderAt n place h
    → Grows n m → length m.calls ≡ length n.calls → Adds m (IsHoldingOf n place s) a b → Makes n m (λ x. x ≡ known (may_hold h s)) a b
makes_held n m place h s a b is_h grows calls adds = record { grows = grows; calls = calls; adds = adds_held n m place h s a b is_h adds }

-- what adds no call
pub makes_added : (n m : Numbered) (P : RuleItem → Type 0) (a b : List Item) → Grows n m → length m.calls ≡ length n.calls → Adds m P a b → Makes n m P a b
makes_added n m P a b grows calls adds = record { grows = grows; calls = calls; adds = adds }

pub makes_item : (n m : Numbered) (x y : RuleItem) (a b : List Item) → x ≡ y → Makes n m (λ z. z ≡ x) a b → Makes n m (λ z. z ≡ y) a b
makes_item n m x y a b e makes = subst (λ (w : RuleItem). Makes n m (λ z. z ≡ w) a b) e makes

-- ---- loops over a list

-- an element within the list is the same whatever stands past it
any_default : {E : Type 0} (es : List E) (i : ℕ) (d : E) → i < length es → get_or es i d ≡ get_or es i (get_or es i d)
any_default es i d within = same_Some _ _ (sym (slice_get-get_or es i d within) ∙ slice_get-get_or es i (get_or es i d) within)

module _ {E : Type 0} (P : E → RuleItem → Type 0) where
  pub makes_start : (n : Numbered) (es : List E) (xs : List Item) → Makes n n (OfOne P (take 0 es)) xs xs
  makes_start n es xs = record { grows = grows_same n; calls = refl; adds = adds_start P n es xs }

  pub makes_next : (n m o : Numbered) (es : List E) (i : ℕ) (e : E) (a b c : List Item) → i < length es → e ≡ get_or es i e
      → Makes n m (OfOne P (take i es)) a b → Makes m o (P e) b c → Makes n o (OfOne P (take (i + 1) es)) a c
  makes_next n m o es i e a b c within is first second = record {
    grows = grows_on n m o first.grows second.grows;
    calls = second.calls ∙ first.calls;
    adds = adds_next P m o es i e a b c within is first.adds second.grows second.adds;
  }

  -- the same of the element that is read there
  pub makes_next_read : (n m o : Numbered) (es : List E) (i : ℕ) (d : E) (a b c : List Item) → i < length es
      → Makes n m (OfOne P (take i es)) a b → Makes m o (P (get_or es i d)) b c → Makes n o (OfOne P (take (i + 1) es)) a c
  makes_next_read n m o es i d a b c within first second = makes_next n m o es i (get_or es i d) a b c within (any_default es i d within) first second

  pub makes_all : (n m : Numbered) (es : List E) (i : ℕ) (a b : List Item) → length es ≤ i → Makes n m (OfOne P (take i es)) a b → Makes n m (OfOne P es) a b
  makes_all n m es i a b past makes = record { grows = makes.grows; calls = makes.calls; adds = adds_all P m es i a b past makes.adds }

-- ---- loops over the numbers below a limit

module _ (P : ℕ → RuleItem → Type 0) where
  pub makes_below_start : (n : Numbered) (xs : List Item) → Makes n n (OfOneBelow P 0) xs xs
  makes_below_start n xs = record { grows = grows_same n; calls = refl; adds = adds_below_start P n xs }

  pub makes_below_next : (n m o : Numbered) (i : ℕ) (a b c : List Item) → Makes n m (OfOneBelow P i) a b → Makes m o (P i) b c → Makes n o (OfOneBelow P (i + 1)) a c
  makes_below_next n m o i a b c first second = record {
    grows = grows_on n m o first.grows second.grows;
    calls = second.calls ∙ first.calls;
    adds = adds_below_next P m o i a b c first.adds second.grows second.adds;
  }

  pub makes_below_all : (n m : Numbered) (i k : ℕ) (a b : List Item) → i ≡ k → Makes n m (OfOneBelow P i) a b → Makes n m (OfOneBelow P k) a b
  makes_below_all n m i k a b e makes = subst (λ (j : ℕ). Makes n m (OfOneBelow P j) a b) e makes
