-- How names fit: a class by its supertypes; and an array that is not the upper one itself, nor below the upper name as each array is, by its
-- elements alone.
use Rattle.std.proofs.Common.{◌≡◌, ◌≢◌, ℕ, Bool, true, false, List, sym, ◌∙◌, ap, subst}
use Rattle.std.specs.Prelude.{◌↔◌, IsTrue}
use Rattle.std.proofs.lemmas.Bool.{false≢true}
use Rattle.jvm_model.specs.LinkedPrograms.{IsProgram}
use Rattle.jvm_model.specs.Programs.{Program}
use Rattle.jvm_model.specs.Soundness.{is_array}
use Rattle.jvm_model.specs.Subtypes.{array_of, IsArraySuper, Fits, by_class, by_array, by_itself, by_elements}
use Rattle.program_laws.proofs.ArrayNames.{element_is}
use Rattle.hierarchy.specs.Casts.{IsClassBelow, IsSameArray, StandFor}
use Rattle.hierarchy.proofs.ClassNames.{class_plain}

-- ---- a class

below_fits : (p : Program) (upper lower : List ℕ) → IsClassBelow p upper lower → Fits p upper lower
below_fits p upper lower h = by_class upper lower h.class h.named h.below

fits_below : (p : Program) (upper lower : List ℕ) → is_array lower ≡ false → Fits p upper lower → IsClassBelow p upper lower
fits_below p upper lower plain (by_class u l c named subtype) = record { class = c; named = named; below = subtype }
fits_below p upper lower plain (by_array u l array super) = absurd (false≢true (sym plain ∙ array))
fits_below p upper lower plain (by_itself u l array e) = absurd (false≢true (sym plain ∙ array))
fits_below p upper lower plain (by_elements u l above below upper_is lower_is fit) = absurd (false≢true (sym plain ∙ ap is_array lower_is))

-- ---- an array

-- An array fits another one by its elements.
pub record FitsByElements (p : Program) (upper lower : List ℕ) : Type 0 where
  pub above : List ℕ
  pub below : List ℕ
  pub upper_is : upper ≡ array_of above
  pub lower_is : lower ≡ array_of below
  pub fit : Fits p above below

fits_by_elements : (p : Program) → IsProgram p → (upper lower : List ℕ) → is_array lower ≡ true → (IsArraySuper upper → ⊥) → (IsSameArray upper lower → ⊥) → Fits p upper lower → FitsByElements p upper lower
fits_by_elements p program upper lower array other apart (by_class u l c named subtype) = absurd (false≢true (sym (class_plain p program lower c named) ∙ array))
fits_by_elements p program upper lower array other apart (by_array u l array_too super) = absurd (other super)
fits_by_elements p program upper lower array other apart (by_itself u l array_too e) = absurd (apart (array_too, e))
fits_by_elements p program upper lower array other apart (by_elements u l above below upper_is lower_is fit) =
    record { above = above; below = below; upper_is = upper_is; lower_is = lower_is; fit = fit }

-- ---- two names that stand for two others

one_element : (text one other : List ℕ) → text ≡ array_of one → text ≡ array_of other → one ≡ other
one_element text one other e f = sym (element_is text one e) ∙ element_is text other f

same_fit : (p : Program) (above below over under : List ℕ) → above ≡ over → below ≡ under → Fits p above below → Fits p over under
same_fit p above below over under e f h = subst (λ (x : List ℕ). Fits p over x) f (subst (λ (x : List ℕ). Fits p x below) e h)

module _ (p : Program) (program : IsProgram p) (upper lower over under : List ℕ) (stand : StandFor p upper lower over under) where
  -- the elements stand for the arrays
  pub stand_elements : (above below : List ℕ) → is_array under ≡ true → (IsArraySuper over → ⊥) → over ≡ array_of above → under ≡ array_of below → StandFor p upper lower above below
  stand_elements above below array other over_is under_is = record {
    alike = (
      λ h.
          let parts = fits_by_elements p program over under array other stand.apart (stand.alike.0 h) in
          same_fit p parts.above parts.below above below (one_element over parts.above above parts.upper_is over_is) (one_element under parts.below below parts.lower_is under_is) parts.fit,
      λ h. stand.alike.1 (by_elements over under above below over_is under_is h),
    );
    apart = λ same. stand.apart (array, over_is ∙ ap array_of same.1 ∙ sym under_is);
  }

  -- an array below the upper name as each array is
  pub fit_super : is_array under ≡ true → IsArraySuper over → Fits p upper lower
  fit_super array super = stand.alike.1 (by_array over under array super)

  -- where one of the two is no array of references, nothing fits
  pub no_upper_array : is_array under ≡ true → (IsArraySuper over → ⊥) → ((element : List ℕ) → over ≢ array_of element) → Fits p upper lower → ⊥
  no_upper_array array other none h =
      let parts = fits_by_elements p program over under array other stand.apart (stand.alike.0 h) in none parts.above parts.upper_is

  pub no_lower_array : is_array under ≡ true → (IsArraySuper over → ⊥) → ((element : List ℕ) → under ≢ array_of element) → Fits p upper lower → ⊥
  no_lower_array array other none h =
      let parts = fits_by_elements p program over under array other stand.apart (stand.alike.0 h) in none parts.below parts.lower_is

  -- where no array is left
  pub fit_class : is_array under ≡ false → (b : Bool) → (IsTrue b ↔ IsClassBelow p over under) → IsTrue b ↔ Fits p upper lower
  fit_class plain b test = (λ yes. stand.alike.1 (below_fits p over under (test.0 yes)), λ h. test.1 (fits_below p over under plain (stand.alike.0 h)))
