-- Whether a class is a subtype of another one, and whether an object of a class or an array fits a type, is decided.
use Rattle.std.proofs.Common.{codes, ◌≡◌, ◌⊎◌, inl, inr, ℕ, zero, suc, ◌<◌, List, length, Some, sym, subst, arith}
use Rattle.std.specs.Bool.{IsTrue}
use Rattle.jvm_model.specs.Programs.{Class, Program, object_name}
use Rattle.jvm_model.specs.Soundness.{is_array}
use Rattle.jvm_model.specs.Subtypes.{class_named, IsSubtype, array_of, IsArraySuper, Fits, by_class, by_array, by_itself, by_elements}
use Rattle.program_laws.proofs.ArrayNames.{element_of, element_is, array_is, element_shorter}
use Rattle.program_laws.proofs.Choices.{OrNot, carried_over, either_or_not, both_or_not, same_or_not, true_or_not, held_or_not}
use Rattle.program_laws.proofs.Paths.{below_or_not}

pub subtype_or_not : (p : Program) (above name : List ℕ) → IsSubtype p above name ⊎ (IsSubtype p above name → ⊥)
subtype_or_not p above name = below_or_not p above name

-- ---- how an object fits: the elements of arrays are what their names tell

abbrev ByClass : Program → List ℕ → List ℕ → Type 0
ByClass p upper lower = (c : Class) × (class_named p lower ≡ Some c) × IsSubtype p upper lower

abbrev ByArray : List ℕ → List ℕ → Type 0
ByArray upper lower = IsTrue (is_array lower) × (IsArraySuper upper ⊎ (upper ≡ lower))

abbrev ByElements : Program → List ℕ → List ℕ → Type 0
ByElements p upper lower = (lower ≡ array_of (element_of lower)) × ((upper ≡ array_of (element_of upper)) × Fits p (element_of upper) (element_of lower))

abbrev Ways : Program → List ℕ → List ℕ → Type 0
Ways p upper lower = ByClass p upper lower ⊎ (ByArray upper lower ⊎ ByElements p upper lower)

fits_by : (p : Program) (upper lower : List ℕ) → Ways p upper lower → Fits p upper lower
fits_by p upper lower (inl h) = by_class upper lower h.0 h.1 h.2
fits_by p upper lower (inr (inl h)) = at h.1
  where
    at : IsArraySuper upper ⊎ (upper ≡ lower) → Fits p upper lower
    at (inl super) = by_array upper lower h.0 super
    at (inr e) = by_itself upper lower h.0 e
fits_by p upper lower (inr (inr h)) = by_elements upper lower (element_of upper) (element_of lower) h.1.0 h.0 h.1.1

way_of : (p : Program) (upper lower : List ℕ) → Fits p upper lower → Ways p upper lower
way_of p upper lower (by_class u l c named subtype) = inl (c, named, subtype)
way_of p upper lower (by_array u l array super) = inr (inl (array, inl super))
way_of p upper lower (by_itself u l array e) = inr (inl (array, inr e))
way_of p upper lower (by_elements u l over under e f fits) =
    inr (inr (
      array_is lower under f,
      (
        array_is upper over e,
        subst (λ (name : List ℕ). Fits p name (element_of lower)) (sym (element_is upper over e))
            (subst (λ (name : List ℕ). Fits p over name) (sym (element_is lower under f)) fits),
      ),
    ))

-- ---- whether it does

class_or_not : (p : Program) (upper lower : List ℕ) → OrNot (ByClass p upper lower)
class_or_not p upper lower = held_or_not (λ (c : Class). IsSubtype p upper lower) (λ c. below_or_not p upper lower) (class_named p lower)

array_or_not : (upper lower : List ℕ) → OrNot (ByArray upper lower)
array_or_not upper lower =
    both_or_not (true_or_not (is_array lower))
    (λ array. either_or_not
    (either_or_not (same_or_not upper object_name) (either_or_not (same_or_not upper (codes "java/lang/Cloneable")) (same_or_not upper (codes "java/io/Serializable"))))
    (same_or_not upper lower))

-- the elements of an array have a shorter name than it has
fits_within : (p : Program) (limit : ℕ) (upper lower : List ℕ) → length lower < limit → OrNot (Fits p upper lower)
fits_within p zero upper lower short = absurd (omega arith)
fits_within p (suc limit) upper lower short =
    carried_over (fits_by p upper lower) (way_of p upper lower)
    (either_or_not (class_or_not p upper lower)
    (either_or_not (array_or_not upper lower)
    (both_or_not (same_or_not lower (array_of (element_of lower)))
    (λ array. both_or_not (same_or_not upper (array_of (element_of upper)))
    (λ other. let shorter = element_shorter lower array in fits_within p limit (element_of upper) (element_of lower) (omega arith))))))

pub fits_or_not : (p : Program) (upper lower : List ℕ) → Fits p upper lower ⊎ (Fits p upper lower → ⊥)
fits_or_not p upper lower = fits_within p (suc (length lower)) upper lower (omega arith)
