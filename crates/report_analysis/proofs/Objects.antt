-- Whether a class is in the program, by the search for its name.
use Rattle.std.proofs.Common.{◌≡◌, ◌↔◌, ℕ, List, Option, Some, None, IsTrue, refl, ◌∙◌, subst}
use Rattle.std.specs.Option.{is_some, IfSome, IfNone}
use Rattle.jvm_model.specs.declared.number.ClassNo.{ClassNo}
use Rattle.jvm_model.specs.LinkedPrograms.{IsProgram}
use Rattle.jvm_model.specs.Programs.{Program, Class}
use Rattle.jvm_model.specs.Subtypes.{class_named}
use Rattle.program_model.specs.Numbers.{name_at, IsClassNumber}
use Rattle.std.proofs.lemmas.Option.{slice_get_within}
use Rattle.hierarchy.proofs.ClassPlaces.{class_at, class_of_number, number_named}

pub found_there : (p : Program) → IsProgram p → (name : List ℕ) (o : Option ClassNo) → IfSome o (λ c. IsClassNumber p c.0 × (name_at p c.0 ≡ name))
    → IfNone o ((n : ℕ) → IsClassNumber p n → name_at p n ≡ name → ⊥) → IsTrue (is_some o) ↔ ((c : Class) × (class_named p name ≡ Some c))
found_there p program name None some none = (
  (λ no. absurd (cc no)),
  (λ (c, named). let (n, stands, is) = number_named p name c named in
      absurd (none n (slice_get_within p.classes n c stands) ((class_at p program n c stands).name ∙ is))),
)
found_there p program name (Some n) (below, is) none = (
  (λ yes. let (c, at) = class_of_number p program n.0 below in (c, subst (λ (text : List ℕ). class_named p text ≡ Some c) is at.named)),
  (λ there. refl),
)
