-- Only the proofs of this crate rest on this module.
-- What stands at the front of a text, where descriptors follow one another.
use Rattle.std.specs.Prelude.{◌≡◌, ℕ, ◌≤◌, Option, Some, None, List, ◌∷◌, ◌++◌, length, All, sum_by, take}
use Rattle.std.specs.List.{flat_map}
use Rattle.jvm_model.specs.Descriptors.{IsFieldDescriptor, units_of}

-- So many bytes at the front of a text are in a grammar. For None, no front of it is.
abbrev pub IsFrontLength : (List ℕ → Type 0) → List ℕ → Option ℕ → Type 0
IsFrontLength P text None = (front rest : List ℕ) → P front → text ≡ front ++ rest → ⊥
IsFrontLength P text (Some n) = (n ≤ length text) × P (take n text)

-- The text begins with the parameters of a method, of at most 255 units, and their closing parenthesis; the
-- outcome is what follows (JVMS 4.3.3).
pub record EndsParameters (text outcome : List ℕ) : Type 0 where
  pub parameters : List (List ℕ)
  pub spelled : text ≡ flat_map (λ p. p) parameters ++ 41 ∷ outcome
  pub each : All IsFieldDescriptor parameters
  pub units : sum_by units_of parameters ≤ 255
