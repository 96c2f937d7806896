-- This crate's own proofs alone rest on this module.
-- The first of several failures.
use Rattle.std.specs.Prelude.{◌≡◌, ◌⊎◌, ℕ, Option, Some, None}
use Rattle.machine_bytecode.specs.Objects.{Subject}
use Rattle.stage_transfer.specs.Settings.{Setting}
use Rattle.ground_views.specs.declared.question.Question.{Question}
use Rattle.ground_views.specs.Questions.{IsAskedOf}
use Rattle.edge_checker.specs.declared.rejected.Rejected.{Rejected}
use Rattle.edge_checker.specs.Conditions.{IsFirst, IsUpTo, number_of}

-- All is met, and nothing fails.
pub record NoneFails (Met : Type 0) (F : ℕ → ℕ → Type 0) : Type 0 where
  pub met : Met
  pub none : (k l : ℕ) → F k l → ⊥

-- What fails first; or nothing fails.
abbrev pub IsLeastOf : Type 0 → (ℕ → ℕ → Type 0) → Option Rejected → Type 0
IsLeastOf Met F None = NoneFails Met F
IsLeastOf Met F (Some r) = IsFirst F (number_of r.condition) r.line

-- The same for each subject and setting of which it is asked.
pub record IsLeastFor (q : Question) (Met : Subject → Setting → Type 0) (F : Subject → Setting → ℕ → ℕ → Type 0) (o : Option Rejected) : Type 0 where
  pub each : (x : Subject) (w : Setting) → IsAskedOf q x w → IsLeastOf (Met x w) (F x w) o

-- The one failure is up to the other.
abbrev pub Precedes : Rejected → Rejected → Type 0
Precedes r s = IsUpTo (number_of r.condition) r.line (number_of s.condition) s.line

-- It is one of the two, and up to both.
pub record IsLesser (r s least : Rejected) : Type 0 where
  pub one_of : (least ≡ r) ⊎ (least ≡ s)
  pub first : Precedes least r
  pub second : Precedes least s

-- The lesser of two, where there are any.
pub data IsLesserOf : Option Rejected → Option Rejected → Option Rejected → Type 0 where
  neither : IsLesserOf None None None
  one : (r : Rejected) → IsLesserOf (Some r) None (Some r)
  other : (s : Rejected) → IsLesserOf None (Some s) (Some s)
  both : (r s least : Rejected) → IsLesser r s least → IsLesserOf (Some r) (Some s) (Some least)
