-- Public contracts rest on this module.
-- Why bytes are not read; and the steps of a reading.
use Rattle.std.specs.Prelude.{◌≡◌, ◌⊎◌, ◌<◌, ◌≤◌, ℕ, List, [], ◌∷◌, ◌++◌, length, Option, Some, None, Result, Ok, Err}
use Rattle.failure.specs.declared.Failure.{Failure}
use Rattle.failure.specs.declared.Failure.TheVariants as failures
use Rattle.certificate_lines.specs.declared.line.Line.{Line}
use Rattle.certificate_lines.specs.LineTexts.{line_text}
use Rattle.certificates.specs.declared.fault.BadLine.{BadLine}
use Rattle.certificates.specs.declared.ranges.Ranges.{Ranges}
use Rattle.certificates.specs.Format.{IsBadLine, IsGoodAfter, kind}
use Rattle.certificates.specs.Texts.{most_bytes}

-- The bytes are over the limit, which is line 0; or it is the first line that is not of the format; or memory ran out.
abbrev pub IsReadEnd : Ranges → List ℕ → Failure BadLine → Type 0
IsReadEnd r bytes (failures.Cause bad) = ((bad.0 ≡ 0) × (most_bytes < length bytes)) ⊎ ((length bytes ≤ most_bytes) × IsBadLine r bytes bad.0)
IsReadEnd r bytes failures.OutOfMemory = Unit {0}

-- These lines were read, unless memory ran out.
abbrev pub ReadsAs : Result (List Line) (Failure BadLine) → List Line → Type 0
ReadsAs (Ok read) all = read ≡ all
ReadsAs (Err failure) all = failure ≡ failures.OutOfMemory

-- ---- steps

-- What comes behind a front, where the bytes begin with it.
pub record IsNoFront (front bytes : List ℕ) : Type 0 where
  pub none : (more : List ℕ) → bytes ≡ front ++ more → ⊥

abbrev pub IsAfter : List ℕ → List ℕ → Option (List ℕ) → Type 0
IsAfter front bytes None = IsNoFront front bytes
IsAfter front bytes (Some rest) = bytes ≡ front ++ rest

-- One more line was read, of this kind.
pub record IsOneMore (r : Ranges) (old new : List Line) (bytes rest : List ℕ) (k : ℕ) : Type 0 where
  pub x : Line
  pub good : IsGoodAfter r old x
  pub begins : bytes ≡ line_text x ++ rest
  pub added : new ≡ old ++ x ∷ []
  pub kind_is : k ≡ kind x

-- No line that is good here follows.
pub record IsStopped (r : Ranges) (all : List Line) (bytes : List ℕ) : Type 0 where
  pub none : (x : Line) (more : List ℕ) → IsGoodAfter r all x → bytes ≡ line_text x ++ more → ⊥

abbrev pub IsNext : Ranges → List Line → List Line → List ℕ → Option (List ℕ × ℕ) → Type 0
IsNext r old new bytes None = IsStopped r old bytes
IsNext r old new bytes (Some after) = IsOneMore r old new bytes after.0 after.1
