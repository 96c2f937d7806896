-- This crate's own proofs alone rest on this module.
-- The steps of the reading of class files.
use Rattle.std.specs.Prelude.{◌≡◌, ◌⊎◌, ℕ, ◌<◌, ◌≤◌, List, [], ◌∷◌, ◌++◌, length, None}
use Rattle.ts_outside.specs.Files.{File, file_at, IsListing}
use Rattle.failure.specs.declared.Failure.{Failure}
use Rattle.failure.specs.declared.Failure.TheVariants.{Cause, OutOfMemory}
use Rattle.jvm_model.specs.declared.program.NamedClass.{NamedClass}
use Rattle.jvm_model.specs.declared.reason.Reason.{Reason}
use Rattle.jvm_model.specs.declared.reason.Reason.TheVariants.{TooManyFiles}
use Rattle.jvm_model.specs.Soundness.{IsChecked, IsSoundClass}
use Rattle.classfile_reader.specs.ClassReading.{SpellsReadable}
use Rattle.classfile_reader.specs.Faults.{IsFaulty}
use Rattle.class_folder.specs.declared.fault.FolderFault.{FolderFault}
use Rattle.class_folder.specs.declared.fault.FolderFault.TheVariants.{Refused, Missing, Unreadable}
use Rattle.class_folder.specs.ClassFiles.{AreRead, IsRefusedAfter, most_bytes, most_bytes_together, most_files, size_of}

-- The names are those of the listing, and not too many.
pub record AreListed (files : List File) (names : List (List ℕ)) : Type 0 where
  pub listing : IsListing files names
  pub number : length names ≤ most_files

-- ---- one file, of these bytes

-- It is the class file that the bytes spell, and those up to it are not too large.
pub record IsFileRead (name bytes : List ℕ) (size : ℕ) (c : NamedClass) : Type 0 where
  pub file : c.file ≡ name
  pub spelled : SpellsReadable bytes c.class
  pub sound : IsSoundClass c.class
  pub checked : IsChecked c.class
  pub room : size ≤ most_bytes_together

-- Why it is refused.
abbrev pub IsBad : List ℕ → (size offset : ℕ) → Reason → Type 0
IsBad bytes size offset reason =
    ((most_bytes < length bytes) × IsFaulty bytes offset reason)
    ⊎ (((length bytes ≤ most_bytes) × (most_bytes_together < size) × (offset ≡ 0) × (reason ≡ TooManyFiles))
    ⊎ ((length bytes ≤ most_bytes) × (size ≤ most_bytes_together) × IsFaulty bytes offset reason))

abbrev pub IsFileFailure : List ℕ → List ℕ → ℕ → Failure FolderFault → Type 0
IsFileFailure name bytes size (Cause (Refused r)) = (r.file ≡ name) × IsBad bytes size r.offset r.reason
IsFileFailure name bytes size (Cause (Missing other)) = ⊥
IsFileFailure name bytes size (Cause Unreadable) = ⊥
IsFileFailure name bytes size OutOfMemory = Unit {0}

-- The failure is the refusal of the file.
abbrev pub IsRefusedAs : List ℕ → ℕ → Reason → Failure FolderFault → Type 0
IsRefusedAs name offset reason (Cause (Refused r)) = (r.file ≡ name) × (r.offset ≡ offset) × (r.reason ≡ reason)
IsRefusedAs name offset reason (Cause (Missing other)) = ⊥
IsRefusedAs name offset reason (Cause Unreadable) = ⊥
IsRefusedAs name offset reason OutOfMemory = ⊥

-- ---- the next file

-- The files before were read, and have so many bytes together.
pub record IsReadSoFar (files : List File) (before : List (List ℕ)) (classes : List NamedClass) (size : ℕ) : Type 0 where
  pub read : AreRead files before classes
  pub size_is : size ≡ size_of files before

-- The next file was read too.
pub record IsReadNext (files : List File) (name : List ℕ) (old : List NamedClass) (size : ℕ) (new : List NamedClass) (sum : ℕ) : Type 0 where
  pub next : (before : List (List ℕ)) → IsReadSoFar files before old size → IsReadSoFar files (before ++ name ∷ []) new sum

-- It is the first that is refused; or, where the folder does not have it, it is missing.
abbrev pub IsNextFailure : List File → List ℕ → (size : ℕ) → Failure FolderFault → Type 0
IsNextFailure files name size (Cause (Refused r)) =
    (r.file ≡ name) × ((before : List (List ℕ)) → size ≡ size_of files before → IsRefusedAfter files before name r.offset r.reason)
IsNextFailure files name size (Cause (Missing other)) = file_at files name ≡ None
IsNextFailure files name size (Cause Unreadable) = Unit {0}
IsNextFailure files name size OutOfMemory = Unit {0}
