-- Public contracts rest on this module.
-- The class files of a folder, and which of them is refused first.
use Rattle.std.specs.Prelude.{codes, ◌≡◌, ℕ, ◌+◌, ◌<◌, ◌≤◌, List, [], ◌∷◌, ◌++◌, length, fold, Some, unwrap_or}
use Rattle.std.specs.List.{AllZip}
use Rattle.ts_outside.specs.Files.{File, file_at, IsListing}
use Rattle.failure.specs.declared.Failure.{Failure}
use Rattle.failure.specs.declared.Failure.TheVariants.{Cause, OutOfMemory}
use Rattle.jvm_model.specs.declared.program.NamedClass.{NamedClass}
use Rattle.jvm_model.specs.declared.reason.Reason.{Reason}
use Rattle.jvm_model.specs.declared.reason.Reason.TheVariants.{TooManyFiles}
use Rattle.jvm_model.specs.declared.reason.Refusal.{Refusal}
use Rattle.jvm_model.specs.Soundness.{IsSoundClass}
use Rattle.classfile_reader.specs.ClassReading.{SpellsReadable}
use Rattle.classfile_reader.specs.Faults.{IsFaulty}
use Rattle.class_folder.specs.declared.fault.FolderFault.{FolderFault}
use Rattle.class_folder.specs.declared.fault.FolderFault.TheVariants.{Refused, Missing, Unreadable}

-- ---- limits

-- So many class files, and so many bytes of one and of all of them together.
abbrev pub most_files : ℕ
most_files = 4096

abbrev pub most_bytes : ℕ
most_bytes = 4194304

abbrev pub most_bytes_together : ℕ
most_bytes_together = 67108864

-- The bytes of the file of a name.
abbrev pub bytes_of : List File → List ℕ → List ℕ
bytes_of files name = unwrap_or (file_at files name) []

-- How many bytes the files of these names have together.
abbrev pub size_of : List File → List (List ℕ) → ℕ
size_of files names = fold (λ size (name : List ℕ). size + length (bytes_of files name)) 0 names

-- ---- files that are read

-- The file of the name is the class file: its bytes spell a sound one (JVMS 4.1, 4.8).
pub record IsClassFile (files : List File) (name : List ℕ) (c : NamedClass) : Type 0 where
  pub file : c.file ≡ name
  pub bytes : List ℕ
  pub held : file_at files name ≡ Some bytes
  pub spelled : SpellsReadable bytes c.class
  pub sound : IsSoundClass c.class

-- The files of these names are the class files, and have no more bytes together than may be.
pub record AreRead (files : List File) (names : List (List ℕ)) (classes : List NamedClass) : Type 0 where
  pub each : AllZip (IsClassFile files) names classes
  pub size : size_of files names ≤ most_bytes_together

-- The class files of the folder, in byte order of the names of their files.
pub record AreClassFiles (files : List File) (classes : List NamedClass) : Type 0 where
  pub names : List (List ℕ)
  pub listing : IsListing files names
  pub number : length names ≤ most_files
  pub read : AreRead files names classes

-- ---- refusals

-- Why a file is refused that these come before: it has too many bytes itself; or with those before it; or there is a fault in it.
pub data IsRefusedAfter (files : List File) (before : List (List ℕ)) (name : List ℕ) (offset : ℕ) (reason : Reason) : Type 0 where
  by_size : (bytes : List ℕ) → file_at files name ≡ Some bytes → most_bytes < length bytes → IsFaulty bytes offset reason
      → IsRefusedAfter files before name offset reason
  by_sum : (bytes : List ℕ) → file_at files name ≡ Some bytes → length bytes ≤ most_bytes
      → most_bytes_together < size_of files (before ++ name ∷ []) → offset ≡ 0 → reason ≡ TooManyFiles
      → IsRefusedAfter files before name offset reason
  by_fault : (bytes : List ℕ) → file_at files name ≡ Some bytes → length bytes ≤ most_bytes
      → size_of files (before ++ name ∷ []) ≤ most_bytes_together → IsFaulty bytes offset reason
      → IsRefusedAfter files before name offset reason

-- The first file that is refused, of those that are listed.
pub record IsFirstRefused (files : List File) (r : Refusal) : Type 0 where
  pub names : List (List ℕ)
  pub listing : IsListing files names
  pub number : length names ≤ most_files
  pub before : List (List ℕ)
  pub after : List (List ℕ)
  pub stands : names ≡ before ++ r.file ∷ after
  pub classes : List NamedClass
  pub read : AreRead files before classes
  pub refused : IsRefusedAfter files before r.file r.offset r.reason

-- There are more class files than may be, which is said of no file.
pub record AreTooMany (files : List File) (r : Refusal) : Type 0 where
  pub names : List (List ℕ)
  pub listing : IsListing files names
  pub number : most_files < length names
  pub file : r.file ≡ codes "-"
  pub offset : r.offset ≡ 0
  pub reason : r.reason ≡ TooManyFiles

pub data IsRefusedFolder (files : List File) (r : Refusal) : Type 0 where
  too_many : AreTooMany files r → IsRefusedFolder files r
  one_file : IsFirstRefused files r → IsRefusedFolder files r

-- What a failure says of the files that the tree holds. None that is listed is missing; and where reading fails nothing is said of them.
abbrev pub IsFolderFailure : List File → Failure FolderFault → Type 0
IsFolderFailure files (Cause (Refused r)) = IsRefusedFolder files r
IsFolderFailure files (Cause (Missing name)) = ⊥
IsFolderFailure files (Cause Unreadable) = Unit {0}
IsFolderFailure files OutOfMemory = Unit {0}

-- The cause that says that reading failed.
abbrev pub unreadable : FolderFault
unreadable = Unreadable
