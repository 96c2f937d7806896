-- Public contracts rest on this module.
-- The calls in which the class files of a folder are read: the listing, and then each file in the order of the names.
use Rattle.std.specs.Prelude.{◌≡◌, ℕ, ◌+◌, Bool, true, false, List, [], ◌∷◌, ◌++◌, map, Option, IfSome}
use Rattle.ts_outside.specs.Calls.{Called, Question, all_given, listing, reading}
use Rattle.ts_outside.specs.Files.{File, IsListing}
use Rattle.failure.specs.declared.Failure.{Failure}
use Rattle.failure.specs.declared.Failure.TheVariants.{Cause, OutOfMemory}
use Rattle.jvm_model.specs.declared.program.NamedClass.{NamedClass}
use Rattle.class_folder.specs.declared.fault.FolderFault.{FolderFault}
use Rattle.class_folder.specs.declared.fault.FolderFault.TheVariants.{Refused, Missing, Unreadable}
use Rattle.class_folder.specs.ClassFiles.{most_bytes}

-- Of a class file no more is asked for than tells whether it has too many bytes.
abbrev pub file_question : List ℕ → Question
file_question name = reading name (most_bytes + 1)

-- What is asked for where these are the names of the class files.
abbrev pub folder_questions : List (List ℕ) → List Question
folder_questions names = listing ∷ map file_question names

-- The names of the files that the class files come from.
abbrev pub names_of_files : List NamedClass → List (List ℕ)
names_of_files classes = map (λ (c : NamedClass). c.file) classes

-- The names are those of the class files, where the tree tells its files.
abbrev pub AreNames : Option (List File) → List (List ℕ) → Type 0
AreNames files names = IfSome files (λ held. IsListing held names)

-- A failure that may come right after the listing, which was given or not.
abbrev pub EndsListing : Failure FolderFault → Bool → Type 0
EndsListing (Cause (Refused r)) is_given = is_given ≡ true
EndsListing (Cause (Missing name)) is_given = ⊥
EndsListing (Cause Unreadable) is_given = is_given ≡ false
EndsListing OutOfMemory is_given = Unit {0}

-- A failure that may come right after a file of this name was asked for, which was given or not.
abbrev pub EndsFile : Failure FolderFault → List ℕ → Bool → Type 0
EndsFile (Cause (Refused r)) name is_given = (r.file ≡ name) × (is_given ≡ true)
EndsFile (Cause (Missing missed)) name is_given = (missed ≡ name) × (is_given ≡ false)
EndsFile (Cause Unreadable) name is_given = is_given ≡ false
EndsFile OutOfMemory name is_given = Unit {0}

-- The calls of a reading that failed: it ends with the listing, or with the file that it fails at, before which each was given.
pub data StopsReading (files : Option (List File)) (calls : List Called) (failure : Failure FolderFault) : Type 0 where
  at_listing : (is_given : Bool) → EndsListing failure is_given → calls ≡ record { asked = listing; is_given = is_given } ∷ []
      → StopsReading files calls failure
  at_file : (before after : List (List ℕ)) → (name : List ℕ) → AreNames files (before ++ name ∷ after) → (is_given : Bool) → EndsFile failure name is_given
      → calls ≡ all_given (folder_questions before) ++ record { asked = file_question name; is_given = is_given } ∷ [] → StopsReading files calls failure
