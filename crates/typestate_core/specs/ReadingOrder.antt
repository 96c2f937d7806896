-- Public contracts rest on this module.
-- The order in which a run asks its tree: the property file, the stub file if the words name one, the listing, and each class file. It stops where something
-- is not given or is refused.
use Rattle.std.specs.Prelude.{◌≡◌, ◌⊎◌, ℕ, Bool, true, false, List, [], ◌∷◌, Option, Some, None, IfSome}
use Rattle.ts_outside.specs.Calls.{Called, Calls, Question, all_given, given, reading}
use Rattle.ts_outside.specs.Files.{File, file_at}
use Rattle.failure.specs.declared.Failure.{Failure}
use Rattle.jvm_model.specs.declared.automaton.Automaton.{Automaton}
use Rattle.jvm_model.specs.declared.stub.StubClass.{StubClass}
use Rattle.class_folder.specs.declared.fault.FolderFault.{FolderFault}
use Rattle.class_folder.specs.FolderCalls.{AreNames, StopsReading, folder_questions}
use Rattle.command_words.specs.Requests.{Wanted, AsksFor}
use Rattle.property_file.specs.PropertyFile.{IsPropertyFile}
use Rattle.stub_file.specs.StubFile.{IsStubFile}
use Rattle.run_spec.specs.declared.status.Status.{Status}
use Rattle.run_spec.specs.Inputs.{AsksForSample}
use Rattle.run_spec.specs.declared.status.Status.TheVariants.{AllSafe, SomeUnproved, Refused, RejectedCertificate, ReadFault, WriteFault, Usage, Memory}

-- ---- the words

-- The words ask for nothing.
abbrev pub IsMisused : List (List ℕ) → Type 0
IsMisused words = (w : Wanted) → AsksFor words w → ⊥

-- They ask for nothing of a tree.
abbrev pub LeavesTree : List (List ℕ) → Type 0
LeavesTree words = IsMisused words ⊎ AsksForSample words

-- What is answered where they ask for nothing at all, whatever the tree and the sink tell.
abbrev pub IsUsageEnd : Status → Type 0
IsUsageEnd AllSafe = ⊥
IsUsageEnd SomeUnproved = ⊥
IsUsageEnd Refused = ⊥
IsUsageEnd RejectedCertificate = ⊥
IsUsageEnd ReadFault = ⊥
IsUsageEnd WriteFault = Unit {0}
IsUsageEnd Usage = Unit {0}
IsUsageEnd Memory = Unit {0}

-- The status comes with a report.
abbrev pub is_report : Status → Bool
is_report AllSafe = true
is_report SomeUnproved = true
is_report Refused = false
is_report RejectedCertificate = false
is_report ReadFault = false
is_report WriteFault = false
is_report Usage = false
is_report Memory = false

-- ---- the files

-- Of a property file or a stub file no more is asked for than tells whether it has too many bytes.
abbrev pub document_question : List ℕ → Question
document_question name = reading name 1048577

-- The file that the words name is a property file, or a stub file, where the tree tells its files.
abbrev pub HasProperty : Option (List File) → List ℕ → Type 0
HasProperty files name = IfSome files (λ held. (bytes : List ℕ) × (a : Automaton) × (file_at held name ≡ Some bytes) × IsPropertyFile bytes a)

abbrev pub HasStubs : Option (List File) → List ℕ → Type 0
HasStubs files name = IfSome files (λ held. (bytes : List ℕ) × (stubs : List StubClass) × (file_at held name ≡ Some bytes) × IsStubFile name bytes stubs)

-- ---- the calls

-- From the listing on. Only where all class files are read there may be a report.
pub data FolderCalls (files : Option (List File)) (reports : Bool) (calls : List Called) : Type 0 where
  folder_read : (names : List (List ℕ)) → AreNames files names → calls ≡ all_given (folder_questions names) → FolderCalls files reports calls
  folder_stops : (failure : Failure FolderFault) → StopsReading files calls failure → reports ≡ false → FolderCalls files reports calls

-- From the stub file on. What comes after it is asked for only where it is one.
pub data StubCalls (files : Option (List File)) (w : Wanted) (reports : Bool) (calls : List Called) : Type 0 where
  without_stubs : w.stubs ≡ None → FolderCalls files reports calls → StubCalls files w reports calls
  stubs_stop : (name : List ℕ) → w.stubs ≡ Some name → (is_given : Bool) → calls ≡ record { asked = document_question name; is_given = is_given } ∷ []
      → reports ≡ false → StubCalls files w reports calls
  stubs_read : (name : List ℕ) (rest : List Called) → w.stubs ≡ Some name → HasStubs files name → FolderCalls files reports rest
      → calls ≡ given (document_question name) ∷ rest → StubCalls files w reports calls

-- From the property file on.
pub data PropertyCalls (files : Option (List File)) (w : Wanted) (reports : Bool) (calls : List Called) : Type 0 where
  property_stops : (is_given : Bool) → calls ≡ record { asked = document_question w.property; is_given = is_given } ∷ [] → reports ≡ false
      → PropertyCalls files w reports calls
  property_read : (rest : List Called) → HasProperty files w.property → StubCalls files w reports rest → calls ≡ given (document_question w.property) ∷ rest
      → PropertyCalls files w reports calls

-- Of the whole run. There are none where the words ask for nothing, or for a sample, or memory ran out before.
pub data RunCalls (words : List (List ℕ)) (files : Option (List File)) (reports : Bool) (calls : List Called) : Type 0 where
  no_calls : calls ≡ [] → reports ≡ false → RunCalls words files reports calls
  of_sample : AsksForSample words → calls ≡ [] → RunCalls words files reports calls
  some_calls : (w : Wanted) → AsksFor words w → PropertyCalls files w reports calls → RunCalls words files reports calls

-- A run asks its tree for what these calls ask for, and for nothing besides.
abbrev pub AsksInOrder : Option (List Called) → Option (List Called) → (List Called → Type 0) → Type 0
AsksInOrder old new Order = (calls : List Called) × Calls old new calls × Order calls
