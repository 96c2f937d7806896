-- Public contracts rest on this module.
-- What a run is given: what its words ask for, and what the files that they name and the class files say.
use Rattle.std.specs.Prelude.{◌≡◌, ℕ, List, [], ◌++◌, map, Option, Some, None, IsTrue}
use Rattle.ts_outside.specs.Files.{File, file_at, names_differ}
use Rattle.jvm_model.specs.declared.automaton.Automaton.{Automaton}
use Rattle.jvm_model.specs.declared.program.NamedClass.{NamedClass}
use Rattle.jvm_model.specs.declared.stub.StubClass.{StubClass}
use Rattle.class_folder.specs.ClassFiles.{AreClassFiles}
use Rattle.command_words.specs.declared.request.Mode.{Mode}
use Rattle.command_words.specs.declared.request.Mode.TheVariants as modes
use Rattle.command_words.specs.Requests.{Wanted, AsksFor}
use Rattle.property_file.specs.PropertyFile.{IsPropertyFile}
use Rattle.stub_file.specs.BaseStubs.{base_classes}
use Rattle.stub_file.specs.StubFile.{IsStubFile}

-- The names of the files differ, as those of a folder do.
abbrev pub HaveDifferentNames : List File → Type 0
HaveDifferentNames files = IsTrue (names_differ (map (λ (f : File). f.name) files))

-- What is to be told is of the files of the tree, and not of a sample.
abbrev pub IsOfTree : Mode → Type 0
IsOfTree modes.Report = Unit {0}
IsOfTree modes.Trace = Unit {0}
IsOfTree modes.Certificate = Unit {0}
IsOfTree (modes.Sample count) = ⊥

-- Words ask for a certificate.
abbrev pub AsksForCertificate : List (List ℕ) → Type 0
AsksForCertificate words = (w : Wanted) × AsksFor words w × (w.mode ≡ modes.Certificate)

-- Words ask for a sample.
abbrev pub AsksForSample : List (List ℕ) → Type 0
AsksForSample words = (w : Wanted) × AsksFor words w × (count : ℕ) × (w.mode ≡ modes.Sample count)

-- The user's stubs: those of the stub file, or none.
abbrev pub AreStubs : List File → Option (List ℕ) → List StubClass → Type 0
AreStubs files None stubs = stubs ≡ []
AreStubs files (Some name) stubs = (bytes : List ℕ) × (file_at files name ≡ Some bytes) × IsStubFile name bytes stubs

-- The stubs of a run: those that are built in, and the user's.
abbrev pub all_stubs : List StubClass → List StubClass
all_stubs stubs = base_classes ++ stubs

-- What a run is given: what its words ask for, the property, the user's stubs, and the class files.
pub record Input : Type 0 where
  pub wanted : Wanted
  pub property : Automaton
  pub stubs : List StubClass
  pub classes : List NamedClass

-- The words ask for a run on the files of the tree; the property file and the stub file keep their rules; and the class files are sound, and within the
-- limits.
pub record IsInput (words : List (List ℕ)) (files : List File) (input : Input) : Type 0 where
  pub asks : AsksFor words input.wanted
  pub of_tree : IsOfTree input.wanted.mode
  pub property_bytes : List ℕ
  pub property_held : file_at files input.wanted.property ≡ Some property_bytes
  pub property : IsPropertyFile property_bytes input.property
  pub stubs : AreStubs files input.wanted.stubs input.stubs
  pub classes : AreClassFiles files input.classes
