-- Only the proofs of this crate rest on this module.
-- What the parts of a stub file's reader answer.
use Rattle.std.specs.Prelude.{codes, ◌≡◌, ℕ, List, All, Option, Some, None, IsTrue}
use Rattle.toml.specs.declared.value.Value.{Value}
use Rattle.toml.specs.Data.{Data, array, get_member, Members}
use Rattle.toml.specs.View.{items_view, view}
use Rattle.jvm_model.specs.declared.descriptor.Kind.{Kind}
use Rattle.jvm_model.specs.declared.stub.StubResult.{StubResult}
use Rattle.jvm_model.specs.declared.stub.StubResult.TheVariants.{Given, New}
use Rattle.jvm_model.specs.declared.stub.StubMethod.{StubMethod}
use Rattle.jvm_model.specs.declared.stub.StubField.{StubField}
use Rattle.jvm_model.specs.declared.stub.StubClass.{StubClass}
use Rattle.jvm_model.specs.Automata.{all_differ}
use Rattle.jvm_model.specs.Names.{is_method_name, IsClassName}
use Rattle.toml_tables.specs.Documents.{tables}
use Rattle.failure.specs.declared.Failure.{Failure}
use Rattle.stub_file.specs.declared.stub_failure.StubFault.{StubFault}
use Rattle.failure.specs.declared.Failure.TheVariants.{Cause, OutOfMemory}
use Rattle.stub_file.specs.declared.stub_failure.StubFault.TheVariants.{BadToml, BadStub}
use Rattle.stub_file.specs.StubFile.{IsFirstBreach}
use Rattle.jvm_model.specs.Stubs.{is_same_field, is_same_method}
use Rattle.jvm_model.specs.StubRules.{is_object_argument, lists_outcomes, patches_methods_alone, HasSuper, IsSoundField, IsSoundMethod, MayReturn}
use Rattle.stub_file.specs.StubSpelling.{SpellsResult}

-- The value spells this.
abbrev pub ValueSpells : {X : Type 0} → (Data → X → Type 0) → Value → X → Type 0
ValueSpells Spells value x = Spells (view value) x

-- The result is one word alone, and the text is that word.
abbrev pub IsPlainWord : List ℕ → StubResult → Type 0
IsPlainWord text (Given argument) = ⊥
IsPlainWord text (New name) = ⊥
IsPlainWord text outcome = SpellsResult text outcome

-- What is asked of a method beside its descriptor, whose parameters and result these are.
pub record AreSoundParts (m : StubMethod) (parameters : List Kind) (outcome : Option Kind) : Type 0 where
  pub name : IsTrue (is_method_name m.name)
  pub returns : All (MayReturn m.is_static parameters outcome) m.returns
  pub throws : All IsClassName m.throws
  pub keeps : All (λ argument. IsTrue (is_object_argument m.is_static parameters argument)) m.keeps
  pub lists : IsTrue (lists_outcomes m)

-- Methods, or fields, that keep the rules and differ.
pub record AreSoundMethods (methods : List StubMethod) : Type 0 where
  pub each : All IsSoundMethod methods
  pub differ : IsTrue (all_differ is_same_method methods)

pub record AreSoundFields (fields : List StubField) : Type 0 where
  pub each : All IsSoundField fields
  pub differ : IsTrue (all_differ is_same_field fields)

-- What is asked of a class beside its methods and fields.
pub record HasSoundHead (c : StubClass) : Type 0 where
  pub name : IsClassName c.name
  pub super_class : HasSuper c
  pub interfaces : All IsClassName c.interfaces
  pub patch : IsTrue (patches_methods_alone c)

-- Values that are tables.
pub record AreTables (values : List Value) : Type 0 where
  pub class_tables : List Members
  pub spelled : items_view values ≡ tables class_tables

-- The table has these values for classes, and each is a table.
pub record GivesTables (members : Members) (values : List Value) : Type 0 where
  pub class : get_member (codes "class") members ≡ Some (array (items_view values))
  pub each : AreTables values

-- Why a list of tables is refused: a class is the first that breaks a rule; or out of memory.
abbrev pub IsListRefusal : List ℕ → List Members → Failure StubFault → Type 0
IsListRefusal file class_tables (Cause BadToml) = ⊥
IsListRefusal file class_tables (Cause (BadStub None)) = ⊥
IsListRefusal file class_tables (Cause (BadStub (Some number))) = IsFirstBreach file class_tables number
IsListRefusal file class_tables OutOfMemory = Unit {0}

-- The failure names the class with this number, or is out of memory.
abbrev pub IsBreachAt : ℕ → Failure StubFault → Type 0
IsBreachAt number (Cause BadToml) = ⊥
IsBreachAt number (Cause (BadStub None)) = ⊥
IsBreachAt number (Cause (BadStub (Some named))) = named ≡ number
IsBreachAt number OutOfMemory = Unit {0}
