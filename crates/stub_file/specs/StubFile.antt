-- Public contracts rest on this module.
-- What a stub file says, and why one is refused.
use Rattle.std.specs.Prelude.{codes, ◌≡◌, ℕ, pos, List, [], ◌∷◌, ◌++◌, length, All, Some, None}
use Rattle.std.specs.List.{AllZip}
use Rattle.toml.specs.Data.{integer, array, Members, get_member}
use Rattle.jvm_model.specs.declared.stub.StubClass.{StubClass}
use Rattle.toml_tables.specs.Documents.{tables, IsDocument, IsNoDocument}
use Rattle.toml_tables.specs.Tables.{HasOnly}
use Rattle.failure.specs.declared.Failure.{Failure}
use Rattle.stub_file.specs.declared.stub_failure.StubFault.{StubFault}
use Rattle.failure.specs.declared.Failure.TheVariants.{Cause, OutOfMemory}
use Rattle.stub_file.specs.declared.stub_failure.StubFault.TheVariants.{BadToml, BadStub}
use Rattle.jvm_model.specs.StubRules.{IsSoundStub}
use Rattle.stub_file.specs.StubSpelling.{SpellsClass}

-- The table of a class gives the class: it spells it, and the class keeps the rules.
pub record GivesClass (file : List ℕ) (members : Members) (c : StubClass) : Type 0 where
  pub spells : SpellsClass file members c
  pub sound : IsSoundStub c

abbrev pub file_keys : List (List ℕ)
file_keys = codes "version" ∷ codes "class" ∷ []

-- Outside the classes: the version is 1, the classes are these tables, and there is no other key.
pub record HasOuterKeys (members : Members) (class_tables : List Members) : Type 0 where
  pub keys : HasOnly file_keys members
  pub version : get_member (codes "version") members ≡ Some (integer (pos 1))
  pub class : get_member (codes "class") members ≡ Some (array (tables class_tables))

-- A table is that of a stub file of these classes.
pub record SpellsFile (file : List ℕ) (members : Members) (classes : List StubClass) : Type 0 where
  pub class_tables : List Members
  pub outer : HasOuterKeys members class_tables
  pub each : AllZip (GivesClass file) class_tables classes

-- The bytes are a stub file of these classes: a document, not too large, whose table spells them.
pub record IsStubFile (file bytes : List ℕ) (classes : List StubClass) : Type 0 where
  pub members : Members
  pub document : IsDocument bytes members
  pub spells : SpellsFile file members classes

-- The number of the first table that gives no class.
pub record IsFirstBreach (file : List ℕ) (class_tables : List Members) (number : ℕ) : Type 0 where
  pub before : List Members
  pub fault : Members
  pub after : List Members
  pub stands : class_tables ≡ before ++ fault ∷ after
  pub counted : number ≡ length before
  pub earlier : All (λ members. (c : StubClass) × GivesClass file members c) before
  pub breaks : (c : StubClass) → GivesClass file fault c → ⊥

-- Why a table is refused: a key outside the classes breaks a rule; or none does, and a class is the first that breaks one.
abbrev pub IsTableRefusal : List ℕ → Members → Failure StubFault → Type 0
IsTableRefusal file _ (Cause BadToml) = ⊥
IsTableRefusal file members (Cause (BadStub None)) = (class_tables : List Members) → HasOuterKeys members class_tables → ⊥
IsTableRefusal file members (Cause (BadStub (Some number))) =
    (class_tables : List Members) × HasOuterKeys members class_tables × IsFirstBreach file class_tables number
IsTableRefusal file _ OutOfMemory = Unit {0}

-- The bytes are a document whose table is refused for this.
pub record IsRefusedDocument (file bytes : List ℕ) (refusal : Failure StubFault) : Type 0 where
  pub members : Members
  pub document : IsDocument bytes members
  pub refused : IsTableRefusal file members refusal

-- Why bytes are refused: they are no document; the document's table is refused; or out of memory.
abbrev pub IsStubRefusal : List ℕ → List ℕ → Failure StubFault → Type 0
IsStubRefusal file bytes (Cause BadToml) = IsNoDocument bytes
IsStubRefusal file bytes (Cause (BadStub class)) = IsRefusedDocument file bytes (Cause (BadStub class))
IsStubRefusal file bytes OutOfMemory = Unit {0}
