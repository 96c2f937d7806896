-- Where the descriptions of a program's methods come from, and the objects that its fields hold.
use Rattle.std.proofs.Common.{◌≡◌, ℕ, Bool, List, get_or, All, Contains, Option, Some, None, find, refl, ap, ◌∙◌}
use Rattle.std.specs.List.{enumerate_from, flat_map, slice_get}
use Rattle.std.specs.Option.{option_map_or}
use Rattle.std.proofs.lemmas.List.Elements.{Contains-get_or}
use Rattle.jvm_model.specs.declared.class_file.ClassFile.{ClassFile}
use Rattle.jvm_model.specs.declared.class_file.Member.{Member}
use Rattle.jvm_model.specs.declared.program.Origin.{Origin}
use Rattle.jvm_model.specs.declared.program.Origin.TheVariants.{Folder, Stub}
use Rattle.jvm_model.specs.declared.stub.StubClass.{StubClass}
use Rattle.jvm_model.specs.declared.stub.StubField.{StubField}
use Rattle.jvm_model.specs.declared.stub.StubMethod.{StubMethod}
use Rattle.jvm_model.specs.LinkedPrograms.{IsThere, HasMentioned, HoldsPresent}
use Rattle.jvm_model.specs.Linking.{methods_from, fields_from, folder_method, body_from, describes, program_from}
use Rattle.jvm_model.specs.Programs.{Method, Field, in_file, described, field_of}
use Rattle.jvm_model.specs.Stubs.{method_of_stub, field_of_stub, method_names}
use Rattle.program_index.proofs.ListPlaces.{map_at}
use Rattle.program_model.proofs.Bridges.{found_first}
use Rattle.program_model.proofs.Pieces.{among_at, place_among, in_piece}

-- ---- what stubs say

-- a description is that of a method of the stub, or of a native method of the class file
abbrev pub DescribesMethod : StubMethod → Origin → Type 0
DescribesMethod d (Folder f natives) = Contains natives d
DescribesMethod d (Stub c) = Contains c.methods d

-- a description that stands in one of the origins
pub record IsDescription (order : List Origin) (d : StubMethod) : Type 0 where
  pub origin : Origin
  pub among : Contains order origin
  pub said : DescribesMethod d origin

-- the name of the class of an object that a field holds, by one of the stubs
pub record IsHeld (order : List Origin) (name : List ℕ) : Type 0 where
  pub stub : StubClass
  pub among : Contains order (Stub stub)
  pub field : StubField
  pub of_stub : Contains stub.fields field
  pub holds : field.holds ≡ Some name

-- ---- methods

-- a method of a class file with a description
described_native : (natives : List StubMethod) (c : ClassFile) (m : ℕ × Member) (d : StubMethod) → body_from natives c m ≡ described d → Contains natives d
described_native natives c m d e = by (find test natives) refl e
  where
    test : StubMethod → Bool
    test s = describes c.pool s m.1

    by : (found : Option StubMethod) → find test natives ≡ found → option_map_or described found (in_file c m.0 m.1) ≡ described d → Contains natives d
    by None is e = absurd cc
    by (Some s) is e =
        let same : s ≡ d = cc in
        let at = found_first test natives d (is ∙ ap (λ (s : StubMethod). Some s) same) in
        among_at natives at.0 d at.1

described_of : (o : Origin) (k : ℕ) (m : Method) (d : StubMethod) → slice_get (methods_from o) k ≡ Some m → m.body ≡ described d → DescribesMethod d o
described_of (Folder f natives) k m d there e =
    let found = map_at (folder_method natives f.class) (enumerate_from 0 f.class.methods) k m there in
    described_native natives f.class found.0 d (ap (λ (m : Method). m.body) found.2 ∙ e)
described_of (Stub c) k m d there e =
    let found = map_at (method_of_stub c.name) c.methods k m there in
    let bodies : described found.0 ≡ described d = ap (λ (m : Method). m.body) found.2 ∙ e in
    let same : found.0 ≡ d = cc in
    among_at c.methods k d (found.1 ∙ ap (λ (s : StubMethod). Some s) same)

-- Each description is one that a stub gives: of a method of its class, or of a native method.
pub described_by : (order : List Origin) (m : Method) (d : StubMethod) → Contains (program_from order).methods m → m.body ≡ described d → IsDescription order d
described_by order m d among e =
    let at = place_among (flat_map methods_from order) m among in
    let a = in_piece methods_from order at.0 m at.1 in
    record { origin = a.of; among = among_at order a.piece a.of a.there; said = described_of a.of a.place m d a.stands e }

-- ---- fields

held_of : (order : List Origin) (o : Origin) (k : ℕ) (f : Field) (name : List ℕ) → Contains order o → slice_get (fields_from o) k ≡ Some f → f.holds ≡ Some name → IsHeld order name
held_of order (Folder file natives) k f name among there e =
    let found = map_at (field_of file.class) file.class.fields k f there in
    let nothing : None ≡ Some name = ap (λ (f : Field). f.holds) found.2 ∙ e in
    absurd cc
held_of order (Stub c) k f name among there e =
    let found = map_at (field_of_stub c.name) c.fields k f there in
    record {
      stub = c;
      among = among;
      field = found.0;
      of_stub = among_at c.fields k found.0 found.1;
      holds = ap (λ (f : Field). f.holds) found.2 ∙ e;
    }

-- Each object that a field holds from the start is one that a stub gives it.
pub held_by : (order : List Origin) (f : Field) (name : List ℕ) → Contains (program_from order).fields f → f.holds ≡ Some name → IsHeld order name
held_by order f name among e =
    let at = place_among (flat_map fields_from order) f among in
    let a = in_piece fields_from order at.0 f at.1 in
    held_of order a.of a.place f name (among_at order a.piece a.of a.there) a.stands e

-- ---- all of them

-- The classes that descriptions mention are there, if those of each description that a stub gives are.
pub mentioned_there : (order : List Origin) → ((d : StubMethod) → IsDescription order d → All (IsThere (program_from order)) (method_names d))
    → All (HasMentioned (program_from order)) (program_from order).methods
mentioned_there order there = λ k d lt said e.
    let methods = flat_map methods_from order in
    there said (described_by order (get_or methods k d) said (Contains-get_or methods k d lt) e)

-- So are those of the objects that fields hold.
pub held_there : (order : List Origin) → ((name : List ℕ) → IsHeld order name → IsThere (program_from order) name)
    → All (HoldsPresent (program_from order)) (program_from order).fields
held_there order there = λ k d lt name e.
    let fields = flat_map fields_from order in
    there name (held_by order (get_or fields k d) name (Contains-get_or fields k d lt) e)
