-- Public contracts rest on this module.
-- What holds of each program that linking gives, and what the layers above rest on.
use Rattle.std.specs.Prelude.{◌≡◌, ◌≢◌, ℕ, List, AllPairs, map, All, Contains, IsSorted, IsTrue, Some, slice_get, false}
use Rattle.std.specs.Ordering.{nat_cmp}
use Rattle.std.specs.Cmp.Lexicographic.{slice_cmp}
use Rattle.jvm_model.specs.declared.access.AccessFlag.TheVariants.{Static}
use Rattle.jvm_model.specs.declared.class_file.ClassFile.{ClassFile}
use Rattle.jvm_model.specs.declared.class_file.Member.{Member}
use Rattle.jvm_model.specs.declared.descriptor.Kind.{Kind}
use Rattle.jvm_model.specs.declared.stub.StubClass.{StubClass}
use Rattle.jvm_model.specs.declared.stub.StubMethod.{StubMethod}
use Rattle.jvm_model.specs.Access.{has_flag}
use Rattle.jvm_model.specs.DescriptorValues.{IsKind}
use Rattle.jvm_model.specs.Linking.{own_classes}
use Rattle.jvm_model.specs.Names.{is_unqualified_name, IsClassName}
use Rattle.jvm_model.specs.Programs.{Class, Method, Field, Body, in_file, described, Program, name_of, signature_of}
use Rattle.jvm_model.specs.Soundness.{IsChecked}
use Rattle.jvm_model.specs.StubRules.{IsSoundMethod, MayHold}
use Rattle.jvm_model.specs.Stubs.{class_of_stub, method_names, stub_signature}
use Rattle.jvm_model.specs.Subtypes.{class_named, IsCyclic}

-- ---- classes

abbrev pub class_names : Program → List (List ℕ)
class_names p = map (λ (c : Class). c.name) p.classes

-- The class of a name is there.
abbrev pub IsThere : Program → List ℕ → Type 0
IsThere p name = Contains (class_names p) name

-- The supertypes of a class are there: a superclass that is no interface, and superinterfaces that are (JVMS 4.1).
pub record HasSupers (p : Program) (c : Class) : Type 0 where
  pub superclass : (name : List ℕ) → c.super_class ≡ Some name → (above : Class) × (class_named p name ≡ Some above) × (above.is_interface ≡ false)
  pub interfaces : (name : List ℕ) → Contains c.interfaces name → (above : Class) × (class_named p name ≡ Some above) × IsTrue above.is_interface

-- The stubs that are classes of their own are classes of the program, as they describe themselves.
abbrev pub HasStubClasses : Program → List StubClass → Type 0
HasStubClasses p stubs = All (λ (c : StubClass). Contains p.classes (class_of_stub c)) (own_classes stubs)

-- ---- methods and fields

-- A member of a class has its name and descriptor alone (JVMS 4.5, 4.6).
pub record MembersDiffer (p : Program) : Type 0 where
  pub methods : (i j : ℕ) (m n : Method) → slice_get p.methods i ≡ Some m → slice_get p.methods j ≡ Some n → m.class ≡ n.class → m.signature ≡ n.signature → i ≡ j
  pub fields : (i j : ℕ) (f g : Field) → slice_get p.fields i ≡ Some f → slice_get p.fields j ≡ Some g → f.class ≡ g.class → f.signature ≡ g.signature → i ≡ j

-- The method is the member of this number of a class file that was checked.
pub record IsMemberOf (m : Method) (file : ClassFile) (number : ℕ) (member : Member) : Type 0 where
  pub checked : IsChecked file
  pub stands : slice_get file.methods number ≡ Some member
  pub of_class : m.class ≡ name_of file
  pub same_call : m.signature ≡ signature_of file.pool member
  pub same_flags : m.flags ≡ member.flags

-- The method has the name and the descriptor of a description that keeps the rules of stub files, and is static if it is.
pub record IsDescribedBy (m : Method) (d : StubMethod) : Type 0 where
  pub sound : IsSoundMethod d
  pub same_call : m.signature ≡ stub_signature d
  pub same_static : has_flag m.flags Static ≡ d.is_static

-- What stands for a method is its own.
abbrev pub IsBodyOf : Method → Body → Type 0
IsBodyOf m (in_file file number member) = IsMemberOf m file number member
IsBodyOf m (described d) = IsDescribedBy m d

-- The classes that a description mentions are there.
abbrev pub HasMentioned : Program → Method → Type 0
HasMentioned p m = (d : StubMethod) → m.body ≡ described d → All (IsThere p) (method_names d)

-- A field has the name and the descriptor of a field (JVMS 4.5), and holds an object from the start only where it is static
-- and of a reference type.
pub record IsSoundEntry (f : Field) : Type 0 where
  pub name : IsTrue (is_unqualified_name f.signature.name)
  pub kind : Kind
  pub descriptor : IsKind f.signature.descriptor kind
  pub holds : MayHold (has_flag f.flags Static) kind f.holds

-- The class of the object that a field holds is there.
abbrev pub HoldsPresent : Program → Field → Type 0
HoldsPresent p f = (name : List ℕ) → f.holds ≡ Some name → IsThere p name

-- ---- the whole

pub record IsProgram (p : Program) : Type 0 where
  -- the classes stand in byte order of their names, which are those of classes and differ
  pub sorted : IsSorted (slice_cmp nat_cmp) (class_names p)
  pub named : All IsClassName (class_names p)
  pub differ : AllPairs (λ x y. x ≢ y) (class_names p)
  pub supers : All (HasSupers p) p.classes
  pub acyclic : (name : List ℕ) → Contains (class_names p) name → IsCyclic p name → ⊥
  -- members belong to classes of the program, and those of one class differ
  pub methods : All (λ (m : Method). IsThere p m.class) p.methods
  pub fields : All (λ (f : Field). IsThere p f.class) p.fields
  pub members : MembersDiffer p
  -- methods are members of checked class files, or are described by the rules of stubs; and fields are sound
  pub bodies : All (λ (m : Method). IsBodyOf m m.body) p.methods
  pub entries : All IsSoundEntry p.fields
  -- what stubs mention is there
  pub mentioned : All (HasMentioned p) p.methods
  pub holds : All (HoldsPresent p) p.fields
