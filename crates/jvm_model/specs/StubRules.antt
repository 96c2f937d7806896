-- Public contracts rest on this module.
-- The rules that a class of a stub file keeps, whatever file says it.
use Rattle.std.specs.Prelude.{codes, ◌≡◌, ℕ, zero, suc, ◌⊎◌, Bool, true, false, not, ◌&&◌, ◌||◌, ◌==◌, if◌then◌else◌, List, [], length, All, Option, Some, None, slice_get, IsTrue}
use Rattle.std.specs.Option.{option_map_or}
use Rattle.std.specs.Str.{bytes_eq}
use Rattle.jvm_model.specs.declared.descriptor.Kind.{Kind}
use Rattle.jvm_model.specs.declared.descriptor.Kind.TheVariants.{Prim, Class, Array}
use Rattle.jvm_model.specs.declared.stub.StubArgument.{StubArgument}
use Rattle.jvm_model.specs.declared.stub.StubArgument.TheVariants.{This, Argument}
use Rattle.jvm_model.specs.declared.stub.StubResult.{StubResult}
use Rattle.jvm_model.specs.declared.stub.StubResult.TheVariants.{Primitive, Void, Null, Given, New, Kept}
use Rattle.jvm_model.specs.declared.stub.StubMethod.{StubMethod}
use Rattle.jvm_model.specs.declared.stub.StubField.{StubField}
use Rattle.jvm_model.specs.declared.stub.StubClass.{StubClass}
use Rattle.jvm_model.specs.Automata.{all_differ}
use Rattle.jvm_model.specs.DescriptorValues.{IsKind, IsMethodOf}
use Rattle.jvm_model.specs.Stubs.{is_same_method, is_same_field}
use Rattle.jvm_model.specs.Names.{is_method_name, is_unqualified_name, IsClassName}

-- A class or an array: what is no primitive type.
abbrev pub is_reference : Kind → Bool
is_reference (Prim wide) = false
is_reference (Class name) = true
is_reference (Array dimensions element) = true

abbrev pub is_primitive : Kind → Bool
is_primitive kind = not (is_reference kind)

-- A class or an interface, and no array.
abbrev pub is_class : Kind → Bool
is_class (Prim wide) = false
is_class (Class name) = true
is_class (Array dimensions element) = false

-- An argument that is an object: the receiver, where the method is not static, or a parameter of a reference type.
-- Parameters are counted from 1.
abbrev pub is_object_argument : Bool → List Kind → StubArgument → Bool
is_object_argument is_static parameters This = not is_static
is_object_argument is_static parameters (Argument zero) = false
is_object_argument is_static parameters (Argument (suc place)) = option_map_or is_reference (slice_get parameters place) false

-- A result that a method may list, by whether it is static, its parameters and the kind of its result: a primitive value
-- or none as the kind has it; and for a reference type null, an argument, a new object, or for a class a kept object.
abbrev pub MayReturn : Bool → List Kind → Option Kind → StubResult → Type 0
MayReturn is_static parameters outcome Primitive = IsTrue (option_map_or is_primitive outcome false)
MayReturn is_static parameters outcome Void = outcome ≡ None
MayReturn is_static parameters outcome Null = IsTrue (option_map_or is_reference outcome false)
MayReturn is_static parameters outcome (Given argument) =
    IsTrue (option_map_or is_reference outcome false) × IsTrue (is_object_argument is_static parameters argument)
MayReturn is_static parameters outcome (New name) = IsTrue (option_map_or is_reference outcome false) × IsClassName name
MayReturn is_static parameters outcome Kept = IsTrue (option_map_or is_class outcome false)

abbrev pub is_empty : {X : Type 0} → List X → Bool
is_empty xs = length xs == 0

-- An abstract method lists nothing; another one lists a result or an exception.
abbrev pub lists_outcomes : StubMethod → Bool
lists_outcomes m =
    if m.is_abstract then is_empty m.returns && is_empty m.throws && is_empty m.keeps
    else not (is_empty m.returns && is_empty m.throws)

-- A method of a stub: its name and its descriptor are in their grammars, and by the descriptor's parameters and result it
-- may list what it lists.
pub record IsSoundMethod (m : StubMethod) : Type 0 where
  pub name : IsTrue (is_method_name m.name)
  pub parameters : List Kind
  pub outcome : Option Kind
  pub descriptor : IsMethodOf m.descriptor parameters outcome
  pub returns : All (MayReturn m.is_static parameters outcome) m.returns
  pub throws : All IsClassName m.throws
  pub keeps : All (λ argument. IsTrue (is_object_argument m.is_static parameters argument)) m.keeps
  pub lists : IsTrue (lists_outcomes m)

-- Only a static field of a reference type holds an object from the start.
abbrev pub MayHold : Bool → Kind → Option (List ℕ) → Type 0
MayHold is_static kind None = Unit {0}
MayHold is_static kind (Some name) = IsTrue is_static × IsTrue (is_reference kind) × IsClassName name

-- A field of a stub.
pub record IsSoundField (f : StubField) : Type 0 where
  pub name : IsTrue (is_unqualified_name f.name)
  pub kind : Kind
  pub descriptor : IsKind f.descriptor kind
  pub holds : MayHold f.is_static kind f.holds

-- A patch and java/lang/Object may be without a superclass. A class that is no patch may name one.
abbrev pub may_lack_super : StubClass → Bool
may_lack_super c = c.is_patch || bytes_eq c.name (codes "java/lang/Object")

abbrev pub HasSuper : StubClass → Type 0
HasSuper c = (IsTrue (may_lack_super c) × (c.super_class ≡ [])) ⊎ ((c.is_patch ≡ false) × IsClassName c.super_class)

-- A patch has no interfaces and no fields.
abbrev pub patches_methods_alone : StubClass → Bool
patches_methods_alone c = not c.is_patch || (is_empty c.interfaces && is_empty c.fields)

-- The rules of a class. The file that describes it may have any name.
pub record IsSoundStub (c : StubClass) : Type 0 where
  pub name : IsClassName c.name
  pub super_class : HasSuper c
  pub interfaces : All IsClassName c.interfaces
  pub methods : All IsSoundMethod c.methods
  pub fields : All IsSoundField c.fields
  pub methods_differ : IsTrue (all_differ is_same_method c.methods)
  pub fields_differ : IsTrue (all_differ is_same_field c.fields)
  pub patch : IsTrue (patches_methods_alone c)
