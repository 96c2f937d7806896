-- Public contracts rest on this module.
-- What stubs say, as classes, methods and fields of a program; and the classes that they mention.
use Rattle.std.specs.Prelude.{ℕ, ◌-◌, ◌+◌, Bool, true, false, not, ◌&&◌, ◌==◌, List, [], ◌∷◌, ◌++◌, length, take, Option, Some, None, if◌then◌else◌}
use Rattle.std.specs.List.{flat_map}
use Rattle.std.specs.Option.{option_to_list}
use Rattle.std.specs.Str.{bytes_eq}
use Rattle.jvm_model.specs.declared.access.AccessFlag.TheVariants.{Public, Static, Abstract}
use Rattle.jvm_model.specs.declared.stub.StubClass.{StubClass}
use Rattle.jvm_model.specs.declared.stub.StubField.{StubField}
use Rattle.jvm_model.specs.declared.stub.StubMethod.{StubMethod}
use Rattle.jvm_model.specs.declared.stub.StubResult.{StubResult}
use Rattle.jvm_model.specs.declared.stub.StubResult.TheVariants.{New, Kept}
use Rattle.jvm_model.specs.Access.{mask_of}
use Rattle.jvm_model.specs.Lookups.{Signature}
use Rattle.jvm_model.specs.Programs.{Class, Method, Field, described}

-- ---- classes, methods and fields

-- Two methods, and two fields, that agree in name and descriptor.
abbrev pub is_same_method : StubMethod → StubMethod → Bool
is_same_method m n = bytes_eq m.name n.name && bytes_eq m.descriptor n.descriptor

abbrev pub is_same_field : StubField → StubField → Bool
is_same_field f g = bytes_eq f.name g.name && bytes_eq f.descriptor g.descriptor

-- The superclass that a stub names; an empty name is none.
abbrev pub super_of : StubClass → Option (List ℕ)
super_of c = if length c.super_class == 0 then None else Some c.super_class

abbrev pub class_of_stub : StubClass → Class
class_of_stub c = record { name = c.name; super_class = super_of c; interfaces = c.interfaces; is_interface = c.is_interface; is_folder = false; file = c.file }

-- The methods and fields of stubs count as public.
abbrev pub stub_flags : Bool → Bool → ℕ
stub_flags is_static is_abstract = mask_of Public + (if is_static then mask_of Static else 0) + (if is_abstract then mask_of Abstract else 0)

-- The name and the descriptor that a stub's method, or field, has.
abbrev pub stub_signature : StubMethod → Signature
stub_signature m = record { name = m.name; descriptor = m.descriptor }

abbrev pub field_signature : StubField → Signature
field_signature f = record { name = f.name; descriptor = f.descriptor }

abbrev pub method_of_stub : List ℕ → StubMethod → Method
method_of_stub class m = record { class = class; signature = stub_signature m; flags = stub_flags m.is_static m.is_abstract; body = described m }

abbrev pub field_of_stub : List ℕ → StubField → Field
field_of_stub class f = record { class = class; signature = field_signature f; flags = stub_flags f.is_static false; holds = f.holds }

-- ---- the classes that a stub mentions

-- What follows the parameters of a method descriptor (JVMS 4.3.3). In the name of a class each byte up to the semicolon
-- is passed over.
abbrev pub after_parameters : (in_class : Bool) → List ℕ → List ℕ
after_parameters in_class [] = []
after_parameters true (b ∷ rest) = after_parameters (not (b == 59)) rest
after_parameters false (b ∷ rest) = if b == 41 then rest else after_parameters (b == 76) rest

-- The class of a field descriptor L, its name and a semicolon (JVMS 4.3.2).
abbrev pub class_in : List ℕ → Option (List ℕ)
class_in [] = None
class_in (b ∷ rest) = if b == 76 then Some (take (length rest - 1) rest) else None

-- The class of the result of a method descriptor, if it is a class.
abbrev pub result_class : List ℕ → Option (List ℕ)
result_class descriptor = class_in (after_parameters false descriptor)

-- The classes that a method mentions: those of new results; the class of its result, where it gives kept objects; and those
-- of exceptions.
abbrev pub result_names : List ℕ → StubResult → List (List ℕ)
result_names descriptor (New name) = name ∷ []
result_names descriptor Kept = option_to_list (result_class descriptor)
result_names descriptor _ = []

abbrev pub method_names : StubMethod → List (List ℕ)
method_names m = flat_map (result_names m.descriptor) m.returns ++ m.throws

-- The class of the object that a field holds from the start.
abbrev pub field_names : StubField → List (List ℕ)
field_names f = option_to_list f.holds

-- All of them, with the supertypes.
abbrev pub mentioned : StubClass → List (List ℕ)
mentioned c = option_to_list (super_of c) ++ c.interfaces ++ flat_map method_names c.methods ++ flat_map field_names c.fields
