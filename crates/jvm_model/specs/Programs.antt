-- Public contracts rest on this module.
-- A program as the machine and the analysis see it: classes, methods and fields.
use Rattle.std.specs.Prelude.{codes, ◌≡◌, ℕ, Bool, true, ◌&&◌, ◌||◌, List, [], map, Option, Some, None, unwrap_or, slice_get, IsTrue}
use Rattle.std.specs.Str.{bytes_eq}
use Rattle.jvm_model.specs.declared.access.AccessFlag.TheVariants.{Public, Private, Static, Native, Interface, Abstract}
use Rattle.jvm_model.specs.declared.class_file.ClassFile.{ClassFile}
use Rattle.jvm_model.specs.declared.class_file.Member.{Member}
use Rattle.jvm_model.specs.declared.pool.PoolEntry.{PoolEntry}
use Rattle.jvm_model.specs.declared.stub.StubMethod.{StubMethod}
use Rattle.jvm_model.specs.Access.{has_flag}
use Rattle.jvm_model.specs.Lookups.{Signature, text_at, class_name_at}
use Rattle.jvm_model.specs.Soundness.{plain_descriptor}

-- ---- classes, methods and fields

-- A class or an interface; the file that has it, a class file of the folder or a stub file.
pub record Class : Type 0 where
  pub name : List ℕ
  pub super_class : Option (List ℕ)
  pub interfaces : List (List ℕ)
  pub is_interface : Bool
  pub is_folder : Bool
  pub file : List ℕ

-- What stands for a method when it is called: the member of a class file, with its number among the methods of the file;
-- or the description of a stub.
pub data Body : Type 0 where
  in_file : (file : ClassFile) → (number : ℕ) → (member : Member) → Body
  described : StubMethod → Body

pub record Method : Type 0 where
  pub class : List ℕ
  pub signature : Signature
  pub flags : ℕ
  pub body : Body

-- A static field may hold an object of a class from the start.
pub record Field : Type 0 where
  pub class : List ℕ
  pub signature : Signature
  pub flags : ℕ
  pub holds : Option (List ℕ)

-- A method's number is its place in `methods`, and a field's its place in `fields`: they stand class by class
-- in the order of the classes, and in a class in the order of the file.
pub record Program : Type 0 where
  pub classes : List Class
  pub methods : List Method
  pub fields : List Field

-- ---- flags of a method (JVMS 4.6)

abbrev pub is_public : Method → Bool
is_public m = has_flag m.flags Public

abbrev pub is_private : Method → Bool
is_private m = has_flag m.flags Private

-- The initialiser of a class: <clinit> without parameters and result (JVMS 2.9).
abbrev pub is_class_initialiser : Signature → Bool
is_class_initialiser s = bytes_eq s.name (codes "<clinit>") && bytes_eq s.descriptor plain_descriptor

-- The initialiser of a class counts as static whatever its flags are (JVMS 2.9, 4.6).
abbrev pub is_static : Method → Bool
is_static m = has_flag m.flags Static || is_class_initialiser m.signature

abbrev pub is_abstract : Method → Bool
is_abstract m = has_flag m.flags Abstract

-- java/lang/Object, which has no superclass (JVMS 4.1).
abbrev pub object_name : List ℕ
object_name = codes "java/lang/Object"

-- ---- the classes and members of a class file

-- The text, or the name of the class, at an index. In a sound class there is always one where it is asked for.
abbrev pub text_or_none : List PoolEntry → ℕ → List ℕ
text_or_none pool index = unwrap_or (text_at pool index) []

abbrev pub class_or_none : List PoolEntry → ℕ → List ℕ
class_or_none pool index = unwrap_or (class_name_at pool index) []

abbrev pub name_of : ClassFile → List ℕ
name_of c = class_or_none c.pool c.this_class

abbrev pub signature_of : List PoolEntry → Member → Signature
signature_of pool m = record { name = text_or_none pool m.name; descriptor = text_or_none pool m.descriptor }

-- The class of a class file, in a file of this name.
abbrev pub class_of : List ℕ → ClassFile → Class
class_of file c = record { name = name_of c; super_class = class_name_at c.pool c.super_class; interfaces = map (class_or_none c.pool) c.interfaces; is_interface = has_flag c.flags Interface; is_folder = true; file = file }

-- The method of a class file that has this number, and is this member.
abbrev pub method_of : ClassFile → ℕ × Member → Method
method_of c m = record { class = name_of c; signature = signature_of c.pool m.1; flags = m.1.flags; body = in_file c m.0 m.1 }

abbrev pub field_of : ClassFile → Member → Field
field_of c m = record { class = name_of c; signature = signature_of c.pool m; flags = m.flags; holds = None }

-- ---- methods that nothing describes

-- The method is a native one of a class file, which no stub describes (JVMS 4.6).
pub record IsUndescribed (p : Program) (number : ℕ) : Type 0 where
  pub method : Method
  pub stands : slice_get p.methods number ≡ Some method
  pub native : IsTrue (has_flag method.flags Native)
  pub file : ClassFile
  pub place : ℕ
  pub member : Member
  pub of_file : method.body ≡ in_file file place member
