-- Public contracts rest on this module.
-- Methods and fields, as far as they are alike: each is declared in a class, with a name, a descriptor and flags.
use Rattle.std.specs.Prelude.{◌≡◌, ℕ, List, Some, map, slice_get}
use Rattle.jvm_model.specs.declared.class_file.ClassFile.{ClassFile}
use Rattle.jvm_model.specs.declared.class_file.Member.{Member}
use Rattle.jvm_model.specs.declared.program.Origin.{Origin}
use Rattle.jvm_model.specs.Linking.{methods_from, fields_from}
use Rattle.jvm_model.specs.Lookups.{Signature, lent_signature}
use Rattle.jvm_model.specs.Programs.{Method, Field, Program, name_of, signature_of}
use Rattle.program_model.specs.declared.member_view.MemberView.{MemberView}
use Rattle.program_model.specs.Numbers.{name_at, IsClassNumber}

-- ---- declarations

-- A method or a field, as its class declares it.
pub record Declaration : Type 0 where
  pub class : List ℕ
  pub signature : Signature
  pub flags : ℕ

abbrev pub method_declaration : Method → Declaration
method_declaration m = record { class = m.class; signature = m.signature; flags = m.flags }

abbrev pub field_declaration : Field → Declaration
field_declaration f = record { class = f.class; signature = f.signature; flags = f.flags }

-- A member of a class file.
abbrev pub member_declaration : ClassFile → Member → Declaration
member_declaration c m = record { class = name_of c; signature = signature_of c.pool m; flags = m.flags }

-- The methods, and the fields, of what a class comes from.
abbrev pub method_declarations : Origin → List Declaration
method_declarations o = map method_declaration (methods_from o)

abbrev pub field_declarations : Origin → List Declaration
field_declarations o = map field_declaration (fields_from o)

-- The member of this number is declared in the class, with this name and descriptor.
pub record IsDeclared (all : List Declaration) (class : List ℕ) (s : Signature) (number : ℕ) : Type 0 where
  pub declaration : Declaration
  pub stands : slice_get all number ≡ Some declaration
  pub of_class : declaration.class ≡ class
  pub is : declaration.signature ≡ s

-- ---- as they are shown

-- The member is shown so, as one of the class of a number.
pub record IsShownAs (class : ℕ) (d : Declaration) (v : MemberView) : Type 0 where
  pub class_number : v.class.0 ≡ class
  pub same_flags : d.flags ≡ v.flags
  pub same_signature : d.signature ≡ lent_signature v.signature

-- The member is shown so, as one of a class of the program.
pub record IsMemberView (p : Program) (d : Declaration) (v : MemberView) : Type 0 where
  pub below : IsClassNumber p v.class.0
  pub class : d.class ≡ name_at p v.class.0
  pub flags : d.flags ≡ v.flags
  pub signature : d.signature ≡ lent_signature v.signature
