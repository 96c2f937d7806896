-- Public contracts rest on this module.
-- Classes, methods and fields of a program by number, and what stands at a number.
use Rattle.std.specs.Prelude.{◌≡◌, ℕ, ◌<◌, List, [], length, Option, Some, option_map, unwrap_or, Result, Ok, Err, slice_get}
use Rattle.jvm_model.specs.declared.number.ClassNo.{ClassNo}
use Rattle.jvm_model.specs.declared.number.FieldNo.{FieldNo}
use Rattle.jvm_model.specs.declared.number.MethodNo.{MethodNo}
use Rattle.jvm_model.specs.declared.reason.Reason.{Reason}
use Rattle.jvm_model.specs.Programs.{Class, Program}

-- The name of the class of a number.
abbrev pub name_at : Program → ℕ → List ℕ
name_at p number = unwrap_or (option_map (λ (c : Class). c.name) (slice_get p.classes number)) []

-- The number is that of a class; of a method; of a field.
abbrev pub IsClassNumber : Program → ℕ → Type 0
IsClassNumber p number = number < length p.classes

abbrev pub IsMethodNumber : Program → ℕ → Type 0
IsMethodNumber p number = number < length p.methods

abbrev pub IsFieldNumber : Program → ℕ → Type 0
IsFieldNumber p number = number < length p.fields

-- The number, if there is one, is that of the class of the name.
pub record IsNumber (p : Program) (name : Option (List ℕ)) (number : Option ClassNo) : Type 0 where
  pub below : (n : ClassNo) → number ≡ Some n → IsClassNumber p n.0
  pub named : option_map (λ (n : ClassNo). name_at p n.0) number ≡ name

-- An answer, as plain numbers.
abbrev pub method_number : Result MethodNo Reason → Result ℕ Reason
method_number (Ok m) = Ok m.0
method_number (Err reason) = Err reason

abbrev pub field_number : Result FieldNo Reason → Result ℕ Reason
field_number (Ok f) = Ok f.0
field_number (Err reason) = Err reason
