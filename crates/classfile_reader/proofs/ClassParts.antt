-- Reading a class file field after field is reading it part after part.
use Rattle.std.proofs.Common.{◌≡◌, Result, Ok, Err, refl}
use Rattle.jvm_model.specs.declared.reason.Fault.{Fault}
use Rattle.byte_reader.specs.Reading.{Place, ◌>>=◌}
use Rattle.classfile_reader.specs.ClassReading.{class_at}
use Rattle.classfile_reader.specs.ClassParts.{versions_at, names_at, tables_at, parts_at}

-- a reading that is the end of an earlier one goes on as that one does
then_then : {A B C : Type 0} (r : Result A Fault) (f : A → Result B Fault) (g : B → Result C Fault) → ((r >>= f) >>= g) ≡ (r >>= λ x. f x >>= g)
then_then (Ok x) f g = refl
then_then (Err e) f g = refl

pub class_in_parts : (place : Place) → class_at place ≡ parts_at place
unfolding class_at versions_at names_at tables_at parts_at
class_in_parts place = simp then_then
