-- The methods of class files in a program.
use Rattle.std.proofs.Common.{◌≡◌, ℕ, Some, subst}
use Rattle.std.specs.List.{slice_get}
use Rattle.std.proofs.lemmas.List.Elements.{All-contains}
use Rattle.jvm_model.specs.declared.class_file.ClassFile.{ClassFile}
use Rattle.jvm_model.specs.declared.class_file.Member.{Member}
use Rattle.jvm_model.specs.LinkedPrograms.{IsProgram, IsBodyOf, IsMemberOf}
use Rattle.jvm_model.specs.Programs.{Body, Method, Program, in_file}
use Rattle.hierarchy.proofs.ClassPlaces.{contained}

-- the method of a class file is a member of it, and the file was checked
pub member_in : (p : Program) (number : ℕ) → IsProgram p → (m : Method) → slice_get p.methods number ≡ Some m → (file : ClassFile) (place : ℕ) (member : Member)
    → m.body ≡ in_file file place member → IsMemberOf m file place member
member_in p number program m stands file place member of_file =
    subst (λ (body : Body). IsBodyOf m body) of_file (All-contains (λ (x : Method). IsBodyOf x x.body) p.methods m program.bodies (contained p.methods number m stands))
