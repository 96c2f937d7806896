-- What stands for a method: the member of a class file, or a description.
use Rattle.std.proofs.Common.{◌≡◌, ℕ, Bool, true, false, Some, refl, ap}
use Rattle.std.specs.Prelude.{IsTrue, slice_get}
use Rattle.std.proofs.lemmas.Bool.{false≢true}
use Rattle.jvm_model.specs.declared.access.AccessFlag.TheVariants.{Native}
use Rattle.jvm_model.specs.Access.{has_flag}
use Rattle.jvm_model.specs.Programs.{Body, in_file, described, Method, Program, IsUndescribed}
use Rattle.program_model.specs.Bodies.{IsBodyView}
use Rattle.program_model.specs.declared.method_body.MethodBody.{MethodBody}
use Rattle.program_model.specs.declared.method_body.MethodBody.TheVariants.{InFile, Described}
use Rattle.lowering_reasons.specs.Looked.{is_in_file}

abbrev is_file_view : MethodBody → Bool
is_file_view (InFile f n) = true
is_file_view (Described d) = false

pub viewed : (b : Body) (v : MethodBody) → IsBodyView b v → is_file_view v ≡ is_in_file b
viewed (in_file file number member) (InFile f n) view = refl
viewed (in_file file number member) (Described d) view = absurd view
viewed (described description) (InFile f n) view = absurd view
viewed (described description) (Described d) view = refl

pub undescribed : (p : Program) (number : ℕ) (m : Method) (body : Body) → slice_get p.methods number ≡ Some m → IsTrue (has_flag m.flags Native) → m.body ≡ body → IsTrue (is_in_file body)
    → IsUndescribed p number
undescribed p number m (in_file file place member) stands native e in_one =
    record { method = m; stands = stands; native = native; file = file; place = place; member = member; of_file = e }
undescribed p number m (described d) stands native e in_one = absurd (false≢true in_one)

pub in_file_of : (p : Program) (number : ℕ) (h : IsUndescribed p number) → IsTrue (is_in_file h.method.body)
in_file_of p number h = ap is_in_file h.of_file
