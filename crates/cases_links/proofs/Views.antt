-- The class of a method or a field is one of the program.
use Rattle.std.proofs.Common.{◌≡◌, ℕ, ◌<◌, length, Some}
use Rattle.std.specs.List.{slice_get}
use Rattle.jvm_model.specs.Programs.{Field, Method, Program}
use Rattle.program_model.specs.declared.member_view.MemberView.{MemberView}
use Rattle.program_model.specs.Numbers.{IsClassNumber, IsMethodNumber}
use Rattle.program_model.specs.Whole.{IsFieldView, IsMethodView}
use Rattle.program_index.proofs.OrderPlaces.{stands_below}

pub class_of_method : (p : Program) (n : ℕ) (v : MemberView) → IsMethodNumber p n → ((m : Method) → slice_get p.methods n ≡ Some m → IsMethodView p m v) → IsClassNumber p v.class.0
class_of_method p n v within view = let there = stands_below p.methods n within in (view there.0 there.1).below

pub class_of_field : (p : Program) (n : ℕ) (v : MemberView) → n < length p.fields → ((f : Field) → slice_get p.fields n ≡ Some f → IsFieldView p f v) → IsClassNumber p v.class.0
class_of_field p n v within view = let there = stands_below p.fields n within in (view there.0 there.1).below
