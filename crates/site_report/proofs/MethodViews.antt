-- What is printed of a method, from what the program shows of it.
use Rattle.std.proofs.Common.{codes, ◌≡◌, ◌++◌, ◌∙◌, ℕ, List, [], Some, slice_get, option_map, unwrap_or, ap, ap₂}
use Rattle.list_laws.proofs.Places.{stands_below}
use Rattle.jvm_model.specs.declared.number.MethodNo.{MethodNo}
use Rattle.jvm_model.specs.Lookups.{Signature}
use Rattle.jvm_model.specs.Programs.{Method, Program}
use Rattle.program_model.specs.Numbers.{name_at, IsClassNumber, IsMethodNumber}
use Rattle.program_model.specs.Whole.{IsMethodView}
use Rattle.program_model.specs.declared.member_view.MemberView.{MemberView}
use Rattle.site_report.specs.Lines.{method_text, printed_method}
use Rattle.site_report.specs.Printed.{printed}

module _ (p : Program) (n : MethodNo) (v : MemberView) (within : IsMethodNumber p n.0)
    (shown : (m : Method) → slice_get p.methods n.0 ≡ Some m → IsMethodView p m v) where
  -- its class is one of the program
  pub view_class : IsClassNumber p v.class.0
  view_class =
      let there = stands_below p.methods n.0 within in
      (shown there.0 there.1).below

  -- its text has the class's name, its own, and its descriptor
  pub view_text : method_text p (Some n) ≡ printed (name_at p v.class.0) ++ codes "." ++ printed v.signature.name.now ++ printed v.signature.descriptor.now
  view_text =
      let there = stands_below p.methods n.0 within in
      let view = shown there.0 there.1 in
      ap (λ o. unwrap_or (option_map printed_method o) []) there.1
      ∙ ap₂ (λ (class : List ℕ) (s : Signature). printed class ++ codes "." ++ printed s.name ++ printed s.descriptor) view.class view.signature
