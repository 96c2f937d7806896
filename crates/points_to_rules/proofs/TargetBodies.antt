-- The body of a target, by what is shown of it.
use Rattle.std.proofs.Common.{◌≡◌, ℕ, Some, refl, sym, ap, ◌∙◌, Bor}
use Rattle.std.specs.List.{slice_get}
use Rattle.std.proofs.lemmas.Option.{same_Some}
use Rattle.jvm_model.specs.declared.class_file.ClassFile.{ClassFile}
use Rattle.jvm_model.specs.declared.number.MethodNo.{MethodNo}
use Rattle.jvm_model.specs.declared.stub.StubMethod.{StubMethod}
use Rattle.jvm_model.specs.Programs.{Program, Method, Body, in_file, described}
use Rattle.program_model.specs.Bodies.{IsBodyView}
use Rattle.program_model.specs.declared.method_body.MethodBody.TheVariants.{InFile, Described}
use Rattle.points_to_rules.specs.Calls.{IsOfFile, IsDescribedBy}

pub file_by_view : (p : Program) (target : MethodNo) (m : Method) (file : Bor ClassFile) (number : ℕ) → slice_get p.methods target.0 ≡ Some m
    → IsBodyView m.body (InFile file number) → IsOfFile p target
file_by_view p target m file number stands view = by m.body refl view
  where
    by : (b : Body) → m.body ≡ b → IsBodyView b (InFile file number) → IsOfFile p target
    by (in_file f place member) e is = record { method = m; stands = stands; file = f; place = place; member = member; of_file = e }
    by (described d) e is = absurd is

pub described_by_view : (m : Method) (stub : Bor StubMethod) → IsBodyView m.body (Described stub) → m.body ≡ described stub.now
described_by_view m stub view = by m.body refl view
  where
    by : (b : Body) → m.body ≡ b → IsBodyView b (Described stub) → m.body ≡ described stub.now
    by (in_file f place member) e is = absurd is
    by (described d) e is = e ∙ ap described is

pub not_both : (p : Program) (target : MethodNo) (stub : StubMethod) → IsOfFile p target → IsDescribedBy p target stub → ⊥
not_both p target stub of by =
    let methods = same_Some of.method by.method (sym of.stands ∙ by.stands) in
    let e : in_file of.file of.place of.member ≡ described stub = sym of.of_file ∙ ap (λ (m : Method). m.body) methods ∙ by.of_stub in
    cc e
