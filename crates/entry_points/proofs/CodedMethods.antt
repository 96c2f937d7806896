-- A method that is shown as one of a class file has code just where its member has; and one that is described has none.
use Rattle.std.proofs.Common.{◌≡◌, ◌↔◌, ℕ, ◌<◌, Bool, true, IsTrue, length, List, [], Option, Some, option_map, unwrap_or, refl, sym, ap, ◌∙◌, subst, Bor}
use Rattle.std.specs.List.{list_any, slice_get}
use Rattle.std.proofs.lemmas.Option.{same_Some}
use Rattle.std.proofs.lemmas.List.Elements.{All-contains}
use Rattle.jvm_model.specs.declared.class_file.ClassFile.{ClassFile}
use Rattle.jvm_model.specs.declared.class_file.Member.{Member}
use Rattle.jvm_model.specs.declared.stub.StubMethod.{StubMethod}
use Rattle.jvm_model.specs.Layout.{HasCodeAttribute}
use Rattle.jvm_model.specs.LinkedPrograms.{IsProgram, IsBodyOf, IsMemberOf}
use Rattle.jvm_model.specs.Subtypes.{class_named}
use Rattle.jvm_model.specs.Programs.{Body, Class, Method, Program, in_file, described}
use Rattle.jvm_model.specs.Soundness.{is_code, IsChecked}
use Rattle.hierarchy.proofs.ClassPlaces.{contained, named_at, place_there}
use Rattle.program_model.specs.Bodies.{IsBodyView}
use Rattle.program_model.specs.Numbers.{name_at}
use Rattle.program_model.specs.declared.method_body.MethodBody.{MethodBody}
use Rattle.program_model.specs.declared.method_body.MethodBody.TheVariants.{Described, InFile}
use Rattle.op_model.specs.Supplies.{IsCodedMethod}

module _ (p : Program) (program : IsProgram p) (number : ℕ) (m : Method) (stands : slice_get p.methods number ≡ Some m) where
  -- the method of a class file is a member of it, and the file was checked
  member_in : (file : ClassFile) (place : ℕ) (member : Member) → m.body ≡ in_file file place member → IsMemberOf m file place member
  member_in file place member of_file =
      subst (λ (body : Body). IsBodyOf m body) of_file (All-contains (λ (x : Method). IsBodyOf x x.body) p.methods m program.bodies (contained p.methods number m stands))

  method_is : (c : IsCodedMethod p number) → c.method ≡ m
  method_is c = same_Some c.method m (sym c.stands ∙ stands)

  module _ (file : ClassFile) (place : ℕ) (member : Member) (of_file : m.body ≡ in_file file place member) where
    pub with_code : list_any (is_code file.pool) member.attributes ≡ true → IsCodedMethod p number
    with_code has = record {
      method = m;
      stands = stands;
      file = file;
      place = place;
      member = member;
      of_file = of_file;
      code = record { owner = member; there = (member_in file place member of_file).stands; has_code = has };
    }

    code_of : HasCodeAttribute file place → list_any (is_code file.pool) member.attributes ≡ true
    code_of code = ap (λ (x : Member). list_any (is_code file.pool) x.attributes) (same_Some member code.owner (sym (member_in file place member of_file).stands ∙ code.there)) ∙ code.has_code

    pub code_there : IsCodedMethod p number → list_any (is_code file.pool) member.attributes ≡ true
    code_there c =
        let body : in_file c.file c.place c.member ≡ in_file file place member = sym c.of_file ∙ ap (λ (x : Method). x.body) (method_is c) ∙ of_file in
        let files : c.file ≡ file = cc in
        let places : c.place ≡ place = cc in
        code_of (subst (λ (k : ℕ). HasCodeAttribute file k) places (subst (λ (f : ClassFile). HasCodeAttribute f c.place) files c.code))

-- ---- as it is shown

module _ (p : Program) (program : IsProgram p) (number : ℕ) (within : number < length p.methods) where
  abbrev IsShownAs : MethodBody → Type 0
  IsShownAs view = (m : Method) → slice_get p.methods number ≡ Some m → IsBodyView m.body view

  pub shown_code : (file : Bor ClassFile) (place : ℕ) → IsShownAs (InFile file place) → (b : Bool)
      → ((member : Member) → slice_get file.now.methods place ≡ Some member → b ≡ list_any (is_code file.now.pool) member.attributes) → IsTrue b ↔ IsCodedMethod p number
  shown_code file place shows b tests = let there = place_there p.methods number within in by there.0 there.1 there.0.body refl (shows there.0 there.1)
    where
      by : (m : Method) → slice_get p.methods number ≡ Some m → (body : Body) → m.body ≡ body → IsBodyView body (InFile file place) → IsTrue b ↔ IsCodedMethod p number
      by m stands (described d) is view = absurd view
      by m stands (in_file own k member) is view =
          let of_file : m.body ≡ in_file file.now place member = is ∙ (λ i. in_file (view.0 i) (view.1 i) member) in
          let same = tests member (member_in p program number m stands file.now place member of_file).stands in
          (λ t. with_code p program number m stands file.now place member of_file (sym same ∙ t), λ c. same ∙ code_there p program number m stands file.now place member of_file c)

  pub shown_description : (d : Bor StubMethod) → IsShownAs (Described d) → IsCodedMethod p number → ⊥
  shown_description d shows c = subst (λ (body : Body). IsBodyView body (Described d)) c.of_file (shows c.method c.stands)

-- ---- the parts of a method that has code

-- What is shown is the class file of the method, and the method's place in it.
pub record ShowsParts (p : Program) (m : Method) (file : ClassFile) (place : ℕ) : Type 0 where
  pub member : Member
  pub of_file : m.body ≡ in_file file place member
  pub code : HasCodeAttribute file place
  pub checked : IsChecked file

pub shown_parts : (p : Program) → IsProgram p → (number : ℕ) (coded : IsCodedMethod p number) (file : Bor ClassFile) (place : ℕ)
    → ((m : Method) → slice_get p.methods number ≡ Some m → IsBodyView m.body (InFile file place)) → ShowsParts p coded.method file.now place
shown_parts p program number coded file place shows =
    let view = subst (λ (body : Body). IsBodyView body (InFile file place)) coded.of_file (shows coded.method coded.stands) in
    let of_file : coded.method.body ≡ in_file file.now place coded.member = coded.of_file ∙ (λ i. in_file (view.0 i) (view.1 i) coded.member) in
    record {
      member = coded.member;
      of_file = of_file;
      code = subst (λ (k : ℕ). HasCodeAttribute file.now k) view.1 (subst (λ (f : ClassFile). HasCodeAttribute f coded.place) view.0 coded.code);
      checked = (member_in p program number coded.method coded.stands file.now place coded.member of_file).checked;
    }

-- the class of a method, by its number
pub class_at : (p : Program) → IsProgram p → (m : Method) (number : ℕ) (c : Class) → slice_get p.classes number ≡ Some c → m.class ≡ name_at p number → class_named p m.class ≡ Some c
class_at p program m number c stands named =
    let name : name_at p number ≡ c.name = ap (λ (o : Option Class). unwrap_or (option_map (λ (x : Class). x.name) o) []) stands in
    ap (λ (text : List ℕ). class_named p text) (named ∙ name) ∙ named_at p program number c stands
