-- Whether a class file has code for a method.
use Rattle.std.proofs.Common.{◌≡◌, ◌↔◌, ◌⊎◌, inl, inr, ℕ, ◌<◌, Bool, true, false, IsTrue, length, Option, Some, None, refl, sym, ap, ◌∙◌, subst, Bor}
use Rattle.std.specs.List.{list_any, slice_get}
use Rattle.std.proofs.lemmas.Option.{same_Some, none-some}
use Rattle.jvm_model.specs.declared.class_file.ClassFile.{ClassFile}
use Rattle.jvm_model.specs.declared.class_file.Member.{Member}
use Rattle.jvm_model.specs.declared.stub.StubMethod.{StubMethod}
use Rattle.jvm_model.specs.Layout.{HasCodeAttribute}
use Rattle.jvm_model.specs.LinkedPrograms.{IsProgram, IsMemberOf}
use Rattle.jvm_model.specs.Programs.{Body, Method, Program, in_file, described}
use Rattle.jvm_model.specs.Soundness.{is_code}
use Rattle.hierarchy.proofs.ClassPlaces.{place_there}
use Rattle.program_model.specs.Bodies.{IsBodyView}
use Rattle.program_model.specs.declared.method_body.MethodBody.{MethodBody}
use Rattle.program_model.specs.declared.method_body.MethodBody.TheVariants.{Described, InFile}
use Rattle.lowering_supply.specs.OneAnswer.{file_of, place_of}
use Rattle.op_model.specs.Supplies.{IsCodedMethod}
use Rattle.lowering_supply.proofs.Members.{member_in}

never : false ≡ true → ⊥
never e = cc

abbrev is_in_file : Body → Bool
is_in_file (in_file file place member) = true
is_in_file (described d) = false

module _ (p : Program) (program : IsProgram p) (number : ℕ) (m : Method) (stands : slice_get p.methods number ≡ Some m) where
  method_is : (c : IsCodedMethod p number) → c.method ≡ m
  method_is c = same_Some c.method m (sym c.stands ∙ stands)

  pub undescribed : (d : StubMethod) → m.body ≡ described d → IsCodedMethod p number → ⊥
  undescribed d is c = never (ap is_in_file (sym is ∙ sym (ap (λ (x : Method). x.body) (method_is c)) ∙ c.of_file))

  module _ (file : ClassFile) (place : ℕ) (member : Member) (of_file : m.body ≡ in_file file place member) where
    pub is_member : IsMemberOf m file place member
    is_member = member_in p number program m stands file place member of_file

    pub with_code : list_any (is_code file.pool) member.attributes ≡ true → IsCodedMethod p number
    with_code has = record {
      method = m;
      stands = stands;
      file = file;
      place = place;
      member = member;
      of_file = of_file;
      code = record { owner = member; there = is_member.stands; has_code = has };
    }

    pub code_there : IsCodedMethod p number → list_any (is_code file.pool) member.attributes ≡ true
    code_there c =
        let body : in_file c.file c.place c.member ≡ in_file file place member = sym c.of_file ∙ ap (λ (x : Method). x.body) (method_is c) ∙ of_file in
        let code : HasCodeAttribute file place = subst (λ (k : ℕ). HasCodeAttribute file k) (ap place_of body) (subst (λ (f : ClassFile). HasCodeAttribute f c.place) (ap (file_of c.file) body) c.code) in
        ap (λ (x : Member). list_any (is_code file.pool) x.attributes) (same_Some member code.owner (sym is_member.stands ∙ code.there)) ∙ code.has_code

-- ---- it is decided

abbrev pub IsCodedOrNot : Program → ℕ → Type 0
IsCodedOrNot p number = IsCodedMethod p number ⊎ (IsCodedMethod p number → ⊥)

module _ (p : Program) (program : IsProgram p) (number : ℕ) where
  by_code : (m : Method) (stands : slice_get p.methods number ≡ Some m) (file : ClassFile) (place : ℕ) (member : Member) (of_file : m.body ≡ in_file file place member)
      → (b : Bool) → list_any (is_code file.pool) member.attributes ≡ b → IsCodedOrNot p number
  by_code m stands file place member of_file true has = inl (with_code p program number m stands file place member of_file has)
  by_code m stands file place member of_file false has = inr (λ c. never (sym has ∙ code_there p program number m stands file place member of_file c))

  by_body : (m : Method) → slice_get p.methods number ≡ Some m → (b : Body) → m.body ≡ b → IsCodedOrNot p number
  by_body m stands (in_file file place member) is = by_code m stands file place member is (list_any (is_code file.pool) member.attributes) refl
  by_body m stands (described d) is = inr (undescribed p program number m stands d is)

  by_method : (o : Option Method) → slice_get p.methods number ≡ o → IsCodedOrNot p number
  by_method None none = inr (λ c. none-some c.method (sym none ∙ c.stands))
  by_method (Some m) stands = by_body m stands m.body refl

  pub coded_or_not : IsCodedOrNot p number
  coded_or_not = by_method (slice_get p.methods number) refl

-- ---- as it is shown

module _ (p : Program) (program : IsProgram p) (number : ℕ) (within : number < length p.methods) where
  abbrev IsShownAs : MethodBody → Type 0
  IsShownAs view = (m : Method) → slice_get p.methods number ≡ Some m → IsBodyView m.body view

  abbrev IsCodeTest : ClassFile → ℕ → Bool → Type 0
  IsCodeTest file place b = (member : Member) → slice_get file.methods place ≡ Some member → b ≡ list_any (is_code file.pool) member.attributes

  -- a method of a class file has code just where its member has
  pub shown_code : (file : Bor ClassFile) (place : ℕ) → IsShownAs (InFile file place) → (b : Bool) → IsCodeTest file.now place b → IsTrue b ↔ IsCodedMethod p number
  shown_code file place shows b tests = let there = place_there p.methods number within in by there.0 there.1 there.0.body refl (shows there.0 there.1)
    where
      by : (m : Method) → slice_get p.methods number ≡ Some m → (body : Body) → m.body ≡ body → IsBodyView body (InFile file place) → IsTrue b ↔ IsCodedMethod p number
      by m stands (described d) is view = absurd view
      by m stands (in_file other k member) is view =
          let of_file : m.body ≡ in_file file.now place member = is ∙ (λ i. in_file (view.0 i) (view.1 i) member) in
          let same = tests member (is_member p program number m stands file.now place member of_file).stands in
          (λ t. with_code p program number m stands file.now place member of_file (sym same ∙ t), λ c. same ∙ code_there p program number m stands file.now place member of_file c)

  -- and one that is described has none
  pub shown_description : (d : Bor StubMethod) → IsShownAs (Described d) → IsCodedMethod p number → ⊥
  shown_description d shows c = subst (λ (body : Body). IsBodyView body (Described d)) c.of_file (shows c.method c.stands)
