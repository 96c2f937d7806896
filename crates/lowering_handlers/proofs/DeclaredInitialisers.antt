-- The initialiser that a class itself declares, if it is the one that was found.
use Rattle.std.proofs.Common.{codes, ◌≡◌, ◌↔◌, ℕ, Bool, List, Some, refl, sym, ap, ◌∙◌, subst, Bor}
use Rattle.std.specs.Bool.{IsTrue}
use Rattle.std.specs.List.{slice_get, list_any}
use Rattle.std.proofs.lemmas.Option.{same_Some}
use Rattle.jvm_model.specs.declared.class_file.ClassFile.{ClassFile}
use Rattle.jvm_model.specs.declared.class_file.Member.{Member}
use Rattle.jvm_model.specs.declared.stub.StubMethod.{StubMethod}
use Rattle.jvm_model.specs.LinkedPrograms.{IsProgram, IsBodyOf}
use Rattle.jvm_model.specs.Lookups.{Signature}
use Rattle.jvm_model.specs.Programs.{Program, Method, Body, in_file, described}
use Rattle.jvm_model.specs.Resolution.{Declares, HasSignature}
use Rattle.jvm_model.specs.Soundness.{is_code, plain_descriptor}
use Rattle.program_model.specs.Bodies.{IsBodyView}
use Rattle.program_model.specs.declared.method_body.MethodBody.TheVariants.{InFile, Described}
use Rattle.lowering_handlers.specs.Initialisers.{DeclaresInitialiser}
use Rattle.lowering_handlers.proofs.ParameterCounts.{body_of}

abbrev pub initialiser_signature : Signature
initialiser_signature = record { name = codes "<clinit>"; descriptor = plain_descriptor }

pub none_declared : (p : Program) (class : List ℕ) → ((n : ℕ) → Declares p (HasSignature initialiser_signature) class n → ⊥) → DeclaresInitialiser p class → ⊥
none_declared p class none d = none d.number (record { method = d.method; stands = d.stands; of_class = d.of_class; is = d.named })

module _ (p : Program) (program : IsProgram p) (class : List ℕ) (n : ℕ) (found : Declares p (HasSignature initialiser_signature) class n) where
  -- an initialiser that the class declares is the method that was found
  same_method : (d : DeclaresInitialiser p class) → d.method ≡ found.method
  same_method d =
      let number : d.number ≡ n = program.members.methods d.number n d.method found.method d.stands found.stands (d.of_class ∙ sym found.of_class) (d.named ∙ sym found.is) in
      same_Some d.method found.method (sym d.stands ∙ ap (slice_get p.methods) number ∙ found.stands)

  same_body : (d : DeclaresInitialiser p class) → in_file d.file d.place d.member ≡ found.method.body
  same_body d = sym d.of_file ∙ ap (λ (m : Method). m.body) (same_method d)

  declared_by : (file : ClassFile) (place : ℕ) (member : Member) → found.method.body ≡ in_file file place member → IsTrue (list_any (is_code file.pool) member.attributes) → DeclaresInitialiser p class
  declared_by file place member is coded = record {
    number = n;
    method = found.method;
    stands = found.stands;
    of_class = found.of_class;
    named = found.is;
    file = file;
    place = place;
    member = member;
    of_file = is;
    code = coded;
  }

  coded_of : (d : DeclaresInitialiser p class) (file : ClassFile) (place : ℕ) (member : Member) → found.method.body ≡ in_file file place member → IsTrue (list_any (is_code file.pool) member.attributes)
  coded_of d file place member is =
      let both : in_file d.file d.place d.member ≡ in_file file place member = same_body d ∙ is in
      let same_file : d.file ≡ file = cc in
      let same_member : d.member ≡ member = cc in
      subst (λ (f : ClassFile). IsTrue (list_any (is_code f.pool) member.attributes)) same_file
      (subst (λ (m : Member). IsTrue (list_any (is_code d.file.pool) m.attributes)) same_member d.code)

  -- a method of a class file declares one exactly where it has code
  pub declared_in_file : (file : Bor ClassFile) (place : ℕ) (coded : Bool) → IsBodyView found.method.body (InFile file place)
      → ((m : Member) → slice_get file.now.methods place ≡ Some m → coded ≡ list_any (is_code file.now.pool) m.attributes) → IsTrue coded ↔ DeclaresInitialiser p class
  declared_in_file file place coded view has = by found.method.body refl view (body_of p program n found.method found.stands)
    where
      by : (b : Body) → found.method.body ≡ b → IsBodyView b (InFile file place) → IsBodyOf found.method b → IsTrue coded ↔ DeclaresInitialiser p class
      by (described d) is shows of = absurd shows
      by (in_file other k member) is shows of =
          let there : slice_get file.now.methods place ≡ Some member =
          subst (λ (f : ClassFile). slice_get f.methods place ≡ Some member) shows.0 (subst (λ (i : ℕ). slice_get other.methods i ≡ Some member) shows.1 of.stands) in
          let told : coded ≡ list_any (is_code other.pool) member.attributes = has member there ∙ ap (λ (f : ClassFile). list_any (is_code f.pool) member.attributes) (sym shows.0) in
          (λ t. declared_by other k member is (subst IsTrue told t), λ d. subst IsTrue (sym told) (coded_of d other k member is))

  -- a described one does not
  pub declared_nowhere : (stub : Bor StubMethod) → IsBodyView found.method.body (Described stub) → DeclaresInitialiser p class → ⊥
  declared_nowhere stub view d = by found.method.body view (same_body d)
    where
      by : (b : Body) → IsBodyView b (Described stub) → in_file d.file d.place d.member ≡ b → ⊥
      by (described other) shows is = absurd cc
      by (in_file file k member) shows is = shows
