-- Whether a class has an initialiser that its class file has code for is decided; and each initialiser of the machine is one.
use Rattle.std.proofs.Common.{codes, ◌≡◌, inr, ℕ, ◌<◌, List, [], length, Option, Some, None, refl, sym, ap, ◌∙◌, subst}
use Rattle.std.specs.Bool.{IsTrue}
use Rattle.std.specs.List.{slice_get, list_any}
use Rattle.std.proofs.lemmas.Option.{none-some, same_Some, slice_get_within}
use Rattle.list_laws.proofs.Tests.{some_of_filter}
use Rattle.jvm_model.specs.declared.class_file.ClassFile.{ClassFile}
use Rattle.jvm_model.specs.declared.class_file.Member.{Member}
use Rattle.jvm_model.specs.Lookups.{Signature}
use Rattle.jvm_model.specs.Programs.{Program, Method, Body, in_file, described}
use Rattle.jvm_model.specs.Soundness.{is_code, plain_descriptor}
use Rattle.jvm_model.specs.Subtypes.{IsSubtype}
use Rattle.machine_bytecode.specs.Machine.{IsInitialiser}
use Rattle.machine_laws.proofs.KnownCode.{some_below, signature_or_not}
use Rattle.machine_nodes.specs.Nodes.{IsCodedInitialiser, HasInitialiser}
use Rattle.program_laws.proofs.Choices.{OrNot, carried_over, both_or_not, true_or_not}
use Rattle.program_laws.proofs.Decided.{subtype_or_not}

abbrev initialiser_signature : Signature
initialiser_signature = record { name = codes "<clinit>"; descriptor = plain_descriptor }

module _ (p : Program) (class : List ℕ) (number : ℕ) where
  coded_by : (m : Method) → slice_get p.methods number ≡ Some m → (b : Body) → m.body ≡ b → OrNot (IsCodedInitialiser p class number)
  coded_by m stands (described d) e = inr (λ c. wrong c (same_Some c.method m (sym c.stands ∙ stands)))
    where
      wrong : (c : IsCodedInitialiser p class number) → c.method ≡ m → ⊥
      wrong c same = let both : described d ≡ in_file c.file c.place c.member = sym e ∙ sym (ap (λ (n : Method). n.body) same) ∙ c.of_file in cc
  coded_by m stands (in_file file place member) e =
      carried_over to back (both_or_not (signature_or_not m.signature initialiser_signature) (λ s. both_or_not (true_or_not (list_any (is_code file.pool) member.attributes)) (λ c. subtype_or_not p m.class class)))
    where
      to : (m.signature ≡ initialiser_signature) × (IsTrue (list_any (is_code file.pool) member.attributes) × IsSubtype p m.class class) → IsCodedInitialiser p class number
      to h = record { method = m; stands = stands; named = h.0; file = file; place = place; member = member; of_file = e; code = h.1.0; above = h.1.1 }

      back : IsCodedInitialiser p class number → (m.signature ≡ initialiser_signature) × (IsTrue (list_any (is_code file.pool) member.attributes) × IsSubtype p m.class class)
      back c =
          let same : c.method ≡ m = same_Some c.method m (sym c.stands ∙ stands) in
          let both : in_file c.file c.place c.member ≡ in_file file place member = sym c.of_file ∙ ap (λ (n : Method). n.body) same ∙ e in
          let same_file : c.file ≡ file = cc in
          let same_member : c.member ≡ member = cc in (
            subst (λ (n : Method). n.signature ≡ initialiser_signature) same c.named,
            (
              subst (λ (f : ClassFile). IsTrue (list_any (is_code f.pool) member.attributes)) same_file
                  (subst (λ (n : Member). IsTrue (list_any (is_code c.file.pool) n.attributes)) same_member c.code),
              subst (λ (n : Method). IsSubtype p n.class class) same c.above,
            ),
          )

  coded_or_not : OrNot (IsCodedInitialiser p class number)
  coded_or_not = by (slice_get p.methods number) refl
    where
      by : (o : Option Method) → slice_get p.methods number ≡ o → OrNot (IsCodedInitialiser p class number)
      by None none = inr (λ c. none-some c.method (sym none ∙ c.stands))
      by (Some m) stands = coded_by m stands m.body refl

pub has_initialiser_or_not : (p : Program) (class : List ℕ) → OrNot (HasInitialiser p class)
has_initialiser_or_not p class = carried_over to back (some_below (IsCodedInitialiser p class) (λ number. coded_or_not p class number) (length p.methods))
  where
    to : (number : ℕ) × (number < length p.methods) × IsCodedInitialiser p class number → HasInitialiser p class
    to h = record { number = h.0; initialiser = h.2 }

    back : HasInitialiser p class → (number : ℕ) × (number < length p.methods) × IsCodedInitialiser p class number
    back h = (h.number, slice_get_within p.methods h.number h.initialiser.method h.initialiser.stands, h.initialiser)

-- ---- the initialisers of the machine

pub coded_initialiser : (p : Program) (class : List ℕ) (number : ℕ) → IsInitialiser p class number → IsCodedInitialiser p class number
coded_initialiser p class number i = record {
  method = i.code.method;
  stands = i.code.stands;
  named = i.named;
  file = i.code.file;
  place = i.code.place;
  member = i.code.member;
  of_file = i.code.of_file;
  code = some_of_filter (is_code i.code.file.pool) i.code.member.attributes i.code.has.code [] i.code.has.only;
  above = i.above;
}
