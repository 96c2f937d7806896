use Rattle.std.proofs.Common.{ℕ, List, Option, sym, subst}
use Rattle.std.proofs.lemmas.Bool.{false≢true}
use Rattle.jvm_model.specs.declared.descriptor.Kind.{Kind}
use Rattle.jvm_model.specs.DescriptorValues.{IsMethodOf}
use Rattle.stub_file.specs.StubReading.{AreSoundParts}
use Rattle.toml_tables.proofs.Finding.{Finds-none, Finds-some}
use Rattle.stub_file.proofs.SoundParts.{AreSoundParts-from_method, IsSoundMethod-from_parts}
use Rattle.stub_file.proofs.rules.is_sound_method.Goals as goal

pub returns-in_default : goal.returns-in_default
returns-in_default c =
    let text = c.as_slice.result.now in
    let none = Finds-none (λ (kinds : List Kind × Option Kind). IsMethodOf text kinds.0 kinds.1) c.in_ok-parameters.field-0 c.in_default.is c.in_ok-parameters.ensures in
    (λ t. absurd (false≢true t), λ sound. absurd (none (sound.parameters, sound.outcome) (subst (λ (t : List ℕ). IsMethodOf t sound.parameters sound.outcome) (sym c.as_slice.ensures) sound.descriptor)))

pub returns : goal.returns
returns c =
    let m = c.args.method.now in
    let text = c.as_slice.result.now in
    let parameters = c.in-Some.parameters in
    let outcome = c.in-Some.outcome in
    let found = Finds-some (λ (kinds : List Kind × Option Kind). IsMethodOf text kinds.0 kinds.1) c.in_ok-parameters.field-0 (parameters, outcome) c.in-Some.is c.in_ok-parameters.ensures in
    let is : IsMethodOf m.descriptor parameters outcome = subst (λ (t : List ℕ). IsMethodOf t parameters outcome) c.as_slice.ensures found in
    let parts = λ (kinds : List Kind). AreSoundParts m kinds outcome in (
      λ t. IsSoundMethod-from_parts m parameters outcome is (subst parts c.as_slice-2.ensures (c.are_sound_parts.ensures.0 t)),
      λ sound. c.are_sound_parts.ensures.1 (subst parts (sym c.as_slice-2.ensures) (AreSoundParts-from_method m parameters outcome is sound)),
    )
