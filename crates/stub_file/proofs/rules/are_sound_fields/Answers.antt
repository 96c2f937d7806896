use Rattle.std.proofs.Common.{◌≡◌, Bool, map, IsTrue, sym, ◌∙◌}
use Rattle.jvm_model.specs.Automata.{all_differ}
use Rattle.stub_file.specs.Signatures.{is_same_texts, field_texts}
use Rattle.stub_file.specs.StubReading.{AreSoundFields}
use Rattle.stub_file.proofs.Differing.{differ_told}
use Rattle.stub_file.proofs.Finding.{if_ok}
use Rattle.stub_file.proofs.rules.are_sound_fields.Goals as goal

pub returns : goal.returns
returns c =
    let fields = c.args.fields.now in
    if_ok (λ (differ : Bool). differ ≡ all_differ is_same_texts (map field_texts fields)) (λ (sound : Bool). (IsTrue sound → AreSoundFields fields) × (AreSoundFields fields → IsTrue sound)) c.fields_differ.result
    (λ differ e. let told = differ_told field_texts is_same_texts fields differ e in
    (λ t. record { each = c.in_ok-each_field_is_sound.ensures.0 c.if-not-branch.false; differ = sym told ∙ t }, λ sound. told ∙ sound.differ))
    c.fields_differ.ensures
