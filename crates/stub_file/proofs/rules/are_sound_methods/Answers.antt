use Rattle.std.proofs.Common.{◌≡◌, Bool, map, IsTrue, sym, ◌∙◌}
use Rattle.jvm_model.specs.Automata.{all_differ}
use Rattle.stub_file.specs.Signatures.{is_same_texts, method_texts}
use Rattle.stub_file.specs.StubReading.{AreSoundMethods}
use Rattle.stub_file.proofs.Differing.{differ_told}
use Rattle.stub_file.proofs.Finding.{if_ok}
use Rattle.stub_file.proofs.rules.are_sound_methods.Goals as goal

pub returns : goal.returns
returns c =
    let methods = c.args.methods.now in
    if_ok (λ (differ : Bool). differ ≡ all_differ is_same_texts (map method_texts methods)) (λ (sound : Bool). (IsTrue sound → AreSoundMethods methods) × (AreSoundMethods methods → IsTrue sound)) c.methods_differ.result
    (λ differ e. let told = differ_told method_texts is_same_texts methods differ e in
    (λ t. record { each = c.in_ok-each_method_is_sound.ensures.0 c.if-not-branch.false; differ = sym told ∙ t }, λ sound. told ∙ sound.differ))
    c.methods_differ.ensures
