use Rattle.std.proofs.Common.{◌≡◌, ◌⊎◌, List, ◌++◌, map, filter, ◌∙◌, subst, inl, inr}
use Rattle.std.proofs.lemmas.Result.{IfOk-weaker}
use Rattle.std.specs.Global.{Vec}
use Rattle.jvm_model.specs.declared.program.Origin.{Origin}
use Rattle.jvm_model.specs.declared.stub.StubClass.{StubClass}
use Rattle.jvm_model.specs.Linking.{origins, folder_origin, stub_origin, own_classes}
use Rattle.program_index.specs.Limits.{AreTooMany}
use Rattle.program_linking.specs.Patching.{is_patch_stub}
use Rattle.program_linking.specs.TooLarge.{HasLargeFile, HasLargeStub, IsTooLargeInput}
use Rattle.program_linking.proofs.LargeInputs.{errors_more, file_large, many_patches, stub_large}
use Rattle.program_linking.proofs.PatchesAlone.{large_file_alone, large_stub_alone, origins_alone}
use Rattle.program_linking.proofs.origins.origins.Goals as goal

pub returns-clause-all : goal.returns-clause-all
returns-clause-all c =
    let files = c.args.files.items in
    let stubs = c.args.stubs.items in
    let ps : c.as_slice.result.now ≡ filter is_patch_stub stubs = c.as_slice.ensures.value ∙ c.in_ok-own.ensures.patches in
    IfOk-weaker c.origins_patched.result (λ (all : Vec Origin). all.items ≡ map (folder_origin c.as_slice.result.now) files ++ map (stub_origin c.as_slice.result.now) c.in_ok-own.field-0.own.items)
    (λ (all : Vec Origin). all.items ≡ origins files stubs) (λ all e. e ∙ (λ i. map (folder_origin (ps i)) files ++ map (stub_origin (ps i)) (c.in_ok-own.ensures.own i)) ∙ origins_alone files stubs) c.origins_patched.ensures.all

pub returns-clause-too_many : goal.returns-clause-too_many
returns-clause-too_many c =
    let files = c.args.files.items in
    let stubs = c.args.stubs.items in
    let patches = filter is_patch_stub stubs in
    let large = λ (ps own : List StubClass). AreTooMany (filter is_patch_stub ps) ⊎ (HasLargeFile ps files ⊎ HasLargeStub ps own) in
    let ps : c.as_slice.result.now ≡ patches = c.as_slice.ensures.value ∙ c.in_ok-own.ensures.patches in
    let own = c.in_ok-own.ensures.own in
    let more : large patches (own_classes stubs) → IsTooLargeInput files stubs = λ is. elim is [
      | inl many ↦ many_patches files stubs many
      | inr (inl file) ↦ file_large files stubs c.requires (large_file_alone stubs files file)
      | inr (inr stub) ↦ stub_large files stubs (large_stub_alone stubs (own_classes stubs) stub)
    ] in
    errors_more (large c.as_slice.result.now c.in_ok-own.field-0.own.items) (IsTooLargeInput files stubs) c.origins_patched.result
    (λ is. more (subst (λ (os : List StubClass). large patches os) own (subst (λ (qs : List StubClass). large qs c.in_ok-own.field-0.own.items) ps is))) c.origins_patched.ensures.too_many
