use Rattle.std.proofs.Common.{[], map}
use Rattle.std.proofs.lemmas.Result.{err_from_is_err_and}
use Rattle.failure.proofs.HandedOn.{handed_ok}
use Rattle.jvm_model.specs.Linking.{base_first, file_claims, name_claims, stub_claims, own_classes}
use Rattle.program_index.specs.Limits.{AreTooMany}
use Rattle.program_linking.specs.Claims.{unsorted, stub_name}
use Rattle.program_linking.specs.TooLarge.{IsTooLargeInput}
use Rattle.program_linking.proofs.ClaimSteps.{end_front, end_more, tells_back, tells_more}
use Rattle.program_linking.proofs.ClassNames.{texts_of_stubs}
use Rattle.program_linking.proofs.LargeInputs.{errors_more, handed_end, many_files, many_stubs}
use Rattle.program_linking.proofs.claims.check_names.Goals as goal

pub returns-in_err-others : goal.returns-in_err-others
returns-in_err-others c =
    let q = err_from_is_err_and c.from_residual.result c.from_residual.ensures.1 in
    let files = c.args.files.now in
    let stubs = c.args.stubs.now in
    let large = IsTooLargeInput files stubs in
    let e = c.in_err-others.field-0.0 in
    rw (q.1, q.2) (handed_end large (unsorted files stubs) (name_claims files (own_classes stubs)) c.stub_names.result e c.in_err-others.ensures.cases (errors_more (AreTooMany (own_classes stubs)) large c.stub_names.result (many_stubs files stubs) c.stub_names.ensures.too_many))

pub returns-in_err-check_file_names : goal.returns-in_err-check_file_names
returns-in_err-check_file_names c =
    let q = err_from_is_err_and c.from_residual-in_err-check_file_names.result c.from_residual-in_err-check_file_names.ensures.1 in
    let stubs = c.args.stubs.now in
    let files = c.args.files.now in
    let p = unsorted files stubs in
    let names = map stub_name (own_classes stubs) in
    let has = texts_of_stubs c.in_ok-others.others stubs (handed_ok _ c.stub_names.result c.in_ok-others.others _ c.in_ok-others.ensures.cases c.stub_names.ensures.names) in
    let large = IsTooLargeInput files stubs in
    let end = c.in_err-check_file_names.field-0.0 in
    let told = end_more (AreTooMany files) large p (file_claims names [] files) end (many_files files stubs) (c.in_err-check_file_names.ensures p names has) in
    rw (q.1, q.2) (end_front large p (file_claims names [] files) (stub_claims [] (base_first (own_classes stubs))) end told)

pub returns : goal.returns
returns c =
    let stubs = c.args.stubs.now in
    let files = c.args.files.now in
    let p = unsorted files stubs in
    let names = map stub_name (own_classes stubs) in
    let has = texts_of_stubs c.in_ok-others.others stubs (handed_ok _ c.stub_names.result c.in_ok-others.others _ c.in_ok-others.ensures.cases c.stub_names.ensures.names) in
    let large = IsTooLargeInput files stubs in
    let claims = stub_claims [] (base_first (own_classes stubs)) in
    let r = c.check_stub_names.result in
    tells_back large p (file_claims names [] files) claims r (c.in_ok-check_file_names.ensures p names has)
    (tells_more (AreTooMany (own_classes stubs)) large p claims r (many_stubs files stubs) (c.check_stub_names.ensures p))
