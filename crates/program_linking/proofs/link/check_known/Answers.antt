use Rattle.std.proofs.lemmas.Result.{err_from_is_err_and}
use Rattle.jvm_model.specs.Linking.{kind_claims, own_classes, there_claims}
use Rattle.program_linking.specs.Claims.{unsorted}
use Rattle.program_linking.specs.TooLarge.{IsTooLargeInput}
use Rattle.program_linking.proofs.ClaimSteps.{end_front, tells_back, tells_unnumbered}
use Rattle.program_linking.proofs.link.check_known.Goals as goal

pub returns-in_err-check_all_there : goal.returns-in_err-check_all_there
returns-in_err-check_all_there c =
    let q = err_from_is_err_and c.from_residual.result c.from_residual.ensures.1 in
    let files = c.args.files.now in
    let stubs = c.args.stubs.now in
    rw (q.1, q.2)
    (end_front (IsTooLargeInput files stubs) (unsorted files stubs) (there_claims files stubs) (kind_claims files (own_classes stubs)) c.in_err-check_all_there.field-0.0 c.in_err-check_all_there.ensures)

pub returns : goal.returns
returns c =
    let files = c.args.files.now in
    let stubs = c.args.stubs.now in
    let p = unsorted files stubs in
    let kinds = kind_claims files (own_classes stubs) in
    let large = IsTooLargeInput files stubs in
    let r = c.check_kinds.result in
    tells_back large p (there_claims files stubs) kinds r c.in_ok-check_all_there.ensures (tells_unnumbered large p kinds r c.check_kinds.ensures)
