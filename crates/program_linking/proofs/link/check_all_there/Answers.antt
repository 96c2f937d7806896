use Rattle.std.proofs.Common.{filter}
use Rattle.std.proofs.lemmas.Result.{err_from_is_err_and}
use Rattle.program_index.specs.Limits.{AreTooMany}
use Rattle.jvm_model.specs.Linking.{there_claims}
use Rattle.program_linking.specs.Claims.{unsorted}
use Rattle.program_linking.specs.Patching.{is_patch_stub}
use Rattle.program_linking.specs.TooLarge.{IsTooLargeInput, in_patches}
use Rattle.program_linking.proofs.LargeInputs.{errors_more, handed_end}
use Rattle.program_linking.proofs.link.check_all_there.Goals as goal

pub returns-in_err-patches : goal.returns-in_err-patches
returns-in_err-patches c =
    let q = err_from_is_err_and c.from_residual.result c.from_residual.ensures.1 in
    let files = c.args.files.now in
    let stubs = c.args.stubs.now in
    let large = IsTooLargeInput files stubs in
    let e = c.in_err-patches.field-0.0 in
    rw (q.1, q.2) (handed_end large (unsorted files stubs) (there_claims files stubs) c.new.result e c.in_err-patches.ensures.cases (errors_more (AreTooMany (filter is_patch_stub stubs)) large c.new.result (λ many. in_patches many) c.new.ensures.too_many))
