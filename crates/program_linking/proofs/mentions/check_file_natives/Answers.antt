use Rattle.std.proofs.Common.{List, ◌∙◌, subst}
use Rattle.std.proofs.lemmas.Result.{err_from_is_err_and}
use Rattle.failure.proofs.HandedOn.{handed_ok}
use Rattle.jvm_model.specs.Linking.{Description, description_claims, native_claims}
use Rattle.program_linking.specs.Claims.{TellsClaims}
use Rattle.program_linking.specs.TooLarge.{AreTooManyNatives}
use Rattle.program_linking.proofs.ClaimSteps.{tells_unnumbered}
use Rattle.program_linking.proofs.LargeInputs.{handed_end}
use Rattle.program_linking.proofs.mentions.check_file_natives.Goals as goal

pub returns-in_err-all : goal.returns-in_err-all
returns-in_err-all c =
    let q = err_from_is_err_and c.from_residual.result c.from_residual.ensures.1 in
    let stubs = c.args.patches.now in
    let f = c.args.f.now in
    rw (q.1, q.2) (handed_end (AreTooManyNatives stubs f.class) c.args.known.now (native_claims stubs f) c.native_descriptions.result c.in_err-all.field-0.0 c.in_err-all.ensures.cases c.native_descriptions.ensures.too_many)

pub returns : goal.returns
returns c =
    let known = c.args.known.now in
    let stubs = c.args.patches.now in
    let f = c.args.f.now in
    let r = c.check_descriptions.result in
    let is = c.as_slice.ensures ∙ handed_ok _ c.native_descriptions.result c.in_ok-all.all _ c.in_ok-all.ensures.cases c.native_descriptions.ensures.all in
    tells_unnumbered (AreTooManyNatives stubs f.class) known (native_claims stubs f) r
    (subst (λ (ds : List Description). TellsClaims known (description_claims ds) r) is c.check_descriptions.ensures)
