use Rattle.std.proofs.Common.{List, ◌∙◌, subst}
use Rattle.std.proofs.lemmas.Result.{err_from_is_err_and}
use Rattle.failure.proofs.HandedOn.{handed_ok}
use Rattle.jvm_model.specs.Linking.{Description, description_claims, stub_descriptions}
use Rattle.program_linking.specs.Claims.{TellsClaims}
use Rattle.program_linking.specs.TooLarge.{AreTooManyDescriptions}
use Rattle.program_linking.proofs.ClaimSteps.{tells_unnumbered}
use Rattle.program_linking.proofs.LargeInputs.{handed_end}
use Rattle.program_linking.proofs.mentions.check_stub_methods.Goals as goal

pub returns-in_err-all : goal.returns-in_err-all
returns-in_err-all c =
    let q = err_from_is_err_and c.from_residual.result c.from_residual.ensures.1 in
    let said = stub_descriptions c.args.patches.now c.args.c.now in
    rw (q.1, q.2) (handed_end (AreTooManyDescriptions said) c.args.known.now (description_claims said) c.stub_descriptions.result c.in_err-all.field-0.0 c.in_err-all.ensures.cases c.stub_descriptions.ensures.too_many)

pub returns : goal.returns
returns c =
    let known = c.args.known.now in
    let said = stub_descriptions c.args.patches.now c.args.c.now in
    let r = c.check_descriptions.result in
    let is = c.as_slice.ensures ∙ handed_ok _ c.stub_descriptions.result c.in_ok-all.all _ c.in_ok-all.ensures.cases c.stub_descriptions.ensures.all in
    tells_unnumbered (AreTooManyDescriptions said) known (description_claims said) r
    (subst (λ (ds : List Description). TellsClaims known (description_claims ds) r) is c.check_descriptions.ensures)
