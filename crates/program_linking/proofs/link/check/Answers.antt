use Rattle.std.proofs.Common.{List, ◌++◌, append_assoc, subst, sym}
use Rattle.std.proofs.lemmas.Result.{err_from_is_err_and}
use Rattle.jvm_model.specs.Linking.{Claim, kind_claims, name_claims, own_classes, there_claims}
use Rattle.program_index.specs.Limits.{AreTooMany}
use Rattle.program_linking.specs.Claims.{TellsClaimsOrLarge, all_names, unsorted}
use Rattle.program_linking.specs.LinkAnswers.{flat_claims}
use Rattle.program_linking.specs.TooLarge.{IsTooLargeInput, in_classes}
use Rattle.program_linking.proofs.ClaimSteps.{end_front, tells_back}
use Rattle.program_linking.proofs.DistinctNames.{names_new}
use Rattle.program_linking.proofs.LargeInputs.{errors_more, handed_end}
use Rattle.program_linking.proofs.link.check.Goals as goal

pub returns-in_err-check_names : goal.returns-in_err-check_names
returns-in_err-check_names c =
    let q = err_from_is_err_and c.from_residual.result c.from_residual.ensures.1 in
    let files = c.args.files.now in
    let stubs = c.args.stubs.now in
    let p = unsorted files stubs in
    let ns = name_claims files (own_classes stubs) in
    let ts = there_claims files stubs in
    let end = c.in_err-check_names.field-0.0 in
    let large = IsTooLargeInput files stubs in
    rw (q.1, q.2) (end_front large p (ns ++ ts) (kind_claims files (own_classes stubs)) end (end_front large p ns ts end c.in_err-check_names.ensures))

pub known_classes-requires : goal.known_classes-requires
known_classes-requires c = names_new (unsorted c.args.files.now c.args.stubs.now) c.args.files.now c.args.stubs.now c.in_ok-check_names.ensures

pub returns : goal.returns
returns c =
    let files = c.args.files.now in
    let stubs = c.args.stubs.now in
    let p = unsorted files stubs in
    let ns = name_claims files (own_classes stubs) in
    let ts = there_claims files stubs in
    let ks = kind_claims files (own_classes stubs) in
    let large = IsTooLargeInput files stubs in
    let r = c.check_known.result in
    subst (λ (claims : List Claim). TellsClaimsOrLarge large p claims r) (sym (append_assoc ns ts ks)) (tells_back large p ns (ts ++ ks) r c.in_ok-check_names.ensures c.check_known.ensures)

pub returns-in_err-known : goal.returns-in_err-known
returns-in_err-known c =
    let q = err_from_is_err_and c.from_residual-in_err-known.result c.from_residual-in_err-known.ensures.1 in
    let files = c.args.files.now in
    let stubs = c.args.stubs.now in
    let large = IsTooLargeInput files stubs in
    let e = c.in_err-known.field-0.0 in
    rw (q.1, q.2) (handed_end large (unsorted files stubs) (flat_claims files stubs) c.known_classes.result e c.in_err-known.ensures.cases (errors_more (AreTooMany (all_names files stubs)) large c.known_classes.result (λ many. in_classes many) c.known_classes.ensures.too_many))
