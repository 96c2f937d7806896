use Rattle.std.proofs.Common.{List, map, refl}
use Rattle.std.proofs.lemmas.Result.{err_from_is_err_and}
use Rattle.jvm_model.specs.Linking.{mention_claim, description_claims}
use Rattle.program_linking.specs.declared.descriptions.Described.{Described}
use Rattle.program_linking.specs.Patching.{description_of}
use Rattle.jvm_model.specs.Stubs.{method_names}
use Rattle.program_linking.proofs.ClaimSteps.{left_all, next_item, stop_item, last_item}
use Rattle.program_linking.proofs.mentions.check_descriptions.Goals as goal

pub returns-in_err-check_method : goal.returns-in_err-check_method
returns-in_err-check_method c =
    let p = err_from_is_err_and c.from_residual.result c.from_residual.ensures.1 in
    let known = c.args.known.now in
    let end = c.in_err-check_method.field-0.0 in
    let claims = λ (xs : List Described). description_claims (map description_of xs) in
    let one = λ (x : Described). map (mention_claim (description_of x).file) (method_names (description_of x).method) in
    let whole = stop_item known claims one (λ x xs. refl) c.args.all.now c.loop-described.described-index c.described-item.result c.loop-described-test.true c.described-item.is c.loop-described.invariant end c.in_err-check_method.ensures in
    rw (p.1, p.2) (whole)

pub loop-described-preserved : goal.loop-described-preserved
loop-described-preserved c =
    let claims = λ (xs : List Described). description_claims (map description_of xs) in
    let one = λ (x : Described). map (mention_claim (description_of x).file) (method_names (description_of x).method) in
    next_item c.args.known.now claims one (λ x xs. refl) c.args.all.now c.loop-described.described-index c.described-item.result c.loop-described-test.true c.described-item.is c.loop-described.invariant c.in_ok-check_method.ensures

pub loop-described-init : goal.loop-described-init
loop-described-init c = left_all _ _

pub returns : goal.returns
returns c =
    let claims = λ (xs : List Described). description_claims (map description_of xs) in
    let whole = last_item c.args.known.now claims refl c.args.all.now c.loop-described.described-index c.loop-described-test.false c.loop-described.invariant in
    whole
