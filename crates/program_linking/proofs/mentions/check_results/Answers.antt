use Rattle.std.proofs.Common.{ℕ, List, map, refl, subst}
use Rattle.std.specs.List.{flat_map}
use Rattle.std.proofs.lemmas.Result.{err_from_is_err_and}
use Rattle.jvm_model.specs.Linking.{AreMet}
use Rattle.jvm_model.specs.Linking.{mention_claim}
use Rattle.jvm_model.specs.declared.stub.StubResult.{StubResult}
use Rattle.jvm_model.specs.Stubs.{result_names}
use Rattle.program_linking.specs.Claims.{TellsEnd}
use Rattle.program_linking.proofs.ClaimSteps.{left_all, next_item, stop_item, last_item, map_flat_split}
use Rattle.program_linking.proofs.mentions.check_results.Goals as goal

pub returns-in_err-check_result : goal.returns-in_err-check_result
returns-in_err-check_result c =
    let p = err_from_is_err_and c.from_residual.result c.from_residual.ensures.1 in
    let known = c.args.known.now in
    let end = c.in_err-check_result.field-0.0 in
    let claims = λ (xs : List StubResult). map (mention_claim c.args.file.now) (flat_map (result_names c.args.method.now.descriptor) xs) in
    let one = λ (x : StubResult). map (mention_claim c.args.file.now) (result_names c.args.method.now.descriptor x) in
    let whole = stop_item known claims one (λ x xs. map_flat_split (mention_claim c.args.file.now) (result_names c.args.method.now.descriptor) x xs) c.as_slice-returned-items.result.now c.loop-returned.returned-index c.returned-item.result c.loop-returned-test.true c.returned-item.is c.loop-returned.invariant end (subst (λ (y : List ℕ). TellsEnd c.args.known.now (map (mention_claim c.args.file.now) (result_names y c.returned-item.result)) c.in_err-check_result.field-0.0) c.as_slice.ensures c.in_err-check_result.ensures) in
    rw (p.1, p.2) (subst (λ (xs : List StubResult). TellsEnd known (claims xs) end) c.as_slice-returned-items.ensures whole)

pub loop-returned-preserved : goal.loop-returned-preserved
loop-returned-preserved c =
    let claims = λ (xs : List StubResult). map (mention_claim c.args.file.now) (flat_map (result_names c.args.method.now.descriptor) xs) in
    let one = λ (x : StubResult). map (mention_claim c.args.file.now) (result_names c.args.method.now.descriptor x) in
    next_item c.args.known.now claims one (λ x xs. map_flat_split (mention_claim c.args.file.now) (result_names c.args.method.now.descriptor) x xs) c.as_slice-returned-items.result.now c.loop-returned.returned-index c.returned-item.result c.loop-returned-test.true c.returned-item.is c.loop-returned.invariant (subst (λ (y : List ℕ). AreMet c.args.known.now (map (mention_claim c.args.file.now) (result_names y c.returned-item.result))) c.as_slice.ensures c.in_ok-check_result.ensures)

pub loop-returned-init : goal.loop-returned-init
loop-returned-init c = left_all _ _

pub returns : goal.returns
returns c =
    let claims = λ (xs : List StubResult). map (mention_claim c.args.file.now) (flat_map (result_names c.args.method.now.descriptor) xs) in
    let whole = last_item c.args.known.now claims refl c.as_slice-returned-items.result.now c.loop-returned.returned-index c.loop-returned-test.false c.loop-returned.invariant in
    subst (λ (xs : List StubResult). AreMet c.args.known.now (claims xs)) c.as_slice-returned-items.ensures whole
