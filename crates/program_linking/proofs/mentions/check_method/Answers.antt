use Rattle.std.proofs.Common.{List, map, sym, subst}
use Rattle.std.specs.List.{flat_map}
use Rattle.std.proofs.lemmas.List.{map-append}
use Rattle.std.proofs.lemmas.Result.{err_from_is_err_and}
use Rattle.jvm_model.specs.Linking.{Claim}
use Rattle.jvm_model.specs.Linking.{mention_claim}
use Rattle.jvm_model.specs.Stubs.{result_names}
use Rattle.program_linking.specs.Claims.{TellsEnd, TellsClaims}
use Rattle.program_linking.proofs.ClaimSteps.{end_front, tells_back}
use Rattle.program_linking.proofs.mentions.check_method.Goals as goal

pub returns-in_err-check_results : goal.returns-in_err-check_results
returns-in_err-check_results c =
    let p = err_from_is_err_and c.from_residual.result c.from_residual.ensures.1 in
    let known = c.args.known.now in
    let xs = map (mention_claim c.args.file.now) (flat_map (result_names c.args.method.now.descriptor) c.args.method.now.returns) in
    let ys = map (mention_claim c.args.file.now) c.args.method.now.throws in
    let end = c.in_err-check_results.field-0.0 in
    rw (p.1, p.2) (subst (λ (cs : List Claim). TellsEnd known cs end) (sym (map-append (mention_claim c.args.file.now) (flat_map (result_names c.args.method.now.descriptor) c.args.method.now.returns) c.args.method.now.throws)) (end_front ⊥ known xs ys end c.in_err-check_results.ensures))

pub returns : goal.returns
returns c =
    let known = c.args.known.now in
    let xs = map (mention_claim c.args.file.now) (flat_map (result_names c.args.method.now.descriptor) c.args.method.now.returns) in
    let ys = map (mention_claim c.args.file.now) c.args.method.now.throws in
    subst (λ (cs : List Claim). TellsClaims known cs c.check_throws.result) (sym (map-append (mention_claim c.args.file.now) (flat_map (result_names c.args.method.now.descriptor) c.args.method.now.returns) c.args.method.now.throws)) (tells_back ⊥ known xs ys c.check_throws.result c.in_ok-check_results.ensures c.check_throws.ensures)
