use Rattle.std.proofs.Common.{ℕ, List, [], ◌∷◌, map, refl, subst}
use Rattle.std.proofs.lemmas.Result.{err_from_is_err_and}
use Rattle.jvm_model.specs.Linking.{AreMet}
use Rattle.jvm_model.specs.Linking.{mention_claim}
use Rattle.std.proofs.Common.{ℕ}
use Rattle.program_linking.specs.Claims.{TellsEnd}
use Rattle.program_linking.proofs.ClaimSteps.{left_all, next_item, stop_item, last_item}
use Rattle.program_linking.proofs.mentions.check_throws.Goals as goal

pub returns-in_err-check_mention : goal.returns-in_err-check_mention
returns-in_err-check_mention c =
    let p = err_from_is_err_and c.from_residual.result c.from_residual.ensures.1 in
    let known = c.args.known.now in
    let end = c.in_err-check_mention.field-0.0 in
    let claims = λ (xs : List (List ℕ)). map (mention_claim c.args.file.now) xs in
    let one = λ (x : (List ℕ)). mention_claim c.args.file.now x ∷ [] in
    let whole = stop_item known claims one (λ x xs. refl) c.as_slice-name-items.result.now c.loop-name.name-index c.name-item.result c.loop-name-test.true c.name-item.is c.loop-name.invariant end (subst (λ (y : List ℕ). TellsEnd c.args.known.now (mention_claim c.args.file.now y ∷ []) c.in_err-check_mention.field-0.0) c.as_slice.ensures c.in_err-check_mention.ensures) in
    rw (p.1, p.2) (subst (λ (xs : List (List ℕ)). TellsEnd known (claims xs) end) c.as_slice-name-items.ensures whole)

pub loop-name-preserved : goal.loop-name-preserved
loop-name-preserved c =
    let claims = λ (xs : List (List ℕ)). map (mention_claim c.args.file.now) xs in
    let one = λ (x : (List ℕ)). mention_claim c.args.file.now x ∷ [] in
    next_item c.args.known.now claims one (λ x xs. refl) c.as_slice-name-items.result.now c.loop-name.name-index c.name-item.result c.loop-name-test.true c.name-item.is c.loop-name.invariant (subst (λ (y : List ℕ). AreMet c.args.known.now (mention_claim c.args.file.now y ∷ [])) c.as_slice.ensures c.in_ok-check_mention.ensures)

pub loop-name-init : goal.loop-name-init
loop-name-init c = left_all _ _

pub returns : goal.returns
returns c =
    let claims = λ (xs : List (List ℕ)). map (mention_claim c.args.file.now) xs in
    let whole = last_item c.args.known.now claims refl c.as_slice-name-items.result.now c.loop-name.name-index c.loop-name-test.false c.loop-name.invariant in
    subst (λ (xs : List (List ℕ)). AreMet c.args.known.now (claims xs)) c.as_slice-name-items.ensures whole
