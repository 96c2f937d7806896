use Rattle.std.proofs.Common.{true, ℕ, List, [], ◌∷◌, map, refl, subst}
use Rattle.std.proofs.lemmas.Result.{err_from_is_err_and}
use Rattle.jvm_model.specs.Linking.{AreMet}
use Rattle.program_linking.specs.Claims.{super_claim, TellsEnd}
use Rattle.program_linking.specs.Supers.{stub_interfaces}
use Rattle.program_linking.proofs.ClaimSteps.{left_all, next_item, stop_item, last_item}
use Rattle.program_linking.proofs.supers.check_stub_interfaces.Goals as goal

pub returns-in_err-check_super : goal.returns-in_err-check_super
returns-in_err-check_super c =
    let p = err_from_is_err_and c.from_residual.result c.from_residual.ensures.1 in
    let rule = c.args.rule in
    let known = c.args.known.now in
    let file = c.args.c.now.file in
    let names = c.as_slice-name-items.result.now in
    let claims = λ (xs : List (List ℕ)). map (super_claim rule) (stub_interfaces file xs) in
    let one = λ (x : List ℕ). super_claim rule (record { name = x; as_interface = true; file = file; offset = 0 }) ∷ [] in
    let end = c.in_err-check_super.field-0.0 in
    let told : TellsEnd known (one c.name-item.result) end = subst (λ (x : List ℕ). TellsEnd known (one x) end) c.as_slice.ensures c.in_err-check_super.ensures in
    let whole = stop_item known claims one (λ x xs. refl) names c.loop-name.name-index c.name-item.result c.loop-name-test.true c.name-item.is c.loop-name.invariant end told in
    rw (p.1, p.2) (subst (λ (xs : List (List ℕ)). TellsEnd known (claims xs) end) c.as_slice-name-items.ensures whole)

pub loop-name-preserved : goal.loop-name-preserved
loop-name-preserved c =
    let rule = c.args.rule in
    let known = c.args.known.now in
    let file = c.args.c.now.file in
    let names = c.as_slice-name-items.result.now in
    let claims = λ (xs : List (List ℕ)). map (super_claim rule) (stub_interfaces file xs) in
    let one = λ (x : List ℕ). super_claim rule (record { name = x; as_interface = true; file = file; offset = 0 }) ∷ [] in
    let met = subst (λ (x : List ℕ). AreMet known (one x)) c.as_slice.ensures c.in_ok-check_super.ensures in
    next_item known claims one (λ x xs. refl) names c.loop-name.name-index c.name-item.result c.loop-name-test.true c.name-item.is c.loop-name.invariant met

pub loop-name-init : goal.loop-name-init
loop-name-init c = left_all _ _

pub returns : goal.returns
returns c =
    let rule = c.args.rule in
    let known = c.args.known.now in
    let file = c.args.c.now.file in
    let claims = λ (xs : List (List ℕ)). map (super_claim rule) (stub_interfaces file xs) in
    let whole = last_item known claims refl c.as_slice-name-items.result.now c.loop-name.name-index c.loop-name-test.false c.loop-name.invariant in
    subst (λ (xs : List (List ℕ)). AreMet known (claims xs)) c.as_slice-name-items.ensures whole
