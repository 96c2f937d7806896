use Rattle.std.proofs.Common.{List, refl}
use Rattle.std.specs.List.{flat_map}
use Rattle.std.proofs.lemmas.Result.{err_from_is_err_and}
use Rattle.jvm_model.specs.Linking.{stub_there_claims, own_classes}
use Rattle.jvm_model.specs.declared.stub.StubClass.{StubClass}
use Rattle.program_linking.specs.Claims.{of_own}
use Rattle.program_linking.specs.Patching.{own_one}
use Rattle.program_linking.specs.TooLarge.{HasLargeStub}
use Rattle.program_linking.proofs.ClaimSteps.{end_more, left_all, next_item, stop_item_or, last_item, own_claims_split}
use Rattle.program_linking.proofs.LargeInputs.{large_stub}
use Rattle.program_linking.proofs.mentions.check_stubs.Goals as goal

pub returns-in_err-check_own_stub : goal.returns-in_err-check_own_stub
returns-in_err-check_own_stub c =
    let p = err_from_is_err_and c.from_residual.result c.from_residual.ensures.1 in
    let known = c.args.known.now in
    let end = c.in_err-check_own_stub.field-0.0 in
    let claims = λ (xs : List StubClass). flat_map (stub_there_claims c.args.patches.now) (own_classes xs) in
    let one = λ (x : StubClass). of_own (stub_there_claims c.args.patches.now) x in
    let stubs = c.args.stubs.now in
    let s = c.c-item.result in
    let here = HasLargeStub c.args.patches.now (own_one s) in
    let large = HasLargeStub c.args.patches.now (own_classes stubs) in
    let told = end_more here large known (one s) end (large_stub c.args.patches.now stubs c.loop-c.c-index s c.loop-c-test.true c.c-item.is) c.in_err-check_own_stub.ensures in
    rw (p.1, p.2) (stop_item_or known claims one (λ x xs. own_claims_split (stub_there_claims c.args.patches.now) x xs) stubs c.loop-c.c-index s c.loop-c-test.true c.c-item.is c.loop-c.invariant large end told)

pub loop-c-preserved : goal.loop-c-preserved
loop-c-preserved c =
    let claims = λ (xs : List StubClass). flat_map (stub_there_claims c.args.patches.now) (own_classes xs) in
    let one = λ (x : StubClass). of_own (stub_there_claims c.args.patches.now) x in
    next_item c.args.known.now claims one (λ x xs. own_claims_split (stub_there_claims c.args.patches.now) x xs) c.args.stubs.now c.loop-c.c-index c.c-item.result c.loop-c-test.true c.c-item.is c.loop-c.invariant c.in_ok-check_own_stub.ensures

pub loop-c-init : goal.loop-c-init
loop-c-init c = left_all _ _

pub returns : goal.returns
returns c =
    let claims = λ (xs : List StubClass). flat_map (stub_there_claims c.args.patches.now) (own_classes xs) in
    let whole = last_item c.args.known.now claims refl c.args.stubs.now c.loop-c.c-index c.loop-c-test.false c.loop-c.invariant in
    whole
