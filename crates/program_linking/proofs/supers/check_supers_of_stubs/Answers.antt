use Rattle.std.proofs.Common.{List, map, refl}
use Rattle.std.specs.List.{flat_map}
use Rattle.std.proofs.lemmas.Result.{err_from_is_err_and}
use Rattle.jvm_model.specs.declared.stub.StubClass.{StubClass}
use Rattle.jvm_model.specs.Linking.{supers_of_stub, own_classes}
use Rattle.program_linking.specs.Claims.{super_claim, of_own}
use Rattle.program_linking.proofs.ClaimSteps.{left_all, next_item, stop_item, last_item, own_map_split}
use Rattle.program_linking.proofs.supers.check_supers_of_stubs.Goals as goal

pub returns-in_err-check_own_supers : goal.returns-in_err-check_own_supers
returns-in_err-check_own_supers c =
    let p = err_from_is_err_and c.from_residual.result c.from_residual.ensures.1 in
    let claims = λ (xs : List StubClass). map (super_claim c.args.rule) (flat_map supers_of_stub (own_classes xs)) in
    let one = λ (x : StubClass). of_own (λ (s : StubClass). map (super_claim c.args.rule) (supers_of_stub s)) x in
    rw (p.1, p.2)
    (stop_item c.args.known.now claims one (λ x xs. own_map_split (super_claim c.args.rule) supers_of_stub x xs) c.args.stubs.now c.loop-c.c-index c.c-item.result c.loop-c-test.true c.c-item.is c.loop-c.invariant
    c.in_err-check_own_supers.field-0.0 c.in_err-check_own_supers.ensures)

pub loop-c-preserved : goal.loop-c-preserved
loop-c-preserved c =
    let claims = λ (xs : List StubClass). map (super_claim c.args.rule) (flat_map supers_of_stub (own_classes xs)) in
    let one = λ (x : StubClass). of_own (λ (s : StubClass). map (super_claim c.args.rule) (supers_of_stub s)) x in
    next_item c.args.known.now claims one (λ x xs. own_map_split (super_claim c.args.rule) supers_of_stub x xs) c.args.stubs.now c.loop-c.c-index c.c-item.result c.loop-c-test.true c.c-item.is c.loop-c.invariant c.in_ok-check_own_supers.ensures

pub loop-c-init : goal.loop-c-init
loop-c-init c = left_all _ _

pub returns : goal.returns
returns c =
    let claims = λ (xs : List StubClass). map (super_claim c.args.rule) (flat_map supers_of_stub (own_classes xs)) in
    last_item c.args.known.now claims refl c.args.stubs.now c.loop-c.c-index c.loop-c-test.false c.loop-c.invariant
