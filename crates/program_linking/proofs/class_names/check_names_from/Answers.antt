use Rattle.std.proofs.Common.{List, ◌++◌, map, drop, refl, ap}
use Rattle.std.proofs.lemmas.List.{drop_all}
use Rattle.std.proofs.lemmas.Result.{err_from_is_err_and}
use Rattle.jvm_model.specs.declared.stub.StubClass.{StubClass}
use Rattle.jvm_model.specs.Linking.{stub_claims}
use Rattle.program_index.specs.Limits.{AreTooMany}
use Rattle.program_linking.specs.Claims.{stub_name}
use Rattle.program_linking.specs.StubSources.{one_from, own_from}
use Rattle.program_linking.proofs.Building.{build_on, build_done}
use Rattle.program_linking.proofs.ClaimSteps.{end_more, left_all, left_as, left_end}
use Rattle.program_linking.proofs.ClassNames.{next_stub, own_names_from_split, stop_stub}
use Rattle.program_linking.proofs.LargeInputs.{many_more}
use Rattle.program_linking.proofs.class_names.check_names_from.Goals as goal

pub loop-c-init : goal.loop-c-init
loop-c-init c = record { added = refl; left = λ p. left_all p (stub_claims c.args.earlier.now (own_from c.args.source c.args.stubs.now)) }

pub loop-c-preserved : goal.loop-c-preserved
loop-c-preserved c =
    let source = c.args.source in
    let stubs = c.args.stubs.now in
    let names = λ (cs : List StubClass). map stub_name (own_from source cs) in
    let first = c.args.earlier.now in
    record {
      added = build_on names (first ++ names stubs) (λ (x : StubClass). map stub_name (one_from source x)) (own_names_from_split source) stubs c.loop-c.c-index c.c-item.result c.loop-c-test.true c.c-item.is
          c.loop-c.earlier c.check_stub_name.new.earlier c.in_ok-check_stub_name.ensures.added c.loop-c.invariant.added;
      left = λ p.
          next_stub p source first c.loop-c.earlier c.check_stub_name.new.earlier stubs c.loop-c.c-index c.c-item.result c.loop-c-test.true c.c-item.is (c.loop-c.invariant.left p)
          c.in_ok-check_stub_name.ensures.added (c.in_ok-check_stub_name.ensures.told p);
    }

pub returns-in_err-check_stub_name-clause-told : goal.returns-in_err-check_stub_name-clause-told
returns-in_err-check_stub_name-clause-told c =
    let q = err_from_is_err_and c.from_residual.result c.from_residual.ensures.1 in
    let source = c.args.source in
    let stubs = c.args.stubs.now in
    let names = λ (cs : List StubClass). map stub_name (own_from source cs) in
    let first = c.args.earlier.now in
    let earlier = c.loop-c.earlier in
    let whole = first ++ names stubs in
    let end = c.in_err-check_stub_name.field-0.0 in
    let more : AreTooMany earlier → AreTooMany whole = many_more earlier (names (drop c.loop-c.c-index stubs)) whole c.loop-c.invariant.added in
    λ p. rw (q.1, q.2)
    (stop_stub p source first earlier earlier stubs c.loop-c.c-index c.c-item.result c.loop-c-test.true c.c-item.is (c.loop-c.invariant.left p) (AreTooMany whole) end
    (end_more (AreTooMany earlier) (AreTooMany whole) p (stub_claims earlier (one_from source c.c-item.result)) end more (c.in_err-check_stub_name.ensures.told p)))

pub returns-clause-added : goal.returns-clause-added
returns-clause-added c =
    let names = λ (cs : List StubClass). map stub_name (own_from c.args.source cs) in
    build_done names (c.args.earlier.now ++ names c.args.stubs.now) refl c.args.stubs.now c.loop-c.c-index c.loop-c-test.false c.loop-c.earlier c.loop-c.invariant.added

pub returns-clause-told : goal.returns-clause-told
returns-clause-told c = λ p.
    left_end p _ (left_as p _ _ _ (ap (λ (cs : List StubClass). stub_claims c.loop-c.earlier (own_from c.args.source cs)) (drop_all c.loop-c.c-index c.args.stubs.now c.loop-c-test.false)) (c.loop-c.invariant.left p))
