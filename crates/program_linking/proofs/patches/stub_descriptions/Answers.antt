use Rattle.std.proofs.Common.{◌≡◌, List, map, refl, ◌∙◌, ap, subst, Bor}
use Rattle.std.specs.List.{flat_map}
use Rattle.std.proofs.lemmas.Result.{err_from_is_err_and}
use Rattle.jvm_model.specs.declared.stub.StubClass.{StubClass}
use Rattle.jvm_model.specs.Linking.{Description, descriptions, patches_of, stub_descriptions, with_descriptions}
use Rattle.program_linking.specs.Patching.{patches_for}
use Rattle.program_linking.specs.TooLarge.{AreTooManyDescriptions}
use Rattle.program_linking.proofs.Building.{with_step, with_end}
use Rattle.program_linking.proofs.LargeInputs.{error_more, many_at, many_with}
use Rattle.program_linking.proofs.patches.stub_descriptions.Goals as goal

pub loop-patch-preserved : goal.loop-patch-preserved
loop-patch-preserved c =
    let f = λ (ps : List (Bor StubClass)). flat_map descriptions (map (λ (s : Bor StubClass). s.now) ps) in
    with_step f c.in_ok-all.all (λ (x : Bor StubClass). descriptions x.now) (λ x xs. refl)
    c.of-found.result.now c.loop-patch.patch-index c.patch-item.result c.loop-patch-test.true c.patch-item.is
    c.loop-patch.all c.add_all.new.self c.in_ok-add_all.ensures.added c.loop-patch.invariant

pub returns-clause-all : goal.returns-clause-all
returns-clause-all c =
    let f = λ (ps : List (Bor StubClass)). flat_map descriptions (map (λ (s : Bor StubClass). s.now) ps) in
    let class = c.args.class.now in
    let stubs = c.args.patches.now in
    let items = c.of-found.result.now in
    let whole = with_end f c.in_ok-all.all refl items c.loop-patch.patch-index c.loop-patch-test.false c.loop-patch.all c.loop-patch.invariant in
    let found : map (λ (s : Bor StubClass). s.now) items ≡ patches_for class.name stubs =
    c.of-found.ensures ∙ ap (λ name. patches_for name stubs) c.as_slice.ensures in
    whole ∙ ap (λ (ds : List Description). with_descriptions ds (f items)) c.in_ok-all.ensures.all
    ∙ ap (λ (ps : List StubClass). with_descriptions (descriptions class) (flat_map descriptions ps)) found

pub returns-in_err-all-clause-too_many : goal.returns-in_err-all-clause-too_many
returns-in_err-all-clause-too_many c =
    let q = err_from_is_err_and c.from_residual.result c.from_residual.ensures.1 in
    let class = c.args.class.now in
    let stubs = c.args.patches.now in
    rw (q.1, q.2)
    (error_more (AreTooManyDescriptions (descriptions class)) (AreTooManyDescriptions (stub_descriptions stubs class)) c.in_err-all.field-0.0 (many_with (descriptions class) (patches_of class.name stubs)) c.in_err-all.ensures.too_many)

pub returns-in_err-add_all-clause-too_many : goal.returns-in_err-add_all-clause-too_many
returns-in_err-add_all-clause-too_many c =
    let q = err_from_is_err_and c.from_residual-in_err-add_all.result c.from_residual-in_err-add_all.ensures.1 in
    let f = λ (ps : List (Bor StubClass)). flat_map descriptions (map (λ (s : Bor StubClass). s.now) ps) in
    let class = c.args.class.now in
    let stubs = c.args.patches.now in
    let items = c.of-found.result.now in
    let held = c.loop-patch.all in
    let more = many_at f c.in_ok-all.all (λ (x : Bor StubClass). descriptions x.now) (λ x xs. refl) items c.loop-patch.patch-index c.patch-item.result c.loop-patch-test.true c.patch-item.is held c.loop-patch.invariant in
    let found : map (λ (s : Bor StubClass). s.now) items ≡ patches_for class.name stubs =
    c.of-found.ensures ∙ ap (λ name. patches_for name stubs) c.as_slice.ensures in
    let is : with_descriptions c.in_ok-all.all (f items) ≡ stub_descriptions stubs class = (λ i. with_descriptions (c.in_ok-all.ensures.all i) (flat_map descriptions (found i))) in
    rw (q.1, q.2)
    (error_more (AreTooManyDescriptions (with_descriptions held (descriptions c.patch-item.result.now))) (AreTooManyDescriptions (stub_descriptions stubs class)) c.in_err-add_all.field-0.0
    (λ many. subst AreTooManyDescriptions is (more many)) c.in_err-add_all.ensures.too_many)
