use Rattle.std.proofs.Common.{List, map, filter, refl, Bor}
use Rattle.std.specs.List.{flat_map}
use Rattle.std.proofs.lemmas.List.Elements.{filter-append}
use Rattle.std.proofs.lemmas.Result.{err_from_is_err_and}
use Rattle.jvm_model.specs.declared.stub.StubClass.{StubClass}
use Rattle.jvm_model.specs.Linking.{descriptions, with_descriptions}
use Rattle.program_linking.specs.Patching.{is_native_in}
use Rattle.program_linking.specs.TooLarge.{AreTooManyDescriptions}
use Rattle.program_linking.proofs.Building.{with_step, with_end}
use Rattle.program_linking.proofs.LargeInputs.{error_more, many_at}
use Rattle.program_linking.proofs.patches.add_patches.Goals as goal

pub loop-patch-preserved : goal.loop-patch-preserved
loop-patch-preserved c =
    let p = is_native_in c.args.natives.now in
    let f = λ (ps : List (Bor StubClass)). flat_map descriptions (map (λ (s : Bor StubClass). s.now) ps) in
    with_step (λ (ps : List (Bor StubClass)). filter p (f ps)) c.args.all.now (λ (x : Bor StubClass). filter p (descriptions x.now)) (λ x xs. filter-append p (descriptions x.now) (f xs))
    c.args.found.now c.loop-patch.patch-index c.patch-item.result c.loop-patch-test.true c.patch-item.is
    c.loop-patch.all c.add_natives.new.all c.in_ok-add_natives.ensures.added c.loop-patch.invariant

pub returns-clause-added : goal.returns-clause-added
returns-clause-added c =
    let p = is_native_in c.args.natives.now in
    let f = λ (ps : List (Bor StubClass)). flat_map descriptions (map (λ (s : Bor StubClass). s.now) ps) in
    with_end (λ (ps : List (Bor StubClass)). filter p (f ps)) c.args.all.now refl c.args.found.now c.loop-patch.patch-index c.loop-patch-test.false c.loop-patch.all c.loop-patch.invariant

pub returns-in_err-add_natives-clause-too_many : goal.returns-in_err-add_natives-clause-too_many
returns-in_err-add_natives-clause-too_many c =
    let q = err_from_is_err_and c.from_residual.result c.from_residual.ensures.1 in
    let p = is_native_in c.args.natives.now in
    let f = λ (ps : List (Bor StubClass)). flat_map descriptions (map (λ (s : Bor StubClass). s.now) ps) in
    let first = c.args.all.now in
    let held = c.loop-patch.all in
    let items = c.args.found.now in
    let more = many_at (λ (ps : List (Bor StubClass)). filter p (f ps)) first (λ (x : Bor StubClass). filter p (descriptions x.now)) (λ x xs. filter-append p (descriptions x.now) (f xs))
    items c.loop-patch.patch-index c.patch-item.result c.loop-patch-test.true c.patch-item.is held c.loop-patch.invariant in
    rw (q.1, q.2)
    (error_more (AreTooManyDescriptions (with_descriptions held (filter p (descriptions c.patch-item.result.now)))) (AreTooManyDescriptions (with_descriptions first (filter p (f items)))) c.in_err-add_natives.field-0.0
    more c.in_err-add_natives.ensures.too_many)
