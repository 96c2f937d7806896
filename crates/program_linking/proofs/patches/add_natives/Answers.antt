use Rattle.std.proofs.Common.{List, [], ◌∷◌, map, filter, refl, ◌∙◌, ap, subst}
use Rattle.std.proofs.lemmas.List.Elements.{filter-append}
use Rattle.std.proofs.lemmas.Result.{err_from_is_err_and}
use Rattle.jvm_model.specs.declared.stub.StubMethod.{StubMethod}
use Rattle.jvm_model.specs.Linking.{Description, with_descriptions}
use Rattle.program_linking.specs.Patching.{is_native_in, with_native}
use Rattle.program_linking.specs.TooLarge.{AreTooManyDescriptions}
use Rattle.program_linking.proofs.Building.{with_step, with_end, native_one}
use Rattle.program_linking.proofs.LargeInputs.{error_more, many_at}
use Rattle.program_linking.proofs.patches.add_natives.Goals as goal

pub loop-method-preserved : goal.loop-method-preserved
loop-method-preserved c =
    let mk = λ (m : StubMethod). let d : Description = record { method = m; file = c.args.patch.now.file } in d in
    let p = is_native_in c.args.natives.now in
    with_step (λ (ms : List StubMethod). filter p (map mk ms)) c.args.all.now (λ x. filter p (mk x ∷ [])) (λ x xs. filter-append p (mk x ∷ []) (map mk xs))
    c.as_slice-method-items.result.now c.loop-method.method-index c.method-item.result c.loop-method-test.true c.method-item.is
    c.loop-method.all c.add_native.new.all (c.in_ok-add_native.ensures.added ∙ native_one c.args.natives.now c.loop-method.all (mk c.method-item.result)) c.loop-method.invariant

pub returns-clause-added : goal.returns-clause-added
returns-clause-added c =
    let mk = λ (m : StubMethod). let d : Description = record { method = m; file = c.args.patch.now.file } in d in
    let p = is_native_in c.args.natives.now in
    with_end (λ (ms : List StubMethod). filter p (map mk ms)) c.args.all.now refl c.as_slice-method-items.result.now c.loop-method.method-index c.loop-method-test.false c.loop-method.all c.loop-method.invariant
    ∙ ap (λ (ms : List StubMethod). with_descriptions c.args.all.now (filter p (map mk ms))) c.as_slice-method-items.ensures

pub returns-in_err-add_native-clause-too_many : goal.returns-in_err-add_native-clause-too_many
returns-in_err-add_native-clause-too_many c =
    let q = err_from_is_err_and c.from_residual.result c.from_residual.ensures.1 in
    let mk = λ (m : StubMethod). let d : Description = record { method = m; file = c.args.patch.now.file } in d in
    let natives = c.args.natives.now in
    let p = is_native_in natives in
    let f = λ (ms : List StubMethod). filter p (map mk ms) in
    let first = c.args.all.now in
    let held = c.loop-method.all in
    let d = mk c.method-item.result in
    let items = c.as_slice-method-items.result.now in
    let more = many_at f first (λ x. filter p (mk x ∷ [])) (λ x xs. filter-append p (mk x ∷ []) (map mk xs)) items c.loop-method.method-index c.method-item.result c.loop-method-test.true c.method-item.is held c.loop-method.invariant in
    rw (q.1, q.2)
    (error_more (AreTooManyDescriptions (with_native natives held d)) (AreTooManyDescriptions (with_descriptions first (f c.args.patch.now.methods))) c.in_err-add_native.field-0.0
    (λ many. subst (λ (ms : List StubMethod). AreTooManyDescriptions (with_descriptions first (f ms))) c.as_slice-method-items.ensures
    (more (subst AreTooManyDescriptions (native_one natives held d) many))) c.in_err-add_native.ensures.too_many)
