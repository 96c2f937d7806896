use Rattle.std.proofs.Common.{List, [], ◌∷◌, map, refl, ◌∙◌, ap, subst}
use Rattle.std.proofs.lemmas.Result.{err_from_is_err_and}
use Rattle.jvm_model.specs.declared.stub.StubMethod.{StubMethod}
use Rattle.jvm_model.specs.Linking.{Description, with_description, with_descriptions}
use Rattle.program_linking.specs.TooLarge.{AreTooManyDescriptions}
use Rattle.program_linking.proofs.Building.{with_step, with_end}
use Rattle.program_linking.proofs.LargeInputs.{error_more, many_at}
use Rattle.program_linking.proofs.descriptions.Descriptions.add_all.Goals as goal

pub loop-method-preserved : goal.loop-method-preserved
loop-method-preserved c =
    let mk = λ (m : StubMethod). let d : Description = record { method = m; file = c.args.stub.now.file } in d in
    with_step (map mk) c.args.self.now (λ x. mk x ∷ []) (λ x xs. refl) c.as_slice-method-items.result.now c.loop-method.method-index c.method-item.result c.loop-method-test.true c.method-item.is
    c.loop-method.self c.add.new.self c.in_ok-add.ensures.added c.loop-method.invariant

pub returns-clause-added : goal.returns-clause-added
returns-clause-added c =
    let mk = λ (m : StubMethod). let d : Description = record { method = m; file = c.args.stub.now.file } in d in
    with_end (map mk) c.args.self.now refl c.as_slice-method-items.result.now c.loop-method.method-index c.loop-method-test.false c.loop-method.self c.loop-method.invariant
    ∙ ap (λ (ms : List StubMethod). with_descriptions c.args.self.now (map mk ms)) c.as_slice-method-items.ensures

pub returns-in_err-add-clause-too_many : goal.returns-in_err-add-clause-too_many
returns-in_err-add-clause-too_many c =
    let q = err_from_is_err_and c.from_residual.result c.from_residual.ensures.1 in
    let mk = λ (m : StubMethod). let d : Description = record { method = m; file = c.args.stub.now.file } in d in
    let old = c.args.self.now in
    let items = c.as_slice-method-items.result.now in
    let more = many_at (map mk) old (λ x. mk x ∷ []) (λ x xs. refl) items c.loop-method.method-index c.method-item.result c.loop-method-test.true c.method-item.is c.loop-method.self c.loop-method.invariant in
    rw (q.1, q.2)
    (error_more (AreTooManyDescriptions (with_description c.loop-method.self (mk c.method-item.result))) (AreTooManyDescriptions (with_descriptions old (map mk c.args.stub.now.methods))) c.in_err-add.field-0.0
    (λ many. subst (λ (ms : List StubMethod). AreTooManyDescriptions (with_descriptions old (map mk ms))) c.as_slice-method-items.ensures (more many)) c.in_err-add.ensures.too_many)
