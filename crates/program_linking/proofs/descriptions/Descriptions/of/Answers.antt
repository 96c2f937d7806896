use Rattle.std.proofs.Common.{List, [], ◌+◌, ◌∷◌, ◌++◌, map, drop, refl, ◌∙◌, ap}
use Rattle.std.proofs.lemmas.Result.{err_from_is_err_and}
use Rattle.jvm_model.specs.declared.stub.StubMethod.{StubMethod}
use Rattle.jvm_model.specs.Linking.{Description}
use Rattle.program_linking.specs.TooLarge.{AreTooManyDescriptions}
use Rattle.program_linking.proofs.Building.{build_on, build_done}
use Rattle.program_linking.proofs.LargeInputs.{descriptions_more, error_more}
use Rattle.program_linking.proofs.descriptions.Descriptions.of.Goals as goal

pub loop-method-init : goal.loop-method-init
loop-method-init c =
    let mk = λ (m : StubMethod). let d : Description = record { method = m; file = c.args.stub.now.file } in d in
    ap (λ (ds : List Description). ds ++ map mk c.as_slice-method-items.result.now) c.new-all.ensures

pub loop-method-preserved : goal.loop-method-preserved
loop-method-preserved c =
    let mk = λ (m : StubMethod). let d : Description = record { method = m; file = c.args.stub.now.file } in d in
    build_on (map mk) _ (λ x. mk x ∷ []) (λ x xs. refl) c.as_slice-method-items.result.now c.loop-method.method-index c.method-item.result c.loop-method-test.true c.method-item.is
    c.loop-method.all c.push.new.self c.in_ok-push.ensures.pushed c.loop-method.invariant

pub returns-clause-all : goal.returns-clause-all
returns-clause-all c =
    let mk = λ (m : StubMethod). let d : Description = record { method = m; file = c.args.stub.now.file } in d in
    build_done (map mk) _ refl c.as_slice-method-items.result.now c.loop-method.method-index c.loop-method-test.false c.loop-method.all c.loop-method.invariant
    ∙ ap (map mk) c.as_slice-method-items.ensures

pub returns-in_err-push-clause-too_many : goal.returns-in_err-push-clause-too_many
returns-in_err-push-clause-too_many c =
    let q = err_from_is_err_and c.from_residual.result c.from_residual.ensures.1 in
    let mk = λ (m : StubMethod). let d : Description = record { method = m; file = c.args.stub.now.file } in d in
    let items = c.as_slice-method-items.result.now in
    let i = c.loop-method.method-index in
    let held = c.loop-method.all in
    let longer = held ++ mk c.method-item.result ∷ [] in
    let rest = build_on (map mk) (map mk items) (λ x. mk x ∷ []) (λ x xs. refl) items i c.method-item.result c.loop-method-test.true c.method-item.is held longer refl c.loop-method.invariant in
    let whole = rest ∙ ap (map mk) c.as_slice-method-items.ensures in
    rw (q.1, q.2)
    (error_more (AreTooManyDescriptions longer) (AreTooManyDescriptions (map mk c.args.stub.now.methods)) c.in_err-push.field-0.0
    (descriptions_more longer (map mk (drop (i + 1) items)) (map mk c.args.stub.now.methods) whole) c.in_err-push.ensures.too_many)
