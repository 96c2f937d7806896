use Rattle.std.proofs.Common.{List, [], ◌∷◌, ◌++◌, refl, ◌∙◌, ap}
use Rattle.jvm_model.specs.declared.stub.StubResult.{StubResult}
use Rattle.program_linking.proofs.Building.{build_on, build_done}
use Rattle.program_linking.proofs.copies.copied_results.Goals as goal

pub loop-returned-preserved : goal.loop-returned-preserved
loop-returned-preserved c =
    build_on (λ (xs : List StubResult). xs) _ (λ (x : StubResult). x ∷ []) (λ x xs. refl) c.args.all.now c.loop-returned.returned-index c.returned-item.result c.loop-returned-test.true c.returned-item.is
    c.loop-returned.copies.items c.push.new.self.items (c.in_ok-push.ensures.items ∙ ap (λ y. c.loop-returned.copies.items ++ y ∷ []) c.in_ok-copy.ensures) c.loop-returned.invariant

pub returns : goal.returns
returns c =
    c.from_vec.ensures ∙ build_done (λ (xs : List StubResult). xs) _ refl c.args.all.now c.loop-returned.returned-index c.loop-returned-test.false c.loop-returned.copies.items c.loop-returned.invariant
