use Rattle.std.proofs.Common.{List, [], ◌∷◌, ◌++◌, map, refl, ◌∙◌, ap}
use Rattle.program_linking.specs.declared.descriptions.Described.{Described}
use Rattle.program_linking.specs.Patching.{description_of}
use Rattle.jvm_model.specs.Linking.{described_methods}
use Rattle.program_linking.proofs.Building.{build_on, build_done}
use Rattle.program_linking.proofs.copies.copied_methods.Goals as goal

pub loop-described-preserved : goal.loop-described-preserved
loop-described-preserved c =
    build_on (λ (xs : List Described). described_methods (map description_of xs)) _ (λ (x : Described). (description_of x).method ∷ []) (λ x xs. refl) c.args.all.now c.loop-described.described-index c.described-item.result c.loop-described-test.true c.described-item.is
    c.loop-described.copies.items c.push.new.self.items (c.in_ok-push.ensures.items ∙ ap (λ y. c.loop-described.copies.items ++ y ∷ []) c.in_ok-copy.ensures) c.loop-described.invariant

pub returns : goal.returns
returns c =
    c.from_vec.ensures ∙ build_done (λ (xs : List Described). described_methods (map description_of xs)) _ refl c.args.all.now c.loop-described.described-index c.loop-described-test.false c.loop-described.copies.items c.loop-described.invariant
