use Rattle.std.proofs.Common.{ℕ, List, [], ◌∷◌, ◌++◌, refl, ◌∙◌, ap}
use Rattle.program_linking.proofs.Building.{build_on, build_done}
use Rattle.program_linking.proofs.copies.copied_names.Goals as goal

pub loop-name-preserved : goal.loop-name-preserved
loop-name-preserved c =
    build_on (λ (xs : List (List ℕ)). xs) _ (λ (x : (List ℕ)). x ∷ []) (λ x xs. refl) c.args.names.now c.loop-name.name-index c.name-item.result c.loop-name-test.true c.name-item.is
    c.loop-name.copies.items c.push.new.self.items (c.in_ok-push.ensures.items ∙ ap (λ y. c.loop-name.copies.items ++ y ∷ []) c.in_ok-copy.ensures) c.loop-name.invariant

pub returns : goal.returns
returns c =
    c.from_vec.ensures ∙ build_done (λ (xs : List (List ℕ)). xs) _ refl c.args.names.now c.loop-name.name-index c.loop-name-test.false c.loop-name.copies.items c.loop-name.invariant
