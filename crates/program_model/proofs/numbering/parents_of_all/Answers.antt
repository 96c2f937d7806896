use Rattle.std.proofs.Common.{ℕ, List, sym, subst}
use Rattle.jvm_model.specs.declared.program.Origin.{Origin}
use Rattle.jvm_model.specs.Linking.{class_from, names}
use Rattle.program_index.specs.declared.parents.Parents.{Parents}
use Rattle.program_model.specs.Numbering.{HasNames, IsParents}
use Rattle.program_model.proofs.Bridges.{zip_more}
use Rattle.program_model.proofs.numbering.parents_of_all.Goals as goal

pub parents_of-requires-clause-there : goal.parents_of-requires-clause-there
parents_of-requires-clause-there c =
    subst (λ (o : Origin). HasNames c.args.all.now (class_from o)) (sym c.origin-item.is) (c.requires.there c.loop-origin.origin-index c.origin-item.result c.loop-origin-test.true)

pub loop-origin-preserved : goal.loop-origin-preserved
loop-origin-preserved c =
    rw c.in_ok-push.ensures.items
    (zip_more (λ (o : Origin) (p : Parents). IsParents (names c.args.order.now) (class_from o) p) c.args.order.now c.loop-origin.parents.items c.loop-origin.origin-index c.origin-item.result
    c.in_ok-parents_of.field-0 c.loop-origin-test.true c.origin-item.is c.loop-origin.invariant
    (subst (λ (all : List (List ℕ)). IsParents all (class_from c.origin-item.result) c.in_ok-parents_of.field-0) c.requires.named c.in_ok-parents_of.ensures))
