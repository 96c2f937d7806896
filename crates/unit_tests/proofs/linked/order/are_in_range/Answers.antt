use Rattle.std.proofs.Common.{ℕ, ◌<◌, List, length, subst}
use Rattle.std.specs.List.{All}
use Rattle.std.proofs.lemmas.List.{take_all}
use Rattle.std.proofs.lemmas.List.Elements.{All-more}
use Rattle.program_index.specs.declared.parents.Parents.{Parents}
use Rattle.program_index.specs.Supertypes.{direct_of}
use Rattle.unit_tests.proofs.linked.order.are_in_range.Goals as goal

pub loop-direct-preserved : goal.loop-direct-preserved
loop-direct-preserved c =
    let g = c.args.parents.now in
    let i = c.loop-direct.direct-index in
    All-more (λ (p : Parents). All (λ (y : ℕ). y < length g) (direct_of p)) g i c.direct-item.result c.loop-direct-test.true c.loop-direct.invariant
    (subst (λ (p : Parents). All (λ (y : ℕ). y < length g) (direct_of p)) c.direct-item.is (c.is_in_range.ensures c.if-not-is_in_range.false))

pub returns : goal.returns
returns c = λ h. record {
  below = subst (λ (xs : List Parents). All (λ (p : Parents). All (λ (y : ℕ). y < length c.args.parents.now) (direct_of p)) xs)
      (take_all c.loop-direct.direct-index c.args.parents.now c.loop-direct-test.false) c.loop-direct.invariant;
}
