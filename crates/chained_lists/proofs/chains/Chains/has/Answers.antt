use Rattle.std.proofs.Common.{◌≡◌, ◌∙◌, ℕ}
use Rattle.chained_lists.proofs.Walks.{front_none, walk_begins, walk_goes}
use Rattle.chained_lists.proofs.chains.Chains.has.Goals as goal

pub loop-place-init : goal.loop-place-init
loop-place-init c = record { walked = walk_begins (λ (v : ℕ). v ≡ c.args.value → ⊥) c.args.self.now c.args.number }

pub loop-place-preserved : goal.loop-place-preserved
loop-place-preserved c = record {
  walked =
      walk_goes (λ (v : ℕ). v ≡ c.args.value → ⊥) (λ (v : ℕ). v ≡ c.args.value → ⊥) c.args.self.now c.args.self.now (front_none c.args.self.now) (λ v other. other) c.args.number c.loop-place.last
      c.loop-place.invariant.walked c.in-Some.place c.in-Some.ensures (λ v at same. c.if-value.false (c.value.ensures c.args.number v at ∙ same));
}
