use Rattle.std.proofs.Common.{◌+◌, List, take, sym, ◌∙◌, subst}
use Rattle.std.specs.List.{AllZip}
use Rattle.flow_graph.specs.declared.effect.Effect.{Effect}
use Rattle.flow_graph.specs.Reading.{HasEffectIfSound}
use Rattle.flow_graph.proofs.Effects.{one_known}
use Rattle.flow_graph.proofs.effect.effects_of.Goals as goal

pub loop-placed-preserved : goal.loop-placed-preserved
loop-placed-preserved c = record {
  same = c.effect_of.ensures.same ∙ c.loop-placed.invariant.same;
  known = subst (λ (effects : List Effect). AllZip (HasEffectIfSound c.args.class.now) (take (c.loop-placed.placed-index + 1) c.args.instructions.now) effects) (sym c.in_ok-push.ensures.items)
      (one_known c.args.class.now c.args.instructions.now c.loop-placed.effects.items c.loop-placed.placed-index c.placed-item.result c.in_ok-effect_of.field-0 c.loop-placed-test.true c.placed-item.is
      c.loop-placed.invariant.known c.in_ok-effect_of.ensures.effect);
}
