use Rattle.std.proofs.Common.{length, List, ap, ◌∙◌}
use Rattle.jvm_model.specs.declared.code.PlacedInstruction.{PlacedInstruction}
use Rattle.flow_graph.specs.declared.effect.Effect.{Effect}
use Rattle.flow_graph.specs.Reading.{HasEffectIfSound}
use Rattle.flow_graph.proofs.Effects.{zip_length}
use Rattle.flow_graph.proofs.build.marks_of.Goals as goal

pub walk_code-requires-clause-effects : goal.walk_code-requires-clause-effects
walk_code-requires-clause-effects c =
    ap (λ (effects : List Effect). length effects) c.deref.ensures.value ∙ zip_length (HasEffectIfSound c.args.class.now) c.as_slice.result.now c.in_ok-effects.effects.items c.in_ok-effects.ensures
    ∙ ap (λ (ps : List PlacedInstruction). length ps) c.as_slice.ensures
