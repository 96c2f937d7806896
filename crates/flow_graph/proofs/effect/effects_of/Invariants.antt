use Rattle.std.proofs.Common.{◌≡◌, take}
use Rattle.std.specs.List.{AllZip}
use Rattle.flow_graph.specs.Reading.{HasEffectIfSound}
use Rattle.flow_graph.proofs.effect.effects_of.Given as goal

abbrev pub invariant-loop-placed : goal.invariant-loop-placed
invariant-loop-placed l = record {
  same : l.units ≡ l.class.pool;
  known : AllZip (HasEffectIfSound l.class) (take l.placed-index l.instructions) l.effects.items;
}
