use Rattle.std.proofs.Common.{◌≡◌, ◌+◌, ◌*◌, map, drop}
use Rattle.jvm_model.specs.Linking.{interface_places}
use Rattle.jvm_model.specs.Soundness.{interfaces_offset}
use Rattle.program_linking.specs.Claims.{super_claim}
use Rattle.program_linking.proofs.ClaimSteps.{Left}
use Rattle.program_linking.proofs.supers.check_interfaces.Given as goal

abbrev pub invariant-loop-index : goal.invariant-loop-index
invariant-loop-index l = record {
  left : Left l.known (map (super_claim l.rule) (interface_places l.f.file l.f.class.pool (interfaces_offset l.f.class) l.index-items))
      (map (super_claim l.rule) (interface_places l.f.file l.f.class.pool l.offset (drop l.index-index l.index-items)));
  at : l.offset ≡ interfaces_offset l.f.class + 2 * l.index-index;
}
