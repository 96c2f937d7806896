use Rattle.std.proofs.Common.{map, drop}
use Rattle.program_linking.specs.Claims.{super_claim}
use Rattle.program_linking.specs.Supers.{stub_interfaces}
use Rattle.program_linking.proofs.ClaimSteps.{Left}
use Rattle.program_linking.proofs.supers.check_stub_interfaces.Given as goal

abbrev pub invariant-loop-name : goal.invariant-loop-name
invariant-loop-name l =
    Left l.known (map (super_claim l.rule) (stub_interfaces l.c.file l.name-items)) (map (super_claim l.rule) (stub_interfaces l.c.file (drop l.name-index l.name-items)))
