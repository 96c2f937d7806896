use Rattle.std.proofs.Common.{◌≡◌, ◌++◌, map, drop}
use Rattle.jvm_model.specs.Linking.{stub_claims}
use Rattle.jvm_model.specs.Programs.{Program}
use Rattle.program_linking.specs.Claims.{stub_name}
use Rattle.program_linking.specs.StubSources.{own_from}
use Rattle.program_linking.proofs.ClaimSteps.{Left}
use Rattle.program_linking.proofs.class_names.check_names_from.Given as goal

abbrev pub invariant-loop-c : goal.invariant-loop-c
invariant-loop-c l = record {
  added : l.earlier ++ map stub_name (own_from l.source (drop l.c-index l.stubs)) ≡ l.initial.earlier ++ map stub_name (own_from l.source l.stubs);
  left : (p : Program) → Left p (stub_claims l.initial.earlier (own_from l.source l.stubs)) (stub_claims l.earlier (own_from l.source (drop l.c-index l.stubs)));
}
