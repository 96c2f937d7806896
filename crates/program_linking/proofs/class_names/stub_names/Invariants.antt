use Rattle.std.proofs.Common.{◌≡◌, [], drop}
use Rattle.program_linking.specs.Claims.{with_own_names}
use Rattle.program_linking.proofs.class_names.stub_names.Given as goal

abbrev pub invariant-loop-c : goal.invariant-loop-c
invariant-loop-c l = with_own_names l.names (drop l.c-index l.stubs) ≡ with_own_names [] l.stubs
