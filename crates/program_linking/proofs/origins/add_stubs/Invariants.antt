use Rattle.std.proofs.Common.{◌≡◌, ◌++◌, map}
use Rattle.jvm_model.specs.Linking.{stub_origin}
use Rattle.program_linking.proofs.origins.add_stubs.Given as goal

abbrev pub invariant-loop-c : goal.invariant-loop-c
invariant-loop-c l = l.all.items ≡ l.initial.all.items ++ map (stub_origin l.patches) l.yielded
