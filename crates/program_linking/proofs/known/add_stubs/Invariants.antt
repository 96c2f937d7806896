use Rattle.std.proofs.Common.{◌≡◌, ◌++◌, map, drop}
use Rattle.jvm_model.specs.Linking.{own_classes}
use Rattle.program_linking.specs.Claims.{AreNewNames, stub_name, stub_kind}
use Rattle.program_linking.proofs.known.add_stubs.Given as goal

abbrev pub invariant-loop-c : goal.invariant-loop-c
invariant-loop-c l = record {
  new : AreNewNames l.names (map stub_name (own_classes (drop l.c-index l.stubs)));
  names : l.names ++ map stub_name (own_classes (drop l.c-index l.stubs)) ≡ l.initial.names ++ map stub_name (own_classes l.stubs);
  kinds : l.interfaces.items ++ map stub_kind (own_classes (drop l.c-index l.stubs)) ≡ l.initial.interfaces.items ++ map stub_kind (own_classes l.stubs);
}
