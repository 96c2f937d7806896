use Rattle.std.proofs.Common.{◌≡◌, ◌++◌, map, drop}
use Rattle.program_linking.specs.Claims.{AreNewNames, file_name, file_kind}
use Rattle.program_linking.proofs.known.add_files.Given as goal

abbrev pub invariant-loop-f : goal.invariant-loop-f
invariant-loop-f l = record {
  new : AreNewNames l.names (map file_name (drop l.f-index l.files));
  names : l.names ++ map file_name (drop l.f-index l.files) ≡ l.initial.names ++ map file_name l.files;
  kinds : l.interfaces.items ++ map file_kind (drop l.f-index l.files) ≡ l.initial.interfaces.items ++ map file_kind l.files;
}
