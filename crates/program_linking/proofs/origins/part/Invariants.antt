use Rattle.std.proofs.Common.{◌≡◌, filter}
use Rattle.jvm_model.specs.Linking.{own_classes}
use Rattle.program_linking.specs.Patching.{is_patch_stub}
use Rattle.program_linking.proofs.origins.part.Given as goal

abbrev pub invariant-loop-c : goal.invariant-loop-c
invariant-loop-c l = record {
  own : l.own.items ≡ own_classes l.yielded;
  patches : l.patches.items ≡ filter is_patch_stub l.yielded;
}
