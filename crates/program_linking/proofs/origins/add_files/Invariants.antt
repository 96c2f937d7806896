use Rattle.std.proofs.Common.{◌≡◌, ◌++◌, map}
use Rattle.jvm_model.specs.Linking.{folder_origin}
use Rattle.program_linking.proofs.origins.add_files.Given as goal

abbrev pub invariant-loop-f : goal.invariant-loop-f
invariant-loop-f l = l.all.items ≡ l.initial.all.items ++ map (folder_origin l.patches) l.yielded
