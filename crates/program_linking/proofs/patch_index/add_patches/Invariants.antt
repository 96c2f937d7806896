use Rattle.std.proofs.Common.{◌+◌, ◌≤◌, length, filter, take, drop}
use Rattle.program_linking.specs.Patching.{is_patch_stub}
use Rattle.program_linking.specs.PatchLists.{lent_lists, AreListed}
use Rattle.program_linking.proofs.patch_index.add_patches.Given as goal

abbrev pub invariant-loop-stub : goal.invariant-loop-stub
invariant-loop-stub l = record {
  listed : AreListed (take l.stub-index l.stubs) l.names (lent_lists l.lists.items);
  few : length l.names + length (filter is_patch_stub (drop l.stub-index l.stubs)) ≤ length (filter is_patch_stub l.stubs);
}
