use Rattle.std.proofs.Common.{◌≡◌, length, take}
use Rattle.std.specs.List.{All}
use Rattle.program_index.specs.AboveLists.{IsListed}
use Rattle.program_index.proofs.above.above_lists.Given as goal

-- the classes of the order so far have their lists
abbrev pub invariant-loop-class : goal.invariant-loop-class
invariant-loop-class l = record {
  size : l.gathered.size ≡ length l.parents;
  count : length l.lists.items ≡ length l.parents;
  listed : All (IsListed l.parents l.lists.items) (take l.class-index l.order);
}
