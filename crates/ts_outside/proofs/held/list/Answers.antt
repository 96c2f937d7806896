use Rattle.std.proofs.Common.{string_bytes, nat_cmp}
use Rattle.std.specs.Cmp.Lexicographic.{slice_cmp}
use Rattle.std.proofs.lemmas.List.Sorted.{IsPermutation-map}
use Rattle.ts_outside.proofs.HeldLemmas.{IsSorted-map}
use Rattle.ts_outside.proofs.held.list.Goals as goal

pub returns : goal.returns
returns c = record {
  each = rw c.in_ok-names.ensures at (IsPermutation-map string_bytes _ _ c.sort.ensures.permutation);
  order = IsSorted-map string_bytes (slice_cmp nat_cmp) _ c.in_ok-sort.ensures.sorted;
}
