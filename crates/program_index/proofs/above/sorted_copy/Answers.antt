use Rattle.std.proofs.Common.{ℕ, List, IsPermutation, subst, ◌∙◌}
use Rattle.std.proofs.lemmas.List.Sorted.{IsNonDecreasingBy-from_sort}
use Rattle.program_index.proofs.above.sorted_copy.Goals as goal

pub returns : goal.returns
returns c = record {
  moved = subst (λ (xs : List ℕ). IsPermutation xs c.sort_unstable.new.self.items) (c.in_ok-copy.ensures.items ∙ c.deref.ensures.value) c.sort_unstable.ensures.permutation;
  ascending = IsNonDecreasingBy-from_sort (λ (x : ℕ). x) c.sort_unstable.new.self.items c.sort_unstable.ensures.sorted;
}
