use Rattle.std.proofs.Common.{rules}
use Rattle.std.specs.Ordering.{nat_cmp, is_lt}
use Rattle.std.specs.Cmp.Lexicographic.{slice_cmp}
use Rattle.std.proofs.lemmas.Cmp.{nat_list_cmp_total}
use Rattle.std.proofs.lemmas.List.MinMax.{ranks_by}
use Rattle.std.proofs.lemmas.List.Sorted.{answers_always}
use Rattle.program_linking.proofs.LinkSteps.{IsSorted-map}
use Rattle.jvm_model.specs.declared.program.Origin.{Origin}
use Rattle.jvm_model.specs.Linking.{class_from}
use Rattle.program_linking.proofs.link.put_in_order.Goals as goal

pub returns : goal.returns
returns c = record {
  same = c.sort_unstable_by.ensures.permutation;
  sorted = IsSorted-map (λ (o : Origin). (class_from o).name) (slice_cmp nat_cmp) c.sort_unstable_by.new.self.items
      (c.sort_unstable_by.ensures.sorted (λ (x y : Origin). is_lt (slice_cmp nat_cmp (class_from x).name (class_from y).name)) (ranks_by nat_list_cmp_total (λ (o : Origin). (class_from o).name))
      (answers_always _ _ _ (λ f a r g h. search rules)));
}
