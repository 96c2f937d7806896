use Rattle.program_index.proofs.Marks.{marked_none}
use Rattle.program_index.proofs.class_set.ClassSet.new.Goals as goal

pub invariant_of-result : goal.invariant_of-result
invariant_of-result c = rw (c.in_ok-marks.ensures.items_if_clones_equal (λ y e. e), c.new-items.ensures.items) (marked_none c.args.size)
