use Rattle.std.proofs.Common.{ℕ, List, Vec, Global, sym, subst}
use Rattle.std.specs.List.{AllZip}
use Rattle.program_index.specs.AboveLists.{IsSortedCopy, AreSortedAbove}
use Rattle.program_index.proofs.Reaching.{sorted_above}
use Rattle.unit_tests.proofs.linked.order.look_at_ladder.Goals as goal

-- the copies are those of the lists
pub look_at_tests-requires-clause-lists : goal.look_at_tests-requires-clause-lists
look_at_tests-requires-clause-lists g c =
    subst (AreSortedAbove c.args.parents.now) (sym c.deref-2.ensures.value)
    (sorted_above c.args.parents.now c.in_ok-lists.lists.items c.in_ok-sorted_lists.field-0.items c.in_ok-lists.ensures
    (subst (λ (xs : List (Vec ℕ Global)). AllZip IsSortedCopy xs c.in_ok-sorted_lists.field-0.items) c.deref.ensures.value c.in_ok-sorted_lists.ensures))
