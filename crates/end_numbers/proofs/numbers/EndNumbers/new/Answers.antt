use Rattle.std.proofs.Common.{List, ℕ, sym, subst}
use Rattle.end_numbers.specs.KeyRows.{keys_from}
use Rattle.end_numbers.specs.Keys.{AreEndRows, ends_from}
use Rattle.end_numbers.proofs.Adding.{no_ends}
use Rattle.end_numbers.proofs.numbers.EndNumbers.new.Goals as goal

pub returns : goal.returns
unfolding ends_from keys_from
returns c = λ i. ends_from (c.new-2.ensures i) (keys_from (c.new.ensures i))

pub invariant_of-result : goal.invariant_of-result
invariant_of-result c = subst (λ (rows : List (List ℕ)). AreEndRows c.new-2.result.rows rows) (sym c.new.ensures) (no_ends c.new-2.result.rows)
