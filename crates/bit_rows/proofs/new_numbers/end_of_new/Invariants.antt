use Rattle.std.proofs.Common.{◌≡◌, ℕ, ◌<◌, ◌≤◌}
use Rattle.bit_rows.specs.SetWords.{new_word}
use Rattle.bit_rows.proofs.new_numbers.end_of_new.Given as goal

-- No word from this end on has a new bit.
abbrev pub invariant-loop-end : goal.invariant-loop-end
invariant-loop-end l = record {
  above : l.low < l.end;
  within : l.end ≤ l.initial.end;
  none : (k : ℕ) → l.end ≤ k → k < l.initial.end → new_word l.held l.offered l.mask k ≡ 0;
}

abbrev pub decreases-loop-end : goal.decreases-loop-end
decreases-loop-end l = l.end
