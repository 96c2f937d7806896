use Rattle.std.proofs.Common.{◌≡◌, ◌++◌, drop}
use Rattle.program_linking.proofs.copies.copied_results.Given as goal

abbrev pub invariant-loop-returned : goal.invariant-loop-returned
invariant-loop-returned l = l.copies.items ++ (drop l.returned-index l.all) ≡ l.all
