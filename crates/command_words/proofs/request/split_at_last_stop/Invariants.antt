use Rattle.std.proofs.Common.{◌≡◌, true, drop, not, ◌==◌}
use Rattle.std.specs.List.{list_all}
use Rattle.command_words.proofs.request.split_at_last_stop.Given as goal

abbrev pub invariant-loop-stop : goal.invariant-loop-stop
invariant-loop-stop l = list_all (λ b. not (b == 46)) (drop l.stop l.word) ≡ true
