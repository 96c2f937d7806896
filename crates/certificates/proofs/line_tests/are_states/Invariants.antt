use Rattle.std.proofs.Common.{◌≡◌, drop, nat_lt}
use Rattle.std.specs.List.{list_all}
use Rattle.certificates.proofs.line_tests.are_states.Given as goal

abbrev pub invariant-loop-state : goal.invariant-loop-state
invariant-loop-state l = list_all (λ q. nat_lt q l.states) (drop l.state-index l.next) ≡ list_all (λ q. nat_lt q l.states) l.next
