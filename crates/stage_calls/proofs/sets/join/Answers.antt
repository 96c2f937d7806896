use Rattle.std.proofs.Common.{ℕ, ◌+◌, ◌<◌, List, ◌++◌, map, ap, subst, ◌∙◌, arith}
use Rattle.std.specs.List.{filter, range_with_len}
use Rattle.stage_views.specs.Views.{Gathers}
use Rattle.stage_calls.specs.Testing.{bare_slot, is_like}
use Rattle.stage_calls.proofs.SlotTests.{alike_slots}
use Rattle.stage_calls.proofs.sets.join.Goals as goal

pub returns-then-slot-count : goal.returns-then-slot-count
returns-then-slot-count g c w l n before knows initial =
    let slot = c.args.slot in
    let count = c.slots-count.ensures w l n knows in
    let inside : slot < l.slots + l.stack = omega (arith, count, c.if-slot-count.true) in
    subst (λ (zs : List ℕ). Gathers c.join_shared.new.gathering (before ++ map bare_slot zs))
    (ap (λ (k : ℕ). filter (is_like w l n slot) (range_with_len 0 k)) count ∙ alike_slots w l n slot inside)
    (c.join_shared.ensures w l n before knows initial)
