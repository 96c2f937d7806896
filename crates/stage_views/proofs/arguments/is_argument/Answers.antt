use Rattle.std.proofs.Common.{sym, ◌∙◌}
use Rattle.stage_views.proofs.ArgumentSlots.{among_one}
use Rattle.stage_views.proofs.arguments.is_argument.Goals as goal

pub returns-then-is_slot : goal.returns-then-is_slot
returns-then-is_slot c = among_one c.args.slot c.args.arguments.now c.loop-argument.argument-index _ c.loop-argument-test.true (sym c.is_slot.ensures ∙ c.if-is_slot.true)
