use Rattle.std.proofs.Common.{sym}
use Rattle.stage_calls.proofs.left_out.is_left_out.Goals as goal

pub returns-in-Slot : goal.returns-in-Slot
returns-in-Slot g c w l n exit knows = c.is_slot_left_out.ensures w l n exit knows (sym c.in-Slot.ensures)
