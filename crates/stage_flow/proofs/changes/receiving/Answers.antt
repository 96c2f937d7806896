use Rattle.std.proofs.Common.{refl}
use Rattle.stage_flow.specs.declared.written.Written.TheVariants as slots
use Rattle.stage_flow.proofs.Made.{made_receiving}
use Rattle.stage_flow.proofs.changes.receiving.Goals as goal

pub returns : goal.returns
returns c w l n = made_receiving w l n (slots.ByCall c.args.call) c.args.call.now c.hand_from.result refl c.hand_from.ensures
