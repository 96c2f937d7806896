use Rattle.stage_flow.proofs.Made.{made_static_load}
use Rattle.stage_flow.proofs.changes.loading_static.Goals as goal

pub returns : goal.returns
returns c w l n = made_static_load w l n c.args.field c.args.target
