use Rattle.stage_flow.proofs.Made.{made_static_store}
use Rattle.stage_flow.proofs.changes.storing_static.Goals as goal

pub returns : goal.returns
returns c w l n = made_static_store w l n c.args.field c.args.value
