use Rattle.stage_flow.proofs.Made.{made_loading}
use Rattle.stage_flow.proofs.changes.loading.Goals as goal

pub returns : goal.returns
returns c w l n = made_loading w l n c.args.object c.args.field c.args.target
