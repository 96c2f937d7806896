use Rattle.stage_flow.specs.declared.written.Written.TheVariants as slots
use Rattle.stage_flow.proofs.Made.{made_writing}
use Rattle.stage_flow.proofs.changes.writing_two.Goals as goal

pub returns : goal.returns
returns c w l n = made_writing w l n (slots.Two c.args.first c.args.second)
