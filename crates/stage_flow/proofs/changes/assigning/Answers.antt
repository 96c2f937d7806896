use Rattle.std.proofs.Common.{refl}
use Rattle.stage_flow.specs.declared.change.PathChange.{PathChange}
use Rattle.stage_flow.specs.declared.gain.Gain.TheVariants.{Moves}
use Rattle.stage_flow.specs.declared.written.Written.TheVariants as slots
use Rattle.std.proofs.Common.{None}
use Rattle.stage_flow.proofs.Made.{made_assigning}
use Rattle.stage_flow.proofs.changes.assigning.Goals as goal

pub returns : goal.returns
returns c w l n =
    let code : PathChange = record { written = slots.Targets c.args.moves; leaving = None; gain = Moves c.args.moves } in
    made_assigning w l n code c.args.moves.now (λ z there. there) refl refl (λ z. refl)
