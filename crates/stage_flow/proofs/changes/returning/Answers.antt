use Rattle.std.proofs.Common.{Some, sym, subst}
use Rattle.access_paths.specs.declared.root.Root.TheVariants.{Returned}
use Rattle.stage_transfer.specs.Operations.{returning}
use Rattle.stage_flow.specs.declared.gain.Gain.{Gain}
use Rattle.stage_flow.specs.declared.written.Written.TheVariants as slots
use Rattle.stage_flow.specs.Shapes.{Makes}
use Rattle.stage_flow.proofs.Made.{made_returning}
use Rattle.stage_flow.proofs.changes.returning.Goals as goal

pub returns : goal.returns
returns c w l n =
    subst (λ (g : Gain). Makes w l n (record { written = slots.All; leaving = Some Returned; gain = g }) (returning c.args.value))
    (sym c.copy_from.ensures) (made_returning w l n c.args.value)
