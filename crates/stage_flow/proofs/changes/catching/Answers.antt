use Rattle.std.proofs.Common.{Some, sym, subst}
use Rattle.access_paths.specs.declared.root.Root.{Root}
use Rattle.access_paths.specs.declared.root.Root.TheVariants.{Thrown}
use Rattle.stage_transfer.specs.Exceptions.{catching}
use Rattle.stage_flow.specs.declared.gain.Gain.TheVariants.{Hand}
use Rattle.stage_flow.specs.declared.written.Written.TheVariants as slots
use Rattle.stage_flow.specs.Shapes.{Makes}
use Rattle.stage_flow.proofs.Made.{made_catching}
use Rattle.stage_flow.proofs.changes.catching.Goals as goal

pub returns : goal.returns
returns c w l n is =
    subst (λ (r : Root). Makes w l n (record { written = slots.From c.args.locals; leaving = Some Thrown; gain = Hand r c.args.locals }) (catching w l n c.args.value))
    (sym c.thrown_root.ensures) (made_catching w l n c.args.locals c.args.value is)
