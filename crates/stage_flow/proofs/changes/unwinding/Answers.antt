use Rattle.std.proofs.Common.{ℕ, Option, None, Some, sym, subst}
use Rattle.access_paths.specs.declared.root.Root.TheVariants.{Slot, Thrown}
use Rattle.stage_transfer.specs.Exceptions.{unwinding}
use Rattle.stage_flow.specs.declared.gain.Gain.TheVariants.{Copy, Nothing}
use Rattle.stage_flow.specs.declared.written.Written.TheVariants as slots
use Rattle.stage_flow.specs.Shapes.{Makes}
use Rattle.stage_flow.proofs.Made.{made_unwinding, made_unwinding_none}
use Rattle.stage_flow.proofs.changes.unwinding.Goals as goal

pub returns-in-None : goal.returns-in-None
returns-in-None c w l n =
    subst (λ (v : Option ℕ). Makes w l n (record { written = slots.All; leaving = None; gain = Nothing }) (unwinding v)) (sym c.in-None.is)
    (made_unwinding_none w l n)

pub returns-in-Some : goal.returns-in-Some
returns-in-Some c w l n =
    let z = c.in-Some.value in
    subst (λ (v : Option ℕ). Makes w l n (record { written = slots.All; leaving = Some Thrown; gain = Copy (Slot z) Thrown }) (unwinding v)) (sym c.in-Some.is)
    (made_unwinding w l n z)
