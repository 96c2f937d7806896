use Rattle.std.proofs.Common.{ℕ, Option, sym, subst}
use Rattle.stage_transfer.specs.Exceptions.{catching, unwinding}
use Rattle.stage_flow.specs.Shapes.{leaving_by, Makes}
use Rattle.stage_flow.proofs.exceptions.leaving_by.Goals as goal

pub returns-in-None : goal.returns-in-None
returns-in-None g c w l n knows =
    subst (λ (h : Option ℕ). Makes w l n c.unwinding.result (leaving_by w l n c.args.op.now h)) (sym c.in-None.is)
    (subst (λ (v : Option ℕ). Makes w l n c.unwinding.result (unwinding v)) c.thrown_slot.ensures (c.unwinding.ensures w l n))

pub returns-in-Some : goal.returns-in-Some
returns-in-Some g c w l n knows =
    subst (λ (h : Option ℕ). Makes w l n c.catching.result (leaving_by w l n c.args.op.now h)) (sym c.in-Some.is)
    (subst (λ (v : Option ℕ). Makes w l n c.catching.result (catching w l n v)) c.thrown_slot-in-Some.ensures
    (c.catching.ensures w l n (c.locals.ensures w l n knows)))
