use Rattle.stage_slots.proofs.Knowing.{held, none_held}
use Rattle.stage_slots.proofs.slots_at.SlotsAtNodeSlots.may_refer.Goals as goal

pub returns-in-Some : goal.returns-in-Some
returns-in-Some c = λ w l n is.
    held c.self.view_is c.self.invariant.0 w l n is c.args.slot c.holds.result (λ h s of at. c.holds.ensures h s (c.in-Some.ensures.found h of) at)

pub returns-in-None : goal.returns-in-None
returns-in-None c = λ w l n is. none_held c.self.view_is c.self.invariant.0 w l n is c.args.slot c.in-None.ensures.none
