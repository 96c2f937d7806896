use Rattle.stage_slots.proofs.Knowing.{answered}
use Rattle.stage_slots.proofs.slots_at.SlotsAt.variable.Goals as goal

pub variable-requires : goal.variable-requires
variable-requires c = let has = c.self.invariant.0 in record { lowered = c.self.inside.method.now; stands = has.stands; within = has.within }

pub returns : goal.returns
returns c = λ w l n is. answered c.self.view_is c.self.invariant.0 w l n is c.args.slot c.variable.result c.variable.ensures
