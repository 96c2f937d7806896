use Rattle.ground.proofs.SlotPlaces.{slot_found, slot_has, slot_unknown}
use Rattle.ground.proofs.ground.Ground.place_of_slot.Goals as goal

pub returns-clause-holder : goal.returns-clause-holder
returns-clause-holder c = slot_has c.args.self.now c.well_formed-2.ensures.methods c.args.at c.args.slot c.variable.result c.variable.ensures c.requires

pub returns-clause-found : goal.returns-clause-found
returns-clause-found c =
    slot_found c.args.self.now c.well_formed-2.ensures.methods c.args.at c.args.slot c.variable.result c.variable.ensures c.place_with.result c.place_with.ensures.found

pub returns-clause-none : goal.returns-clause-none
returns-clause-none c =
    slot_unknown c.args.self.now c.well_formed-2.ensures.methods c.args.at c.args.slot c.variable.result c.variable.ensures c.place_with.result c.place_with.ensures.none
