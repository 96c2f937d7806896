use Rattle.prune_stage.proofs.NumberedPlaces.{placed, placed_nowhere}
use Rattle.prune_stage.proofs.places.place_of.Goals as goal

pub returns-in-Some : goal.returns-in-Some
returns-in-Some c =
    placed c.args.program.now c.args.site.now c.args.sites.now c.requires.known c.in-Some.tracked c.in-Some.ensures c.place_in_order.result
    c.place_in_order.ensures

pub returns-in-None : goal.returns-in-None
returns-in-None c = placed_nowhere c.args.program.now c.args.site.now c.args.sites.now c.requires.known c.in-None.ensures
