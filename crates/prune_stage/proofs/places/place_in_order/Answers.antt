use Rattle.prune_stage.proofs.OrderedSites.{found_place, nowhere}
use Rattle.prune_stage.proofs.places.place_in_order.Goals as goal

pub returns-in-Ok : goal.returns-in-Ok
returns-in-Ok c = found_place c.args.sites.now c.requires c.args.site.now c.in-Ok.place c.in-Ok.ensures.bound c.in-Ok.ensures.position

pub returns-in-Err : goal.returns-in-Err
returns-in-Err c = nowhere c.args.sites.now c.requires c.args.site.now c.in-Err.field-0 c.in-Err.ensures.position
