use Rattle.std.proofs.Common.{refl}
use Rattle.std.proofs.lemmas.Option.{none-some}
use Rattle.prune_stage.proofs.MarkedCalls.{no_place, site_marked}
use Rattle.prune_stage.proofs.marked_sites.mark_site.Goals as goal

pub mark_at-requires-clause-place : goal.mark_at-requires-clause-place
mark_at-requires-clause-place c = c.requires.below.each c.args.site.0 c.in-Some.place ((c.in-Some.ensures c.in-Some.place).0 refl)

pub returns-in-Some : goal.returns-in-Some
returns-in-Some c =
    site_marked c.args.places.now c.args.event c.args.site c.in-Some.place ((c.in-Some.ensures c.in-Some.place).0 refl) c.args.sets.now
    c.mark_at.new.sets c.mark_at.ensures

pub returns-in-None : goal.returns-in-None
returns-in-None c = no_place c.args.places.now c.args.event c.args.site (λ place at. none-some place ((c.in-None.ensures place).1 at)) c.args.sets.now
