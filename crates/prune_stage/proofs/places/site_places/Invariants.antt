use Rattle.prune_stage.proofs.NumberedPlaces.{ArePlacesUpTo}
use Rattle.prune_stage.proofs.places.site_places.Given as goal

abbrev pub invariant-loop-number : goal.invariant-loop-number
invariant-loop-number l = record { places : ArePlacesUpTo l.program l.ground.sites l.sites l.places.items l.number }
