use Rattle.points_to_numbers.proofs.Adding.{OfOneBelow}
use Rattle.points_to_numbers.specs.Steps.{Makes}
use Rattle.points_to_methods.specs.Arrays.{NestsAt}
use Rattle.points_to_methods.proofs.makes.nest_sites.Given as goal

abbrev pub invariant-loop-place : goal.invariant-loop-place
invariant-loop-place l = Makes l.fn.work.tables l.work.tables (OfOneBelow (NestsAt l.sites) l.place) l.fn.work.steps.items l.work.steps.items
