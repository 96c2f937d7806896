use Rattle.ground.specs.Ordered.{site_number}
use Rattle.ground.proofs.AscendingNumbers.{nothing_ascends}
use Rattle.ground.proofs.ground.Ground.sites_of_slot.Goals as goal

pub returns-in-Some-clause-holder : goal.returns-in-Some-clause-holder
returns-in-Some-clause-holder c = c.in-Some.ensures.holder

pub returns-in-Some-clause-sites : goal.returns-in-Some-clause-sites
returns-in-Some-clause-sites c = λ h of. c.sites_at.ensures.sites h (c.in-Some.ensures.found h of)

pub returns-in-None-clause-holder : goal.returns-in-None-clause-holder
returns-in-None-clause-holder c = c.in-None.ensures.holder

pub returns-in-None-clause-sites : goal.returns-in-None-clause-sites
returns-in-None-clause-sites c = λ h of. c.in-None.ensures.none h of

pub returns-in-None-clause-ascend : goal.returns-in-None-clause-ascend
returns-in-None-clause-ascend c = nothing_ascends site_number
