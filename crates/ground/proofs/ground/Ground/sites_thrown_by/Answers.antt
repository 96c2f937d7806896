use Rattle.std.proofs.Common.{None, sym}
use Rattle.std.proofs.lemmas.Option.{none-some}
use Rattle.points_to_rules.specs.declared.place.Place.TheVariants.{Thrown}
use Rattle.points_to_rules.specs.Facts.{thrown_by}
use Rattle.points_to_rules.proofs.ExactPlaces.{same_places}
use Rattle.ground.specs.Ordered.{site_number}
use Rattle.ground.proofs.AscendingNumbers.{nothing_ascends}
use Rattle.ground.proofs.KeySets.{only_at, stands_at}
use Rattle.ground.proofs.SlotPlaces.{tells_places}
use Rattle.ground.proofs.ThrownPlaces.{thrown_at, thrown_there}
use Rattle.ground.proofs.Views.{none_listed}
use Rattle.ground.proofs.ground.Ground.sites_thrown_by.Goals as goal

pub returns-in-Some-clause-sites : goal.returns-in-Some-clause-sites
returns-in-Some-clause-sites c =
    let keys = c.self.inside.lists.places.keys in
    let at = thrown_at c.self.inside.program.now c.self.inside.lists c.args.self.now c.self.view_is c.self.invariant.sound c.in-Some.number c.args.method
    (stands_at same_places tells_places keys (Thrown c.args.method) c.in-Some.number (sym c.in-Some.ensures.index)) in
    c.sites_at.ensures.sites (thrown_by c.args.method) at

pub returns-in-None-clause-sites : goal.returns-in-None-clause-sites
returns-in-None-clause-sites c =
    let keys = c.self.inside.lists.places.keys in
    none_listed c.self.inside.program.now c.self.inside.lists c.args.self.now c.self.view_is c.self.invariant.sound (thrown_by c.args.method)
    (λ there.
    let (number, at) = thrown_there c.self.inside.program.now c.self.inside.lists c.args.self.now c.self.view_is c.self.invariant.sound c.args.method there in
    none-some number (only_at same_places tells_places keys c.len-count.ensures.unique (Thrown c.args.method) None c.in-None.ensures.index c.in-None.ensures.found number at))

pub returns-in-None-clause-ascend : goal.returns-in-None-clause-ascend
returns-in-None-clause-ascend c = nothing_ascends site_number
