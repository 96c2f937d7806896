use Rattle.std.proofs.lemmas.Result.{on_ok_weaker}
use Rattle.ground.proofs.SlotPlaces.{tells_places}
use Rattle.points_to_rules.proofs.ExactPlaces.{same_places}
use Rattle.certificate_ground.proofs.PairTables.{has_number, pair_added}
use Rattle.certificate_ground.proofs.held.add_pair.Goals as goal

pub returns-clause-pairs : goal.returns-clause-pairs
returns-clause-pairs c =
    let old = c.args.held.now in
    let keys = c.insert_full.new.self.keys in
    let number = c.in_ok-number.number in
    let insert = c.in_ok-number.ensures in
    let has = has_number same_places tells_places old.places.keys keys c.args.place number insert.keys insert.stored insert.unique in
    on_ok_weaker c.add_at.result (λ put. pair_added old.places.keys keys old.sites.groups.items c.add_at.new.self.groups.items c.args.place c.args.site number has put) c.add_at.ensures.put
