use Rattle.std.proofs.lemmas.Result.{on_ok_weaker}
use Rattle.ground.proofs.ExactKeys.{same_calls, tells_calls}
use Rattle.certificate_ground.proofs.PairTables.{has_number, pair_added}
use Rattle.certificate_ground.proofs.targets.add_target.Goals as goal

pub returns : goal.returns
returns c =
    let old = c.args.targets.now in
    let keys = c.insert_full.new.self.keys in
    let number = c.in_ok-number.number in
    let insert = c.in_ok-number.ensures in
    let has = has_number same_calls tells_calls old.calls.keys keys c.args.call number insert.keys insert.stored insert.unique in
    on_ok_weaker c.add_at.result (λ put. pair_added old.calls.keys keys old.targets.groups.items c.add_at.new.self.groups.items c.args.call c.args.target number has put) c.add_at.ensures.put
