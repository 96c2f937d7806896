use Rattle.std.proofs.Common.{◌<◌, [], ◌∷◌, ◌++◌, length, refl, sym, ◌∙◌, arith}
use Rattle.std.proofs.lemmas.Option.{slice_get_read}
use Rattle.list_laws.proofs.Places.{front_more}
use Rattle.access_paths.proofs.KeyOrders.{same_is_one}
use Rattle.edge_steps.proofs.same.are_same_paths.Goals as goal

pub loop-at-preserved : goal.loop-at-preserved
loop-at-preserved c =
    let first = c.args.first.now in
    let second = c.args.second.now in
    let k = c.loop-at.at in
    let x = c.index-first-at.result in
    let y = c.index-second-at.result in
    let within : k < length second = omega arith in
    let one = same_is_one x y (sym c.is_same.ensures ∙ c.if-not-is_same.false) in
    record {
      same = front_more first k x (slice_get_read first (length first) k x refl c.loop-at-test.true c.index-first-at.is)
          ∙ (λ i. c.loop-at.invariant.same i ++ one i ∷ [])
          ∙ sym (front_more second k y (slice_get_read second (length second) k y refl within c.index-second-at.is));
    }
