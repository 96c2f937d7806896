use Rattle.std.proofs.Common.{◌≡◌, ◌<◌, ◌≤◌, List, Some, length, get_or, ap, subst, arith}
use Rattle.std.specs.List.{slice_get}
use Rattle.std.proofs.lemmas.Option.{slice_get-get_or}
use Rattle.least_sets.proofs.Places.{contains_at}
use Rattle.points_to_numbers.specs.declared.item.Item.{Item}
use Rattle.points_to_numbers.specs.declared.item.Item.TheVariants.{Holds}
use Rattle.points_to.proofs.QueueTurns.{all_done, one_turned, row_turned}
use Rattle.points_to.proofs.queue.Queue.next.Goals as goal

pub returns-then-self-len-clause-next : goal.returns-then-self-len-clause-next
returns-then-self-len-clause-next c =
    let q = c.args.self.now in
    let keys = q.others.keys in
    let seen = c.as_slice.result.now in
    let item = get_or seen q.done (Holds (record { 0 = 0 }) (record { 0 = 0 })) in
    let long = ap (λ (xs : List Item). length xs) c.as_slice.ensures.keys in
    let inside : q.done < length seen = omega arith in
    let at : slice_get keys q.done ≡ Some item = subst (λ (xs : List Item). slice_get xs q.done ≡ Some item) c.as_slice.ensures.keys (slice_get-get_or seen q.done (Holds (record { 0 = 0 }) (record { 0 = 0 })) inside) in
    let t = one_turned q.rows.rows.items keys q.done item c.requires.sound.apart (c.requires.sound.unpaired item (contains_at keys q.done item at)) at in
    record { held = t.held; still = t.still; split = t.split; now = t.now; fresh = t.fresh; more = omega arith }

pub returns-in-Some-clause-next : goal.returns-in-Some-clause-next
returns-in-Some-clause-next c =
    let q = c.args.self.now in
    let taken = c.in-Some.ensures.taken in
    let t = row_turned q.rows.rows.items c.take.new.self.rows.items q.others.keys q.done c.in-Some.fresh taken.sites taken.passes c.requires.sound.rows.within in
    record { held = t.held; still = t.still; split = t.split; now = t.now; fresh = t.fresh; more = (let more = taken.more in omega arith) }

pub returns-in-None-clause-next : goal.returns-in-None-clause-next
returns-in-None-clause-next c =
    let q = c.args.self.now in
    let done = c.in-None.ensures.taken in
    let past : length q.others.keys ≤ q.done = omega arith in
    record {
      same = (λ i. record { rows = done.rows i; others = q.others.keys; done = q.done });
      all = all_done c.take.new.self.rows.items q.others.keys q.done done.idle past;
    }
