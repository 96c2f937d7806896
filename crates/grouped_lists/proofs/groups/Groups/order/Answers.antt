use Rattle.std.proofs.Common.{◌<◌, ◌≤◌, length, refl, ◌∙◌, arith}
use Rattle.std.proofs.Math.ListN.{length-set}
use Rattle.std.proofs.lemmas.Option.{slice_get_read}
use Rattle.grouped_lists.proofs.OrderedValues.{all_ordered, none_ordered, one_more_ordered}
use Rattle.grouped_lists.proofs.groups.Groups.order.Goals as goal

pub loop-number-init : goal.loop-number-init
loop-number-init g c = record { done = none_ordered g.V.PartialEq.eq g.V.Ord.cmp _; long = refl }

pub loop-number-preserved : goal.loop-number-preserved
loop-number-preserved g c =
    let items = c.loop-number.self.groups.items in
    let within : c.loop-number.number < length items = omega (arith, c.loop-number.invariant.long) in
    record {
      done = one_more_ordered g.V.PartialEq.eq g.V.Ord.cmp c.args.self.now.groups.items items c.loop-number.number c.index_mut.result.now c.order_values.new.values
          c.loop-number.invariant.done within
          (slice_get_read items (length items) c.loop-number.number c.index_mut.result.now refl within c.index_mut.ensures.value) c.order_values.ensures;
      long = length-set items c.loop-number.number c.order_values.new.values ∙ c.loop-number.invariant.long;
    }

pub returns : goal.returns
returns g c =
    let all : length c.args.self.now.groups.items ≤ c.loop-number.number = omega arith in
    all_ordered g.V.PartialEq.eq g.V.Ord.cmp c.args.self.now.groups.items c.loop-number.self.groups.items c.loop-number.number all c.loop-number.invariant.done
