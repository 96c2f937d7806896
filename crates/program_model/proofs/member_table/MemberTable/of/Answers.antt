use Rattle.std.proofs.Common.{◌<◌, ◌+◌, ◌++◌, List, length, map, take, Err, refl, sym, ap, subst, arith}
use Rattle.std.specs.List.{flat_map}
use Rattle.std.proofs.lemmas.Option.{slice_get_read}
use Rattle.std.proofs.lemmas.Result.{err_from_is_err_and}
use Rattle.failure.specs.declared.Failure.TheVariants.{Cause}
use Rattle.program_index.specs.Limits.{too_many}
use Rattle.program_index.specs.MemberKeys.{Key}
use Rattle.program_index.proofs.SpelledKeys.{kept_error}
use Rattle.program_model.specs.declared.member_table.MemberPlace.{MemberPlace}
use Rattle.program_model.specs.MemberLists.{IsKeyOf, IsPlaceOf, TellEach, key_in}
use Rattle.program_model.proofs.MembersTold.{keys_more, many_members, places_more}
use Rattle.program_model.proofs.member_table.MemberTable.of.Goals as goal

pub returns-in_err-add_all-clause-too_many : goal.returns-in_err-add_all-clause-too_many
returns-in_err-add_all-clause-too_many g c = λ told.
    let members = g.K.MemberKind.members in
    let order = c.args.order.now in
    let class = c.loop-class.class in
    let origin = c.index-order-class.result in
    let within : class < length order = omega arith in
    let there = slice_get_read order (length order) class origin refl within c.index-order-class.is in
    let p = err_from_is_err_and c.from_residual.result c.from_residual.ensures.1 in
    let same = kept_error c.from_residual.result p.0 c.in_err-add_all.field-0.0 (Cause too_many) p.1 p.2 told in
    let longer = keys_more members order class origin there c.loop-class.table.index c.loop-class.invariant.told_by_keys in
    many_members members order (class + 1) (c.loop-class.table.index ++ map (key_in class) (members origin)) longer (c.in_err-add_all.ensures.too_many (ap Err same))

pub loop-class-preserved : goal.loop-class-preserved
loop-class-preserved g c =
    let members = g.K.MemberKind.members in
    let order = c.args.order.now in
    let class = c.loop-class.class in
    let origin = c.index-order-class.result in
    let front = take (class + 1) order in
    let within : class < length order = omega arith in
    let there = slice_get_read order (length order) class origin refl within c.index-order-class.is in
    let added = c.in_ok-add_all.ensures in
    record {
      told_by_keys = subst (λ (keys : List Key). TellEach (IsKeyOf members front) (flat_map members front) keys) (sym added.keys)
          (keys_more members order class origin there c.loop-class.table.index c.loop-class.invariant.told_by_keys);
      told_by_places = subst (λ (places : List MemberPlace). TellEach (IsPlaceOf members front) (flat_map members front) places) (sym added.places)
          (places_more members order class origin there c.loop-class.table.places.items c.loop-class.invariant.told_by_places);
    }
