use Rattle.std.proofs.Common.{◌<◌, ◌+◌, [], ◌∷◌, ◌++◌, length, Err, inl, inr, refl, ap, arith}
use Rattle.std.proofs.lemmas.Result.{err_from_is_err_and}
use Rattle.failure.specs.declared.Failure.TheVariants.{Cause}
use Rattle.program_index.specs.Limits.{too_many}
use Rattle.program_index.proofs.OrderPlaces.{stands_below}
use Rattle.program_index.proofs.SpelledKeys.{kept_error}
use Rattle.program_model.proofs.MembersTold.{key_shown, keys_added, places_added, many_added, many_places}
use Rattle.program_model.proofs.member_table.MemberTable.add_all.Goals as goal

pub returns-in_err-add-clause-too_many : goal.returns-in_err-add-clause-too_many
returns-in_err-add-clause-too_many g c = λ told.
    let ds = g.K.MemberKind.members c.args.origin.now in
    let class = c.args.class.0 in
    let place = c.loop-place.place in
    let start = c.args.self.now.index in
    let within : place < length ds = omega (arith, c.count-place-end.ensures) in
    let d = stands_below ds place within in
    let p = err_from_is_err_and c.from_residual.result c.from_residual.ensures.1 in
    let same = kept_error c.from_residual.result p.0 c.in_err-add.field-0.0 (Cause too_many) p.1 p.2 told in
    let longer = c.loop-place.self.index ++ key_shown c.view.result ∷ [] in
    elim (c.in_err-add.ensures.too_many (ap Err same)) [
      | inl far ↦ many_places class ds place start within far
      | inr many ↦ many_added class ds (place + 1) start longer
          (keys_added class ds place d.0 c.view.result start c.loop-place.self.index longer d.1 (c.view.ensures d.0 d.1) c.loop-place.invariant.keys refl) many
    ]

pub loop-place-preserved : goal.loop-place-preserved
loop-place-preserved g c =
    let ds = g.K.MemberKind.members c.args.origin.now in
    let class = c.args.class.0 in
    let place = c.loop-place.place in
    let view = c.view.result in
    let within : place < length ds = omega (arith, c.count-place-end.ensures) in
    let d = stands_below ds place within in
    let shown = c.view.ensures d.0 d.1 in
    record {
      keys = keys_added class ds place d.0 view c.args.self.now.index c.loop-place.self.index c.add.new.self.index d.1 shown c.loop-place.invariant.keys c.in_ok-add.ensures.key;
      places = places_added class d.0 view place c.args.self.now.places.items c.loop-place.self.places.items c.add.new.self.places.items
          shown c.loop-place.invariant.places c.in_ok-add.ensures.place;
    }
