use Rattle.std.proofs.Common.{◌<◌, get_or, length, refl, arith}
use Rattle.std.proofs.lemmas.Option.{slice_get-get_or}
use Rattle.prune_stage.proofs.Marking.{marked_one}
use Rattle.prune_stage.proofs.marked_sites.mark_at.Goals as goal

pub returns : goal.returns
returns c =
    let sets = c.args.sets.now in
    let place = c.args.place in
    let before = get_or sets place c.index-sets-place.result in
    let at = slice_get-get_or sets place c.index-sets-place.result c.requires.place in
    let fits : c.args.event < length before.occurs = omega (arith, before.size, c.requires.event) in
    marked_one sets _ place c.args.event before c.add.new.self at refl c.add.ensures c.requires.place fits
