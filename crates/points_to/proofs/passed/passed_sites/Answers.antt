use Rattle.std.proofs.Common.{◌<◌, length, refl, arith}
use Rattle.std.proofs.lemmas.Option.{slice_get_past, slice_get_read}
use Rattle.points_to.proofs.ListedSites.{nowhere_listed, somewhere_listed}
use Rattle.points_to.proofs.passed.passed_sites.Goals as goal

pub returns-then-place-len : goal.returns-then-place-len
returns-then-place-len c = nowhere_listed c.args.rows.now.items c.args.place (slice_get_past c.args.rows.now.items c.args.place (omega arith)) c.new.result.items c.new.ensures.items

pub returns : goal.returns
returns c =
    let rows = c.args.rows.now.items in
    let row = c.index-row.result.now in
    let within : c.args.place < length rows = omega arith in
    somewhere_listed rows c.args.place row (slice_get_read rows (length rows) c.args.place row refl within c.index-row.ensures) c.sites_but.result c.sites_but.ensures
