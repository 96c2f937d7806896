use Rattle.std.proofs.Common.{◌<◌, length, refl, sym, ap, ◌∙◌, arith}
use Rattle.std.proofs.lemmas.Option.{slice_get_past, slice_get_read}
use Rattle.site_rows.specs.Rows.{fresh_in}
use Rattle.site_rows.proofs.Setting.{passed_here, passed_nowhere}
use Rattle.site_rows.proofs.places.take_fresh.Goals as goal

pub returns-then-place-len-clause-passes : goal.returns-then-place-len-clause-passes
returns-then-place-len-clause-passes c =
    passed_nowhere c.args.rows.now.items c.args.place (ap fresh_in (slice_get_past c.args.rows.now.items c.args.place (omega arith)))

pub returns-clause-given : goal.returns-clause-given
returns-clause-given c =
    let rows = c.args.rows.now.items in
    let row = c.index_mut-row.result.now in
    let within : c.args.place < length rows = omega arith in
    let stands = slice_get_read rows (length rows) c.args.place row refl within c.index_mut-row.ensures.value in
    c.take.ensures.given ∙ sym (ap fresh_in stands)

pub returns-clause-passes : goal.returns-clause-passes
returns-clause-passes c =
    let rows = c.args.rows.now.items in
    let row = c.index_mut-row.result.now in
    let within : c.args.place < length rows = omega arith in
    let stands = slice_get_read rows (length rows) c.args.place row refl within c.index_mut-row.ensures.value in
    passed_here rows c.args.place row (record { held = row.held; fresh = c.take.new.self }) within stands refl c.take.ensures.left
