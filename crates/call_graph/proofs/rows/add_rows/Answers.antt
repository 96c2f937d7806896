use Rattle.std.proofs.Common.{◌<◌, length, refl, arith}
use Rattle.std.proofs.lemmas.Option.{slice_get_read}
use Rattle.call_graph.proofs.RowSites.{no_rows, row_added, rows_added}
use Rattle.call_graph.proofs.rows.add_rows.Goals as goal

pub loop-place-init : goal.loop-place-init
loop-place-init c = record { added = no_rows c.args.rows.now.items c.args.sites.now.groups.items }

pub loop-place-preserved : goal.loop-place-preserved
loop-place-preserved c =
    let rows = c.args.rows.now.items in
    let k = c.loop-place.place in
    let row = c.index-row.result.now in
    let within : k < length rows = omega arith in
    record {
      added = row_added rows k row c.args.sites.now.groups.items c.loop-place.sites.groups.items c.add_sites.new.sites.groups.items (slice_get_read rows (length rows) k row refl within c.index-row.ensures)
          c.loop-place.invariant.added c.in_ok-add_sites.ensures;
    }

pub returns : goal.returns
returns c = rows_added c.args.rows.now.items c.loop-place.place c.args.sites.now.groups.items c.loop-place.sites.groups.items (omega arith) c.loop-place.invariant.added
