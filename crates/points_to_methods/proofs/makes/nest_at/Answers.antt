use Rattle.std.proofs.Common.{◌+◌, ◌<◌, length, refl, arith}
use Rattle.std.proofs.lemmas.Option.{slice_get_read}
use Rattle.points_to_methods.specs.Arrays.{NestsAt}
use Rattle.points_to_methods.proofs.MadeArrays.{nested_at, nested_last}
use Rattle.points_to_numbers.proofs.Making.{makes_none, makes_same}
use Rattle.points_to_methods.proofs.makes.nest_at.Goals as goal

pub returns-then-place-sites : goal.returns-then-place-sites
returns-then-place-sites c =
    makes_none c.args.work.now.tables (NestsAt c.args.sites.now c.args.place) c.args.work.now.steps.items
    (nested_last c.args.sites.now c.args.place c.if-place-sites.true)

pub returns : goal.returns
returns c =
    let sites = c.args.sites.now in
    let i = c.args.place in
    let more : i + 1 < length sites = omega arith in
    makes_same c.args.work.now.tables c.nest_site.new.work.tables _ (NestsAt sites i) c.args.work.now.steps.items c.nest_site.new.work.steps.items
    (nested_at sites i c.index-sites-place.result c.index-sites-place-2.result
    (slice_get_read sites (length sites) i c.index-sites-place.result refl c.requires c.index-sites-place.is)
    (slice_get_read sites (length sites) (i + 1) c.index-sites-place-2.result refl more c.index-sites-place-2.is))
    c.in_ok-nest_site.ensures
