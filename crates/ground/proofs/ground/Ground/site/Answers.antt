use Rattle.std.proofs.Common.{◌≡◌, arith, length, refl, vec_len}
use Rattle.std.proofs.lemmas.Option.{slice_get_read}
use Rattle.ground.proofs.Views.{site_at, site_within}
use Rattle.ground.proofs.ground.Ground.site.Goals as goal

pub index-requires : goal.index-requires
index-requires c =
    let within = site_within c.self.inside.program.now c.self.inside.lists c.args.self.now c.self.view_is c.args.site.0 c.requires in
    let long : vec_len c.self.inside.lists.sites ≡ length c.self.inside.lists.sites.items = omega arith in
    omega (arith, within, long)

pub returns : goal.returns
returns c =
    let within = site_within c.self.inside.program.now c.self.inside.lists c.args.self.now c.self.view_is c.args.site.0 c.requires in
    site_at c.self.inside.program.now c.self.inside.lists c.args.self.now c.self.view_is c.args.site.0 c.index.result.now (slice_get_read c.self.inside.lists.sites.items _ c.args.site.0 c.index.result.now refl within c.index.ensures)
