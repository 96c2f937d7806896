use Rattle.std.proofs.Common.{◌≡◌, length, arith, refl, vec_len}
use Rattle.std.proofs.lemmas.Option.{slice_get_read}
use Rattle.points_to_numbers.specs.Kept.{kept}
use Rattle.points_to_numbers.proofs.Reading.{catch_chain_at, has_catch_chain}
use Rattle.points_to_numbers.proofs.tables.Tables.catch_chain_of.Goals as goal

pub index-requires : goal.index-requires
index-requires c =
    let within = has_catch_chain (kept c.self.inside) c.args.self.now c.self.view_is c.self.invariant c.args.catch_chain.0 c.requires in
    let long : vec_len c.self.inside.catch_chains ≡ length c.self.inside.catch_chains.items = omega arith in
    omega (arith, within, long)

pub returns : goal.returns
returns c =
    let within = has_catch_chain (kept c.self.inside) c.args.self.now c.self.view_is c.self.invariant c.args.catch_chain.0 c.requires in
    catch_chain_at (kept c.self.inside) c.args.self.now c.self.view_is c.self.invariant c.args.catch_chain.0 c.index.result.now (slice_get_read c.self.inside.catch_chains.items _ c.args.catch_chain.0 c.index.result.now refl within c.index.ensures)
