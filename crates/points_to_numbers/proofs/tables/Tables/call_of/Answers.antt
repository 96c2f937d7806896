use Rattle.std.proofs.Common.{◌≡◌, length, arith, refl, vec_len}
use Rattle.std.proofs.lemmas.Option.{slice_get_read}
use Rattle.points_to_numbers.specs.Kept.{kept}
use Rattle.points_to_numbers.proofs.Reading.{call_at, has_call}
use Rattle.points_to_numbers.proofs.tables.Tables.call_of.Goals as goal

pub index-requires : goal.index-requires
index-requires c =
    let within = has_call (kept c.self.inside) c.args.self.now c.self.view_is c.self.invariant c.args.call.0 c.requires in
    let long : vec_len c.self.inside.calls ≡ length c.self.inside.calls.items = omega arith in
    omega (arith, within, long)

pub returns : goal.returns
returns c =
    let within = has_call (kept c.self.inside) c.args.self.now c.self.view_is c.self.invariant c.args.call.0 c.requires in
    call_at (kept c.self.inside) c.args.self.now c.self.view_is c.self.invariant c.args.call.0 c.index.result.now (slice_get_read c.self.inside.calls.items _ c.args.call.0 c.index.result.now refl within c.index.ensures)
