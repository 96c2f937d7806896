use Rattle.std.proofs.Common.{ℕ, sym, ap, ◌∙◌}
use Rattle.std.specs.List.{slice_get}
use Rattle.std.specs.Option.{option_flatten}
use Rattle.node_ways.proofs.Describing.{has_unit, unit_is}
use Rattle.node_ways.proofs.described.argument_slot.Goals as goal

pub returns-in-Some : goal.returns-in-Some
returns-in-Some c = λ parameters of.
    let stub = c.args.stub.now in
    let unit = unit_is stub c.args.argument c.in-Some.unit c.in-Some.ensures parameters of in
    c.slot_at.ensures ∙ ap (λ (u : ℕ). option_flatten (slice_get c.args.call.now.arguments u)) (sym unit)

pub returns-in-None : goal.returns-in-None
returns-in-None c = λ parameters of. absurd (c.in-None.ensures _ (has_unit c.args.stub.now c.args.argument parameters of))
