use Rattle.std.proofs.Common.{nat_eq, sym, ap, ◌∙◌}
use Rattle.std.proofs.lemmas.Bool.{eq-eqb, ne_eqb}
use Rattle.op_model.specs.declared.op.Move.{Move}
use Rattle.slot_names.specs.Variables.{effect_of_move}
use Rattle.points_to_methods.proofs.FoundMoves.{first_found, none_more}
use Rattle.points_to_methods.proofs.effects.effect_of_moves.Goals as goal

pub returns-then-next-slot : goal.returns-then-next-slot
returns-then-next-slot c =
    let found = first_found (λ (m : Move). nat_eq m.target c.args.slot) c.args.moves.now c.loop-next.next-index _ c.loop-next-test.true c.loop-next.invariant (eq-eqb _ _ c.if-next-slot.true) in
    c.effect_of_source.ensures ∙ sym (ap effect_of_move found)

pub loop-next-preserved : goal.loop-next-preserved
loop-next-preserved c = none_more (λ (m : Move). nat_eq m.target c.args.slot) c.args.moves.now c.loop-next.next-index _ c.loop-next-test.true c.loop-next.invariant (ne_eqb _ _ c.if-next-slot.false)
