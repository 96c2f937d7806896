use Rattle.std.proofs.Common.{List, nat_eq, find, sym, ap, ◌∙◌}
use Rattle.op_model.specs.declared.op.Move.{Move}
use Rattle.op_model.specs.declared.op.Op.{Op}
use Rattle.slot_names.specs.Variables.{effect_of_move, effect_on}
use Rattle.points_to_methods.proofs.effects.effect_on.Goals as goal

pub returns-in-Assign : goal.returns-in-Assign
returns-in-Assign c =
    let slot = c.args.slot in
    c.effect_of_moves.ensures
    ∙ ap (λ (ms : List Move). effect_of_move (find (λ (m : Move). nat_eq m.target slot) ms)) c.as_slice.ensures
    ∙ sym (ap (λ (o : Op). effect_on slot o) c.in-Assign.is)
