use Rattle.std.proofs.Common.{◌≡◌, None, nat_eq, find, take}
use Rattle.op_model.specs.declared.op.Move.{Move}
use Rattle.points_to_methods.proofs.effects.effect_of_moves.Given as goal

-- none of the moves so far is of the slot
abbrev pub invariant-loop-next : goal.invariant-loop-next
invariant-loop-next l = find (λ (m : Move). nat_eq m.target l.slot) (take l.next-index l.moves) ≡ None
