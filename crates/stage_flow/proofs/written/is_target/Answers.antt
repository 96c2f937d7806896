use Rattle.std.proofs.Common.{nat_eq, sym, ◌∙◌, arith, eq-eqb}
use Rattle.std.proofs.lemmas.List.Folds.{list_any_at}
use Rattle.op_model.specs.declared.op.Move.{Move}
use Rattle.stage_transfer.specs.Operations.{target_of}
use Rattle.stage_flow.proofs.Lists.{any_map, none_in_all}
use Rattle.stage_flow.proofs.written.is_target.Goals as goal

pub returns-then-slot-step : goal.returns-then-slot-step
returns-then-slot-step c =
    let test = λ (m : Move). nat_eq c.args.slot m.target in
    sym (any_map (nat_eq c.args.slot) target_of c.args.moves.now
    ∙ list_any_at test c.args.moves.now c.loop-step.step-index _ (omega arith) (eq-eqb _ _ c.if-slot-step.true))

pub returns : goal.returns
returns c =
    let test = λ (m : Move). nat_eq c.args.slot m.target in
    sym (any_map (nat_eq c.args.slot) target_of c.args.moves.now
    ∙ none_in_all test c.args.moves.now c.loop-step.step-index (omega arith) c.loop-step.invariant)
