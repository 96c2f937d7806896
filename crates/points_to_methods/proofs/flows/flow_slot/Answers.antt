use Rattle.std.proofs.Common.{sym, subst}
use Rattle.std.specs.Result.{OnOk}
use Rattle.points_to_numbers.specs.Steps.{Makes}
use Rattle.points_to_methods.specs.declared.effects.Effect.{Effect}
use Rattle.points_to_methods.specs.Known.{names_at}
use Rattle.points_to_methods.specs.Slots.{PassesBy, effect_of}
use Rattle.points_to_methods.proofs.flows.flow_slot.Goals as goal

pub returns-in-Keeps : goal.returns-in-Keeps
returns-in-Keeps c =
    subst (λ (e : Effect). OnOk c.pass_slot.result
    (Makes c.args.work.now.tables c.pass_slot.new.work.tables (PassesBy (names_at c.args.at.now) c.args.node c.args.to.node c.args.to.slot (effect_of e)) c.args.work.now.steps.items c.pass_slot.new.work.steps.items))
    (sym c.in-Keeps.is) c.pass_slot.ensures

pub returns-in-Moves : goal.returns-in-Moves
returns-in-Moves c =
    subst (λ (e : Effect). OnOk c.pass_slot-in-Moves.result
    (Makes c.args.work.now.tables c.pass_slot-in-Moves.new.work.tables (PassesBy (names_at c.args.at.now) c.args.node c.args.to.node c.args.to.slot (effect_of e)) c.args.work.now.steps.items c.pass_slot-in-Moves.new.work.steps.items))
    (sym c.in-Moves.is) c.pass_slot-in-Moves.ensures
