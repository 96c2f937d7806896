use Rattle.std.proofs.Common.{sym, ◌∙◌}
use Rattle.points_to_methods.specs.Known.{names_at}
use Rattle.points_to_methods.specs.Slots.{FlowsTo}
use Rattle.points_to_numbers.proofs.Making.{makes_none, makes_same}
use Rattle.points_to_methods.proofs.EnteredSlots.{flown_at, not_merged}
use Rattle.points_to_methods.proofs.flows.flow_to.Goals as goal

pub returns-in_default : goal.returns-in_default
returns-in_default c =
    let l = c.args.at.now.method.now in
    makes_none c.args.work.now.tables (FlowsTo l (names_at c.args.at.now) c.args.op.now c.args.node c.args.offset) c.args.work.now.steps.items
    (λ x (next, stands, merges, rest). c.in_default.ensures.place next stands)

pub returns-then-not-is_merge : goal.returns-then-not-is_merge
returns-then-not-is_merge c =
    let l = c.args.at.now.method.now in
    makes_none c.args.work.now.tables (FlowsTo l (names_at c.args.at.now) c.args.op.now c.args.node c.args.offset) c.args.work.now.steps.items
    (λ x (next, stands, merges, rest). not_merged c.args.at.now.program.now l (names_at c.args.at.now) c.requires.known c.args.offset next c.in-Some.next stands c.in-Some.ensures.place
    (sym c.is_merge.ensures ∙ c.if-not-is_merge.true) merges)

pub returns : goal.returns
returns c =
    let l = c.args.at.now.method.now in
    makes_same c.args.work.now.tables c.flow_slots.new.work.tables _ (FlowsTo l (names_at c.args.at.now) c.args.op.now c.args.node c.args.offset) c.args.work.now.steps.items c.flow_slots.new.work.steps.items
    (λ x. (
      (λ rest. (c.in-Some.next, c.in-Some.ensures.place, sym c.is_merge.ensures ∙ c.if-not-is_merge.false, rest)),
      (λ (next, stands, merges, rest). flown_at c.args.at.now.program.now l (names_at c.args.at.now) c.requires.known c.args.op.now c.args.node c.args.offset next c.in-Some.next stands c.in-Some.ensures.place x rest),
    ))
    c.in_ok-flow_slots.ensures
