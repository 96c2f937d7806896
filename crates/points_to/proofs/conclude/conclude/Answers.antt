use Rattle.std.proofs.Common.{ℕ, [], None, Option, Result, sym, subst}
use Rattle.grouped_lists.specs.Groups.{values_at}
use Rattle.jvm_model.specs.declared.reason.Refusal.{Refusal}
use Rattle.op_model.specs.declared.lowered.LoweredMethod.{LoweredMethod}
use Rattle.points_to.specs.declared.refusals.RefusedMethod.{RefusedMethod}
use Rattle.points_to.specs.Concluding.{RefusedBy}
use Rattle.points_to.specs.Passing.{NotesMethods}
use Rattle.points_to.specs.Turns.{kind_of}
use Rattle.points_to.proofs.GivenMethods.{on_always}
use Rattle.points_to.proofs.Noting.{methods_none}
use Rattle.points_to.proofs.TurnParts.{one_adds, one_notes, sites_add, sites_note}
use Rattle.points_to.proofs.conclude.conclude.Goals as goal

pub returns-in-Sites-clause-adds : goal.returns-in-Sites-clause-adds
returns-in-Sites-clause-adds g c =
    let gives : ℕ → Result LoweredMethod Refusal → Type 0 = g.S.Supply.gives c.args.supply.now in
    sites_add c.conclude_sites.result c.args.program.now c.args.working.now.found.work.tables c.conclude_sites.new.found.work.tables [] c.conclude_sites.new.found.work.steps.items None None gives c.args.working.now.queue.rows.rows.items
    (values_at c.args.working.now.constraints.groups.items) c.args.turn.now c.in-Sites.fresh c.in-Sites.is c.clear.new.self.items c.clear.ensures.items c.conclude_sites.ensures.adds

pub returns-in-Sites-clause-lacks : goal.returns-in-Sites-clause-lacks
returns-in-Sites-clause-lacks g c =
    let gives : ℕ → Result LoweredMethod Refusal → Type 0 = g.S.Supply.gives c.args.supply.now in
    sites_note c.conclude_sites.result c.args.program.now c.args.working.now.found.work.tables c.conclude_sites.new.found.work.tables [] [] c.args.working.now.found.refusals.call c.conclude_sites.new.found.refusals.call gives
    c.args.working.now.queue.rows.rows.items (values_at c.args.working.now.constraints.groups.items) c.args.turn.now c.in-Sites.fresh c.in-Sites.is c.conclude_sites.ensures.lacks

pub returns-in-Sites-clause-refused : goal.returns-in-Sites-clause-refused
returns-in-Sites-clause-refused g c =
    let gives : ℕ → Result LoweredMethod Refusal → Type 0 = g.S.Supply.gives c.args.supply.now in
    let old = c.args.working.now.found.refusals.method in
    on_always c.conclude_sites.result _ (subst (λ (o : Option RefusedMethod). NotesMethods (RefusedBy gives (kind_of c.args.turn.now)) old o) (sym c.conclude_sites.ensures.method)
    (methods_none (RefusedBy gives (kind_of c.args.turn.now)) old (λ method. rw c.in-Sites.is (λ no_method. absurd no_method))))

pub returns-in-One-clause-adds : goal.returns-in-One-clause-adds
returns-in-One-clause-adds g c =
    let gives : ℕ → Result LoweredMethod Refusal → Type 0 = g.S.Supply.gives c.args.supply.now in
    one_adds c.conclude_one.result c.args.program.now c.args.working.now.found.work.tables c.conclude_one.new.working.found.work.tables [] c.conclude_one.new.working.found.work.steps.items None None gives c.args.working.now.queue.rows.rows.items
    (values_at c.conclude_one.new.working.constraints.groups.items) c.args.turn.now c.in-One.item c.in-One.is c.conclude_one.ensures.adds

pub returns-in-One-clause-lacks : goal.returns-in-One-clause-lacks
returns-in-One-clause-lacks g c =
    let gives : ℕ → Result LoweredMethod Refusal → Type 0 = g.S.Supply.gives c.args.supply.now in
    one_notes c.conclude_one.result c.args.program.now c.args.working.now.found.work.tables c.conclude_one.new.working.found.work.tables [] [] c.args.working.now.found.refusals.call c.conclude_one.new.working.found.refusals.call gives
    c.args.working.now.queue.rows.rows.items (values_at c.conclude_one.new.working.constraints.groups.items) c.args.turn.now c.in-One.item c.in-One.is c.conclude_one.ensures.lacks
