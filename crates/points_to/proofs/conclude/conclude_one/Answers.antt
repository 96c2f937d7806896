use Rattle.std.proofs.Common.{ℕ, List, Option, Result, get_or, sym, ap, subst}
use Rattle.std.specs.List.{Contains}
use Rattle.std.proofs.lemmas.List.Elements.{Contains-get_or}
use Rattle.jvm_model.specs.declared.reason.Refusal.{Refusal}
use Rattle.op_model.specs.declared.lowered.LoweredMethod.{LoweredMethod}
use Rattle.points_to_numbers.specs.declared.keys.ConstraintNo.{ConstraintNo}
use Rattle.points_to.specs.declared.refusals.RefusedCall.{RefusedCall}
use Rattle.points_to.specs.declared.refusals.RefusedMethod.{RefusedMethod}
use Rattle.points_to.specs.declared.refusals.Refusals.{Refusals}
use Rattle.grouped_lists.specs.Groups.{values_at}
use Rattle.points_to.specs.Passing.{NotesCalls, NotesMethods}
use Rattle.points_to.specs.Concluding.{LacksBy, RefusedBy}
use Rattle.points_to.proofs.GivenMethods.{on_always}
use Rattle.points_to.proofs.Noting.{calls_none, methods_none}
use Rattle.points_to.proofs.conclude.conclude_one.Goals as goal

pub pass_to_each-requires-clause-constraints : goal.pass_to_each-requires-clause-constraints
pass_to_each-requires-clause-constraints g c k d l =
    c.requires.index.constraints_known c.in-Holds.place.0 (get_or c.get-constraints.result.now k d)
    (subst (λ (xs : List ConstraintNo). Contains xs (get_or c.get-constraints.result.now k d)) c.get-constraints.ensures (Contains-get_or c.get-constraints.result.now k d l))

pub pass_passed-requires-clause-sites : goal.pass_passed-requires-clause-sites
pass_passed-requires-clause-sites g c = c.requires.index.sites_known c.in-Constrains.place.0

pub returns-in-Holds-clause-adds : goal.returns-in-Holds-clause-adds
returns-in-Holds-clause-adds g c = rw c.in-Holds.is (rw (c.get-constraints.ensures, c.requires.steps) at c.pass_to_each.ensures.adds)

pub returns-in-Holds-clause-lacks : goal.returns-in-Holds-clause-lacks
returns-in-Holds-clause-lacks g c = rw c.in-Holds.is (rw c.get-constraints.ensures at c.pass_to_each.ensures.lacks)

pub returns-in-Holds-clause-refused : goal.returns-in-Holds-clause-refused
returns-in-Holds-clause-refused g c =
    let gives : ℕ → Result LoweredMethod Refusal → Type 0 = g.S.Supply.gives c.args.supply.now in
    let old = c.args.working.now.found.refusals.method in
    on_always c.pass_to_each.result _ (subst (λ (o : Option RefusedMethod). NotesMethods (RefusedBy gives c.args.item) old o) (sym c.pass_to_each.ensures.method)
    (methods_none (RefusedBy gives c.args.item) old (λ method. rw c.in-Holds.is (λ no_method. absurd no_method))))

pub returns-in-Runs-clause-adds : goal.returns-in-Runs-clause-adds
returns-in-Runs-clause-adds g c = rw c.in-Runs.is (rw c.requires.steps at c.run.ensures.adds)

pub returns-in-Runs-clause-lacks : goal.returns-in-Runs-clause-lacks
returns-in-Runs-clause-lacks g c =
    let old = c.args.working.now.found.refusals.call in
    on_always c.run.result _ (subst (λ (o : Option RefusedCall). NotesCalls (LacksBy c.args.program.now c.args.working.now.found.work.tables c.args.working.now.queue.rows.rows.items (values_at c.args.working.now.constraints.groups.items) c.args.item) old o) (sym c.run.ensures.call)
    (calls_none (LacksBy c.args.program.now c.args.working.now.found.work.tables c.args.working.now.queue.rows.rows.items (values_at c.args.working.now.constraints.groups.items) c.args.item) old (λ call. rw c.in-Runs.is (λ no_call. absurd no_call))))

pub returns-in-Calls-clause-adds : goal.returns-in-Calls-clause-adds
returns-in-Calls-clause-adds g c = rw c.in-Calls.is (rw c.requires.steps at c.call_target.ensures.adds)

pub returns-in-Calls-clause-lacks : goal.returns-in-Calls-clause-lacks
returns-in-Calls-clause-lacks g c =
    let old = c.args.working.now.found.refusals.call in
    on_always c.call_target.result _ (subst (λ (o : Option RefusedCall). NotesCalls (LacksBy c.args.program.now c.args.working.now.found.work.tables c.args.working.now.queue.rows.rows.items (values_at c.args.working.now.constraints.groups.items) c.args.item) old o) (sym (ap (λ (r : Refusals). r.call) c.call_target.ensures.refusals))
    (calls_none (LacksBy c.args.program.now c.args.working.now.found.work.tables c.args.working.now.queue.rows.rows.items (values_at c.args.working.now.constraints.groups.items) c.args.item) old (λ call. rw c.in-Calls.is (λ no_call. absurd no_call))))

pub returns-in-Calls-clause-refused : goal.returns-in-Calls-clause-refused
returns-in-Calls-clause-refused g c =
    let gives : ℕ → Result LoweredMethod Refusal → Type 0 = g.S.Supply.gives c.args.supply.now in
    let old = c.args.working.now.found.refusals.method in
    on_always c.call_target.result _ (subst (λ (o : Option RefusedMethod). NotesMethods (RefusedBy gives c.args.item) old o) (sym (ap (λ (r : Refusals). r.method) c.call_target.ensures.refusals))
    (methods_none (RefusedBy gives c.args.item) old (λ method. rw c.in-Calls.is (λ no_method. absurd no_method))))

pub returns-in_ok-add-in-Constrains-clause-adds : goal.returns-in_ok-add-in-Constrains-clause-adds
returns-in_ok-add-in-Constrains-clause-adds g c = rw c.in-Constrains.is (rw c.requires.steps at c.pass_passed.ensures.adds)

pub returns-in_ok-add-in-Constrains-clause-lacks : goal.returns-in_ok-add-in-Constrains-clause-lacks
returns-in_ok-add-in-Constrains-clause-lacks g c = rw c.in-Constrains.is c.pass_passed.ensures.lacks

pub returns-in_ok-add-in-Constrains-clause-refused : goal.returns-in_ok-add-in-Constrains-clause-refused
returns-in_ok-add-in-Constrains-clause-refused g c =
    let gives : ℕ → Result LoweredMethod Refusal → Type 0 = g.S.Supply.gives c.args.supply.now in
    let old = c.args.working.now.found.refusals.method in
    on_always c.pass_passed.result _ (subst (λ (o : Option RefusedMethod). NotesMethods (RefusedBy gives c.args.item) old o) (sym c.pass_passed.ensures.method)
    (methods_none (RefusedBy gives c.args.item) old (λ method. rw c.in-Constrains.is (λ no_method. absurd no_method))))
