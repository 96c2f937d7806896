use Rattle.std.proofs.Common.{subst, Option}
use Rattle.std.proofs.lemmas.Result.{IfOk-weaker}
use Rattle.points_to_numbers.specs.declared.keys.Constraint.{Constraint}
use Rattle.points_to_calls.specs.Giving.{MakesConstraint}
use Rattle.points_to_calls.specs.Parts.{unit_in}
use Rattle.points_to_calls.proofs.CallParts.{stands_for, no_place}
use Rattle.points_to_calls.proofs.Origins.{no_unit, unit_given}
use Rattle.points_to_calls.proofs.giving.give_unit.Goals as goal

pub returns-in_default : goal.returns-in_default
returns-in_default c = λ site h at held.
    no_unit c.args.program.now c.args.work.now.tables c.args.work.now.tables c.args.work.now.tables site c.args.unit h c.args.work.now.steps.items c.args.work.now.steps.items
    (no_place c.args.work.now.tables c.argument_of.result (unit_in site.arguments c.args.unit) c.in_default.not-Some (c.argument_of.ensures site at))

pub add_constraint_at-requires-clause-place : goal.add_constraint_at-requires-clause-place
add_constraint_at-requires-clause-place c =
    let (site, at) = c.requires.call in let (h, held) = c.requires.to in
    let (from, stands, there) = stands_for c.args.work.now.tables c.in-Some.from (unit_in site.arguments c.args.unit) (c.in-Some.ensures site at) in
    (from, (c.in_ok-constraint.ensures site h at held).grows.holders c.in-Some.from.0 from there)

pub add_constraint_at-requires-clause-constraint : goal.add_constraint_at-requires-clause-constraint
add_constraint_at-requires-clause-constraint c =
    let (site, at) = c.requires.call in let (h, held) = c.requires.to in
    let constraint = subst (λ (o : Option Constraint). MakesConstraint c.args.program.now c.args.work.now.tables c.unit_constraint.new.tables site.kind site.resolved c.args.unit h o) c.in-Some-2.is (c.in_ok-constraint.ensures site h at held) in
    let (u, is, gives) = constraint.is in (u, is)

pub returns : goal.returns
returns c =
    IfOk-weaker c.add_constraint_at.result _ _
    (λ done made site h at held.
    let (from, stands, there) = stands_for c.args.work.now.tables c.in-Some.from (unit_in site.arguments c.args.unit) (c.in-Some.ensures site at) in
    let constraint = c.in_ok-constraint.ensures site h at held in
    unit_given c.args.program.now c.args.work.now.tables c.unit_constraint.new.tables c.add_constraint_at.new.work.tables site c.args.unit h c.args.work.now.steps.items c.add_constraint_at.new.work.steps.items from c.in-Some-2.constraint stands
    (subst (λ (o : Option Constraint). MakesConstraint c.args.program.now c.args.work.now.tables c.unit_constraint.new.tables site.kind site.resolved c.args.unit h o) c.in-Some-2.is constraint)
    (λ v is. made from v (constraint.grows.holders c.in-Some.from.0 from there) is))
    c.add_constraint_at.ensures
