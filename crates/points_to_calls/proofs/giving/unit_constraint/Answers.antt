use Rattle.std.proofs.Common.{◌≡◌, ◌<◌, ℕ, length, arith, sym, subst}
use Rattle.std.proofs.lemmas.Result.{IfOk-weaker}
use Rattle.jvm_model.specs.declared.number.MethodNo.{MethodNo}
use Rattle.op_model.specs.declared.op.CallKind.{CallKind}
use Rattle.points_to_calls.specs.Giving.{MakesConstraint}
use Rattle.points_to_calls.proofs.Origins.{later_constraint}
use Rattle.points_to_calls.proofs.giving.unit_constraint.Goals as goal

pub returns-then-unit-gt0 : goal.returns-then-unit-gt0
returns-then-unit-gt0 c = λ site h at held. later_constraint c.args.program.now c.args.tables.now site.kind site.resolved c.args.unit c.args.to h c.if-unit-gt0.true held

pub first_constraint-requires-clause-resolved : goal.first_constraint-requires-clause-resolved
first_constraint-requires-clause-resolved c =
    let (site, at) = c.requires.call in
    subst (λ (m : MethodNo). m.0 < length c.args.program.now.methods) (c.call_of-entry.ensures site at).resolved (c.requires.resolved site at)

pub returns : goal.returns
returns c =
    IfOk-weaker c.first_constraint.result _ _
    (λ constraint found site h at held.
    let is = c.call_of-entry.ensures site at in
    let none : c.args.unit ≡ 0 = omega arith in
    subst (λ (u : ℕ). MakesConstraint c.args.program.now c.args.tables.now c.first_constraint.new.tables site.kind site.resolved u h constraint) (sym none)
    (subst (λ (k : CallKind). MakesConstraint c.args.program.now c.args.tables.now c.first_constraint.new.tables k site.resolved 0 h constraint) (sym is.kind)
    (subst (λ (m : MethodNo). MakesConstraint c.args.program.now c.args.tables.now c.first_constraint.new.tables c.call_of-entry.result.now.kind m 0 h constraint) (sym is.resolved) (found h held))))
    c.first_constraint.ensures
