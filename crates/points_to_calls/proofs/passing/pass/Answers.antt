use Rattle.std.proofs.Common.{sym, subst}
use Rattle.std.proofs.lemmas.Result.{IfOk-weaker}
use Rattle.points_to_constraints.specs.ItemRules.{Passed}
use Rattle.points_to_constraints.specs.Items.{Constraint as ItemConstraint}
use Rattle.points_to_numbers.specs.declared.keys.Constraint.{Constraint}
use Rattle.points_to_numbers.specs.Numbered.{IsConstraintAt}
use Rattle.points_to_numbers.specs.Steps.{Adds}
use Rattle.points_to_calls.specs.Constraints.{PlainPassed}
use Rattle.points_to_numbers.proofs.Making.{makes_same}
use Rattle.points_to_calls.proofs.PlainConstraints.{no_selection, plain_passed, plain_lacks}
use Rattle.points_to_calls.proofs.RightAnswers.{grown_right}
use Rattle.points_to_calls.proofs.passing.pass.Goals as goal

pub returns-in_default : goal.returns-in_default
returns-in_default c =
    let p = c.args.program.now in let n = c.args.work.now.tables in let m = c.pass_plain.new.work.tables in
    let (u, named) = c.requires.constraint in let (s, there) = c.requires.site in
    let made = c.in_ok-pass_plain.ensures.made u s (c.constraint_of-entry.ensures u named) there in
    record {
      grows = made.grows;
      calls = made.calls;
      adds = λ v t stands at.
          let is = c.constraint_of-entry.ensures v stands in
          (makes_same n m (PlainPassed p v t) (Passed p v t) c.args.work.now.steps.items c.pass_plain.new.work.steps.items
          (plain_passed p v t (no_selection n c.constraint_of-entry.result v c.in_default.not-Dispatch is)) (c.in_ok-pass_plain.ensures.made v t is at)).adds;
      lacks = λ v t stands at. plain_lacks p v t (no_selection n c.constraint_of-entry.result v c.in_default.not-Dispatch (c.constraint_of-entry.ensures v stands));
      answers = grown_right p n m c.pass_plain.new.answers made.grows c.in_ok-pass_plain.ensures.answers;
    }

pub returns-clause-grows : goal.returns-clause-grows
returns-clause-grows c =
    IfOk-weaker c.select_items.result _ _
    (λ lacks made.
    let (u, stands) = c.requires.constraint in let (s, there) = c.requires.site in
    let (call, at, e) = subst (λ (w : Constraint). IsConstraintAt c.args.work.now.tables w u) c.in-Dispatch.is (c.constraint_of-entry.ensures u stands) in
    (made call s at there).grows)
    c.select_items.ensures.adds

pub returns-clause-calls : goal.returns-clause-calls
returns-clause-calls c =
    IfOk-weaker c.select_items.result _ _
    (λ lacks made.
    let (u, stands) = c.requires.constraint in let (s, there) = c.requires.site in
    let (call, at, e) = subst (λ (w : Constraint). IsConstraintAt c.args.work.now.tables w u) c.in-Dispatch.is (c.constraint_of-entry.ensures u stands) in
    (made call s at there).calls)
    c.select_items.ensures.adds

pub returns-clause-adds : goal.returns-clause-adds
returns-clause-adds c =
    IfOk-weaker c.select_items.result _ _
    (λ lacks made u s stands there.
    let (call, at, e) = subst (λ (w : Constraint). IsConstraintAt c.args.work.now.tables w u) c.in-Dispatch.is (c.constraint_of-entry.ensures u stands) in
    subst (λ (v : ItemConstraint). Adds c.select_items.new.work.tables (Passed c.args.program.now v s) c.args.work.now.steps.items c.select_items.new.work.steps.items) (sym e) (made call s at there).adds)
    c.select_items.ensures.adds

pub returns-clause-answers : goal.returns-clause-answers
returns-clause-answers c =
    IfOk-weaker c.select_items.result _ _
    (λ lacks made.
    let (u, stands) = c.requires.constraint in let (s, there) = c.requires.site in
    let (call, at, e) = subst (λ (w : Constraint). IsConstraintAt c.args.work.now.tables w u) c.in-Dispatch.is (c.constraint_of-entry.ensures u stands) in
    grown_right c.args.program.now c.args.work.now.tables c.select_items.new.work.tables c.select_items.new.answers
    (made call s at there).grows c.select_items.ensures.answers)
    c.select_items.ensures.adds
