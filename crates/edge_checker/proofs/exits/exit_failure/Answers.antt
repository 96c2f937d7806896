use Rattle.std.proofs.Common.{◌∙◌, ℕ, List, None, Some, ap, cond, subst}
use Rattle.std.specs.Bool.{MatchBool}
use Rattle.edge_steps.specs.declared.conclusions.Conclusion.{Conclusion}
use Rattle.edge_checker.specs.declared.rejected.EdgeCondition.TheVariants.{Leave}
use Rattle.edge_checker.specs.Parts.{AreListed, IsOneMissing}
use Rattle.edge_checker.proofs.Joins.{exit_least}
use Rattle.edge_checker.proofs.exits.exit_failure.Goals as goal

pub returns : goal.returns
returns c =
    let q = c.args.checking.now.question.now in
    let listed = c.args.checking.now.listed.now in
    let a = c.args.a.now in
    let met = c.are_listed-met.result in
    exit_least q listed a c.args.exit.now c.args.seen.now c.requires.seen c.args.method c.requires.method c.after_exit.new.conclusions.items c.in_ok-after_exit.ensures met
    c.rejected_unless.result
    (subst (λ (xs : List Conclusion). MatchBool met (AreListed listed a xs) (IsOneMissing listed a xs)) c.as_slice.ensures.value c.are_listed-met.ensures)
    (c.rejected_unless.ensures ∙ ap (λ (line : ℕ). cond met None (Some (record { condition = Leave; line = line }))) c.max.ensures)
