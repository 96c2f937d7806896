use Rattle.std.proofs.Common.{List, subst}
use Rattle.std.specs.Bool.{MatchBool}
use Rattle.edge_steps.specs.declared.conclusions.Conclusion.{Conclusion}
use Rattle.edge_steps.specs.declared.conclusions.EnteredWith.{EnteredWith}
use Rattle.edge_checker.specs.Failures.{IsLeastFor}
use Rattle.edge_checker.specs.Parts.{AreBegun, AreLeft, AreListed, IsNotBegun, IsOneMissing, LeavingFails}
use Rattle.edge_checker.proofs.Joins.{node_least}
use Rattle.edge_checker.proofs.nodes.failure_from.Goals as goal

pub returns : goal.returns
returns c =
    let q = c.args.checking.now.question.now in
    let listed = c.args.checking.now.listed.now in
    let a = c.args.a.now in
    let conclusions = c.after_node.new.following.within.items in
    let entered = c.after_node.new.following.entered.items in
    let within = c.are_listed-listed.result in
    let begins = c.are_begun-begun.result in
    let leave = c.in_ok-leave.leave in
    node_least q listed a c.args.seen.now c.requires.seen conclusions entered c.in_ok-after_node.ensures within begins c.rejected_unless-flow.result c.rejected_unless-enter.result leave
    c.least.result c.least-2.result
    (subst (λ (xs : List Conclusion). MatchBool within (AreListed listed a xs) (IsOneMissing listed a xs)) c.as_slice.ensures.value c.are_listed-listed.ensures)
    (subst (λ (xs : List EnteredWith). MatchBool begins (AreBegun listed xs) (IsNotBegun listed xs)) c.as_slice-entered.ensures.value c.are_begun-begun.ensures)
    c.rejected_unless-flow.ensures c.rejected_unless-enter.ensures
    (subst (λ (xs : List EnteredWith). IsLeastFor q (AreLeft q listed a xs) (LeavingFails q listed a xs) leave) c.as_slice-entered.ensures.value c.in_ok-leave.ensures)
    c.least.ensures c.least-2.ensures
