use Rattle.std.specs.List.{slice_get}
use Rattle.std.proofs.lemmas.Result.{IfOk-weaker}
use Rattle.points_to_calls.proofs.CallParts.{stands_for}
use Rattle.points_to_calls.proofs.Origins.{result_got}
use Rattle.points_to_calls.proofs.giving.give_at.Goals as goal

pub give-requires-clause-to : goal.give-requires-clause-to
give-requires-clause-to c =
    let (site, at) = c.requires.call in
    let (h, stands, held) = stands_for c.args.work.now.tables c.in-Some.to (slice_get site.results c.args.number) (c.in-Some.ensures site at) in
    (h, held)

pub returns : goal.returns
returns c =
    IfOk-weaker c.give.result _ _
    (λ done made site g at is.
    let (h, stands, held) = stands_for c.args.work.now.tables c.in-Some.to (slice_get site.results c.args.number) (c.in-Some.ensures site at) in
    result_got c.args.program.now c.args.work.now.tables c.give.new.work.tables site g c.args.number h c.args.work.now.steps.items c.give.new.work.steps.items stands (made site g h at is held))
    c.give.ensures
