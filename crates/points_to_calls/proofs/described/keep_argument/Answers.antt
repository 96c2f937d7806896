use Rattle.std.proofs.Common.{refl}
use Rattle.std.proofs.lemmas.Result.{IfOk-weaker}
use Rattle.points_to_rules.specs.Facts.{kept_objects}
use Rattle.points_to_constraints.specs.Items.{Item as RuleItem}
use Rattle.points_to_calls.specs.Parts.{RuleOrigin, ArgumentGives, ArgumentKept, Gets}
use Rattle.points_to_calls.proofs.Origins.{origin_on}
use Rattle.points_to_numbers.proofs.Making.{makes_grown}
use Rattle.points_to_calls.proofs.Stubs.{only_origin}
use Rattle.points_to_calls.proofs.described.keep_argument.Goals as goal

pub returns : goal.returns
returns c =
    IfOk-weaker c.give.result _ _
    (λ done made site r at is.
    let p = c.args.program.now in let n = c.args.work.now.tables in let m = c.place.new.self in let o = c.give.new.work.tables in let stub = c.args.description.now.stub.now in
    let kept = c.in_ok-kept.ensures in
    let (g, is_g, gives, only) = c.in-Some.ensures n r is in
    let gets = λ (k : RuleOrigin) (x : RuleItem). Gets p site k kept_objects x in
    makes_grown n m o (ArgumentKept p site stub r c.args.argument) c.args.work.now.steps.items c.give.new.work.steps.items kept.grows kept.calls
    (only_origin p n m o site (ArgumentGives stub r c.args.argument) c.args.work.now.steps.items c.give.new.work.steps.items gets g gives only
    (made site g kept_objects (kept.grows.calls c.args.call.0 site at) (origin_on n m c.in-Some.origin g kept.grows is_g) (kept.stands kept_objects refl))))
    c.give.ensures
