use Rattle.std.proofs.lemmas.Result.{IfOk-weaker}
use Rattle.hierarchy.proofs.ClassPlaces.{method_there}
use Rattle.points_to_calls.specs.Describing.{ReceiverItem}
use Rattle.points_to_calls.specs.Selecting.{DescribedItem}
use Rattle.points_to_rules.proofs.TargetBodies.{file_by_view, described_by_view, not_both}
use Rattle.points_to_numbers.proofs.Making.{makes_none, makes_same}
use Rattle.points_to_calls.proofs.ChosenTargets.{receiver_described}
use Rattle.points_to_calls.proofs.selecting.described_items.Goals as goal

pub returns-in-InFile : goal.returns-in-InFile
returns-in-InFile c = λ site s at there.
    let p = c.args.program.now in let (m, stands) = method_there p c.args.target.0 c.requires.target in
    let of = file_by_view p c.args.target m c.in-InFile.file c.in-InFile.number stands (c.in-InFile.ensures m stands) in
    makes_none c.args.work.now.tables (DescribedItem p site s c.args.target) c.args.work.now.steps.items (λ x (stub, by, part). not_both p c.args.target stub of by)

pub returns-in-Described : goal.returns-in-Described
returns-in-Described c =
    let p = c.args.program.now in let (m, stands) = method_there p c.args.target.0 c.requires.target in
    let stub = c.in-Described.stub.now in
    IfOk-weaker c.receiver_items.result _ _
    (λ done made site s at there.
    makes_same c.args.work.now.tables c.receiver_items.new.work.tables (ReceiverItem p site stub s) (DescribedItem p site s c.args.target) c.args.work.now.steps.items c.receiver_items.new.work.steps.items
    (receiver_described p site s c.args.target stub m stands (described_by_view m c.in-Described.stub (c.in-Described.ensures m stands))) (made site s at there))
    c.receiver_items.ensures
