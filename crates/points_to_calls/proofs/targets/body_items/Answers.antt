use Rattle.std.proofs.lemmas.Result.{IfOk-weaker}
use Rattle.hierarchy.proofs.ClassPlaces.{method_there}
use Rattle.points_to_calls.specs.Describing.{BodyItem, StubItem}
use Rattle.points_to_calls.specs.Parts.{FileItem}
use Rattle.points_to_calls.proofs.CallParted.{file_body, stub_body}
use Rattle.points_to_rules.proofs.TargetBodies.{file_by_view, described_by_view}
use Rattle.points_to_numbers.proofs.Making.{makes_same}
use Rattle.points_to_calls.proofs.targets.body_items.Goals as goal

pub returns-in-InFile : goal.returns-in-InFile
returns-in-InFile c =
    let p = c.args.program.now in let (m, stands) = method_there p c.args.target.0 c.requires.target in
    IfOk-weaker c.file_items.result _ _
    (λ done made site at.
    makes_same c.args.work.now.tables c.file_items.new.work.tables (FileItem site c.args.target) (BodyItem p site c.args.target) c.args.work.now.steps.items c.file_items.new.work.steps.items
    (file_body p site c.args.target (file_by_view p c.args.target m c.in-InFile.file c.in-InFile.number stands (c.in-InFile.ensures m stands))) (made site at))
    c.file_items.ensures

pub returns-in-Described : goal.returns-in-Described
returns-in-Described c =
    let p = c.args.program.now in let (m, stands) = method_there p c.args.target.0 c.requires.target in
    let stub = c.in-Described.stub.now in
    IfOk-weaker c.stub_items.result _ _
    (λ done made site at.
    makes_same c.args.work.now.tables c.stub_items.new.work.tables (StubItem p site stub) (BodyItem p site c.args.target) c.args.work.now.steps.items c.stub_items.new.work.steps.items
    (stub_body p site c.args.target stub m stands (described_by_view m c.in-Described.stub (c.in-Described.ensures m stands))) (made site at))
    c.stub_items.ensures
