use Rattle.hierarchy.proofs.ClassPlaces.{method_there}
use Rattle.points_to_rules.proofs.TargetBodies.{described_by_view, file_by_view, not_both}
use Rattle.node_ways.proofs.Describing.{found_stub, no_stub}
use Rattle.node_ways.proofs.described.stub_of.Goals as goal

pub returns-in-InFile-clause-none : goal.returns-in-InFile-clause-none
returns-in-InFile-clause-none c = λ stub by.
    let p = c.args.program.now in
    let (m, stands) = method_there p c.args.target.0 c.requires in
    not_both p c.args.target stub (file_by_view p c.args.target m c.in-InFile.file c.in-InFile.number stands (c.in-InFile.ensures m stands)) by

pub returns-in-Described-clause-found : goal.returns-in-Described-clause-found
returns-in-Described-clause-found c =
    let p = c.args.program.now in
    let (m, stands) = method_there p c.args.target.0 c.requires in
    let body = described_by_view m c.in-Described.stub (c.in-Described.ensures m stands) in
    found_stub p c.args.target m c.in-Described.stub.now stands body c.concrete.result c.concrete.ensures.found

pub returns-in-Described-clause-none : goal.returns-in-Described-clause-none
returns-in-Described-clause-none c =
    let p = c.args.program.now in
    let (m, stands) = method_there p c.args.target.0 c.requires in
    let body = described_by_view m c.in-Described.stub (c.in-Described.ensures m stands) in
    no_stub p c.args.target m c.in-Described.stub.now stands body c.concrete.result c.concrete.ensures.none
