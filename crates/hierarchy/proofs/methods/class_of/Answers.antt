use Rattle.hierarchy.proofs.ClassPlaces.{method_there}
use Rattle.hierarchy.proofs.methods.class_of.Goals as goal

pub returns-clause-below : goal.returns-clause-below
returns-clause-below c =
    let m = method_there c.args.program.now c.args.method.0 c.requires in
    let view = c.method.ensures m.0 m.1 in
    view.below
