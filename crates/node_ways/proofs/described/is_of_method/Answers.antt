use Rattle.std.proofs.Common.{subst}
use Rattle.stub_arguments.specs.Units.{IsReadOf}
use Rattle.node_ways.proofs.described.is_of_method.Goals as goal

pub returns-in-Some-clause-no : goal.returns-in-Some-clause-no
returns-in-Some-clause-no c =
    let text = c.args.stub.now.descriptor in
    (c.is_method.ensures text (subst (IsReadOf text) c.in-Some.is c.requires)).1
