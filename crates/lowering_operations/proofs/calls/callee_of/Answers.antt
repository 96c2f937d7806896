use Rattle.lowering_operations.proofs.Named.{callee}
use Rattle.lowering_operations.proofs.calls.callee_of.Goals as goal

pub returns : goal.returns
returns c = callee c.args.at c.in-Method.resolved c.in-Method.target c.resolved_method.result c.in-Method.is c.requires.member c.resolved_method.ensures
