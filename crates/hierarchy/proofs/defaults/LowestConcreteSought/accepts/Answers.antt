use Rattle.std.proofs.Common.{rules}
use Rattle.hierarchy.proofs.ClassPlaces.{method_there}
use Rattle.hierarchy.proofs.defaults.LowestConcreteSought.accepts.Goals as goal

pub is_lowest_concrete-requires-clause-class : goal.is_lowest_concrete-requires-clause-class
is_lowest_concrete-requires-clause-class c = let m = method_there c.args.program.now c.args.method.0 c.requires.method in c.requires.fits m.0 m.1

pub returns-then-ne : goal.returns-then-ne
returns-then-ne c = λ m stands. let iff = c.is_lowest_concrete.ensures m stands in (λ t. (search rules, iff.0 t), λ h. iff.1 h.1)
