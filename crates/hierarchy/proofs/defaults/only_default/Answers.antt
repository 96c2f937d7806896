use Rattle.jvm_model.specs.Lookups.{lent_signature}
use Rattle.program_model.specs.Numbers.{name_at}
use Rattle.hierarchy.proofs.Specific.{two_not_only}
use Rattle.hierarchy.proofs.defaults.only_default.Goals as goal

pub returns-in-Nothing : goal.returns-in-Nothing
returns-in-Nothing c = λ n only. c.in-Nothing.ensures n only.default

pub returns-in-Several : goal.returns-in-Several
returns-in-Several c = λ n only. two_not_only c.args.program.now (name_at c.args.program.now c.args.class.0) (lent_signature c.args.signature) n c.in-Several.ensures only
