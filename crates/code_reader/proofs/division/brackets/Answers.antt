use Rattle.std.proofs.Common.{sym, ◌∙◌}
use Rattle.code_reader.proofs.Dimensions.{brackets_some, brackets_none}
use Rattle.code_reader.proofs.division.brackets.Goals as goal

pub returns-in-Some : goal.returns-in-Some
returns-in-Some c = brackets_some c.args.text.now c.in-Some.count (sym c.dimensions_of.ensures ∙ c.in-Some.is)

pub returns-in-None : goal.returns-in-None
returns-in-None c = brackets_none c.args.text.now (sym c.dimensions_of.ensures ∙ c.in-None.is)
