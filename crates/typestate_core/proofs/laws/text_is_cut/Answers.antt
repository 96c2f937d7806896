use Rattle.typestate_core.proofs.Cutting.{lines_of_text, text_of_lines}
use Rattle.typestate_core.proofs.laws.text_is_cut.Goals as goal

pub returns-clause-whole : goal.returns-clause-whole
returns-clause-whole c = text_of_lines

pub returns-clause-lines : goal.returns-clause-lines
returns-clause-lines c = lines_of_text
