use Rattle.line_guesses.proofs.Bounds.{line_below}
use Rattle.line_guesses.proofs.LinesAgain.{line_again, one_line}
use Rattle.line_guesses.proofs.laws.lines_are_guessed.Goals as goal

pub returns-clause-guessed : goal.returns-clause-guessed
returns-clause-guessed c = line_again

pub returns-clause-one_line : goal.returns-clause-one_line
returns-clause-one_line c = one_line

pub returns-clause-fit : goal.returns-clause-fit
returns-clause-fit c = line_below
