use Rattle.std.proofs.Common.{arith}
use Rattle.std.proofs.lemmas.Bool.Decides.{nat_tests}
use Rattle.command_words.proofs.Ranges.{spells_widest}
use Rattle.command_words.proofs.numbers.number_spelled.Goals as goal

pub returns-clause-found : goal.returns-clause-found
returns-clause-found c = spells_widest c.args.text.now c.number_in_digits.result (grind (arith, nat_tests)) (omega arith) c.number_in_digits.ensures.found
