use Rattle.std.proofs.Common.{sym, ap, ◌∙◌}
use Rattle.std.specs.Prelude.{bit_or}
use Rattle.std.specs.Int.Bits.{or_zero_r}
use Rattle.bit_rows.specs.declared.set.NumberSet.{NumberSet}
use Rattle.bit_rows.specs.SetWords.{word_of}
use Rattle.bit_rows.proofs.set.NumberSet.unite.Goals as goal

pub returns-in-Empty-clause-united : goal.returns-in-Empty-clause-united
returns-in-Empty-clause-united c place =
    let word = word_of c.args.self.now place in
    sym (ap (λ (s : NumberSet). bit_or word (word_of s place)) c.in-Empty.is ∙ or_zero_r word)
