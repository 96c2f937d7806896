use Rattle.std.proofs.Common.{length, sym, ap, ◌∙◌}
use Rattle.bit_rows.specs.declared.set.NumberSet.{NumberSet}
use Rattle.bit_rows.specs.Sets.{numbers_of}
use Rattle.bit_rows.proofs.Added.{count_one}
use Rattle.bit_rows.proofs.set.NumberSet.count.Goals as goal

pub returns-in-Empty : goal.returns-in-Empty
unfolding numbers_of
returns-in-Empty c = sym (ap (λ (s : NumberSet). length (numbers_of s)) c.in-Empty.is)

pub returns-in-One : goal.returns-in-One
returns-in-One c = sym (ap (λ (s : NumberSet). length (numbers_of s)) c.in-One.is ∙ count_one c.in-One.field-0)

pub returns-in-Many : goal.returns-in-Many
unfolding numbers_of
returns-in-Many c = c.count.ensures ∙ sym (ap (λ (s : NumberSet). length (numbers_of s)) c.in-Many.is)
