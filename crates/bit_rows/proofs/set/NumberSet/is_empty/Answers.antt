use Rattle.std.proofs.Common.{sym, ap, ◌∙◌, refl}
use Rattle.bit_rows.specs.declared.set.NumberSet.{NumberSet}
use Rattle.bit_rows.specs.declared.set.NumberSet.TheVariants.{One, Many}
use Rattle.bit_rows.specs.Sets.{numbers_of}
use Rattle.bit_rows.proofs.Added.{in_one}
use Rattle.bit_rows.proofs.Numbers.{none_listed, some_listed}
use Rattle.std.proofs.lemmas.Bool.{false≢true}
use Rattle.bit_rows.proofs.set.NumberSet.is_empty.Goals as goal

pub returns-in-Empty-clause-none : goal.returns-in-Empty-clause-none
returns-in-Empty-clause-none c = (λ is. ap (λ (s : NumberSet). numbers_of s) c.in-Empty.is ∙ none_listed, λ none. refl)

pub returns-in-One-clause-none : goal.returns-in-One-clause-none
returns-in-One-clause-none c = (
  λ is. absurd (false≢true is),
  λ none. absurd (some_listed (One c.in-One.field-0) c.in-One.field-0 (in_one c.in-One.field-0 c.in-One.field-0 refl) (sym (ap (λ (s : NumberSet). numbers_of s) c.in-One.is) ∙ none)),
)

pub returns-in-Many-clause-none : goal.returns-in-Many-clause-none
returns-in-Many-clause-none c =
    let some = c.well_formed-in-Many.ensures in (
      λ is. absurd (false≢true is),
      λ none. absurd (some_listed (Many c.in-Many.row) some.0 (record { there = some.1 }) (sym (ap (λ (s : NumberSet). numbers_of s) c.in-Many.is) ∙ none)),
    )
