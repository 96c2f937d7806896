use Rattle.std.proofs.Common.{sym, ◌∙◌}
use Rattle.std.proofs.lemmas.Bool.{false≢true}
use Rattle.program_index.proofs.UpwardSteps.{none_in_front}
use Rattle.program_index.proofs.order.is_on_cycle.Goals as goal

pub returns-then-contains-clause-answer : goal.returns-then-contains-clause-answer
returns-then-contains-clause-answer c =
    let filled = c.requires.filled in (
      (λ h. absurd (false≢true h)),
      (λ a. absurd (none_in_front c.args.parents.now c.args.order.now.items filled.front filled.distinct c.args.class (sym c.contains.ensures ∙ c.if-contains.true) a)),
    )
