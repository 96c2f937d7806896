use Rattle.std.proofs.Common.{ℕ, Some, ap}
use Rattle.program_model.proofs.Ordered.{distinct_ascending, found_ascending, nowhere_ascending}
use Rattle.program_model.proofs.sorted.find_in_order.Goals as goal

pub returns-in-Ok-clause-found : goal.returns-in-Ok-clause-found
returns-in-Ok-clause-found c =
    let text = c.args.text.now in
    found_ascending c.args.names.now text c.in-Ok.place c.in-Ok.ensures.bound (c.in-Ok.ensures.position text)

pub returns-in-Ok-clause-only : goal.returns-in-Ok-clause-only
returns-in-Ok-clause-only c = λ place stands.
    let text = c.args.text.now in
    let here = found_ascending c.args.names.now text c.in-Ok.place c.in-Ok.ensures.bound (c.in-Ok.ensures.position text) in
    ap (λ (n : ℕ). Some n) ((distinct_ascending c.args.names.now c.requires.ascending).one_place _ _ text here stands)

pub returns-in-Err-clause-none : goal.returns-in-Err-clause-none
returns-in-Err-clause-none c = nowhere_ascending c.args.names.now c.args.text.now c.in-Err.field-0 c.requires.ascending c.in-Err.ensures.position

pub returns-in-Err-clause-only : goal.returns-in-Err-clause-only
returns-in-Err-clause-only c = λ place stands.
    absurd ((nowhere_ascending c.args.names.now c.args.text.now c.in-Err.field-0 c.requires.ascending c.in-Err.ensures.position).nowhere place stands)
