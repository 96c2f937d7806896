use Rattle.line_guesses.proofs.Steps.{front_length, count_front}
use Rattle.line_guesses.proofs.numbers.number_at.Goals as goal

pub slice_bounds-value_of-end : goal.slice_bounds-value_of-end
slice_bounds-value_of-end c = rw c.digit_count-count.ensures (front_length c.args.bytes.now)

pub value_of-value-requires-clause-digits : goal.value_of-value-requires-clause-digits
value_of-value-requires-clause-digits c = rw c.digit_count-count.ensures (count_front c.args.bytes.now)
