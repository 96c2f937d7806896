use Rattle.std.proofs.Common.{◌≡◌, ◌+◌, ◌<◌, drop, get_or, ◌-◌, ◌*◌, suc, sym, ap, ◌∙◌, arith}
use Rattle.line_guesses.specs.Guess.{read_on}
use Rattle.line_guesses.proofs.Steps.{each_digit, digit_small, value_more, read_more, read_end}
use Rattle.line_guesses.proofs.numbers.value_of.Goals as goal

pub loop-digit-preserved : goal.loop-digit-preserved
loop-digit-preserved c =
    let digits = c.args.digits.now in
    let i = c.loop-digit.digit-index in
    let d = get_or digits i 0 in
    let small = digit_small d (each_digit digits i 0 c.requires.digits c.loop-digit-test.true) in
    let short : i < 10 = omega (arith, c.loop-digit-test.true, c.requires.few) in
    let more = value_more i c.loop-digit.value (d - 48) short c.loop-digit.invariant.small (omega (arith, small.1)) in
    let one : suc i ≡ i + 1 = omega arith in
    let next : drop (suc i) digits ≡ drop (i + 1) digits = ap (λ n. drop n digits) one in
    rw c.from.ensures (record {
      same = ap (λ xs. read_on (10 * c.loop-digit.value + (d - 48)) xs) (sym next) ∙ sym (read_more digits i 0 c.loop-digit.value c.loop-digit-test.true) ∙ c.loop-digit.invariant.same;
      small = more.0;
    })

pub returns : goal.returns
returns c = sym (read_end c.args.digits.now c.loop-digit.digit-index c.loop-digit.value c.loop-digit-test.false) ∙ c.loop-digit.invariant.same

pub overflow_mul-value : goal.overflow_mul-value
overflow_mul-value c =
    let short : c.loop-digit.digit-index < 10 = omega (arith, c.loop-digit-test.true, c.requires.few) in
    let more = value_more c.loop-digit.digit-index c.loop-digit.value 0 short c.loop-digit.invariant.small (omega arith) in
    omega (arith, more.1)

pub overflow_sub-digit : goal.overflow_sub-digit
overflow_sub-digit c =
    let small = digit_small (get_or c.args.digits.now c.loop-digit.digit-index 0) (each_digit c.args.digits.now c.loop-digit.digit-index 0 c.requires.digits c.loop-digit-test.true) in
    omega (arith, small.0)

pub overflow_add-value : goal.overflow_add-value
overflow_add-value c =
    let d = get_or c.args.digits.now c.loop-digit.digit-index 0 in
    let small = digit_small d (each_digit c.args.digits.now c.loop-digit.digit-index 0 c.requires.digits c.loop-digit-test.true) in
    let short : c.loop-digit.digit-index < 10 = omega (arith, c.loop-digit-test.true, c.requires.few) in
    let more = value_more c.loop-digit.digit-index c.loop-digit.value (d - 48) short c.loop-digit.invariant.small (omega (arith, small.1)) in
    rw c.from.ensures (omega (arith, more.1))
