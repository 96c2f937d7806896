use Rattle.std.proofs.Common.{arith, length-take, take}
use Rattle.command_words.proofs.Digits.{below_power}
use Rattle.command_words.proofs.numbers.number_in_digits.Goals as goal

pub overflow_mul-number : goal.overflow_mul-number
overflow_mul-number c =
    let before = take c.loop-byte.byte-index c.args.text.now in
    let small = below_power before 7 c.loop-byte.invariant.digits (omega (arith, length-take c.loop-byte.byte-index c.args.text.now)) in
    omega (arith, small, c.loop-byte.invariant.number)

pub overflow_add-number : goal.overflow_add-number
overflow_add-number c =
    let before = take c.loop-byte.byte-index c.args.text.now in
    let small = below_power before 7 c.loop-byte.invariant.digits (omega (arith, length-take c.loop-byte.byte-index c.args.text.now)) in
    omega (arith, small, c.loop-byte.invariant.number, c.in_ok-digit.ensures.below, c.from.ensures)
