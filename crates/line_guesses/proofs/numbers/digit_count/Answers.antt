use Rattle.std.proofs.Common.{◌≡◌, ◌+◌, drop, suc, sym, ap, arith}
use Rattle.line_guesses.specs.Guess.{digit_count}
use Rattle.line_guesses.proofs.Steps.{count_more, count_stops, count_ends}
use Rattle.line_guesses.proofs.numbers.digit_count.Goals as goal

pub loop-byte-preserved : goal.loop-byte-preserved
loop-byte-preserved c =
    let bytes = c.args.bytes.now in
    let i = c.loop-byte.byte-index in
    let more = count_more bytes i 0 c.loop-byte-test.true (sym c.if-not-is_digit.ensures) in
    let one : suc i ≡ i + 1 = omega arith in
    let next : drop (suc i) bytes ≡ drop (i + 1) bytes = ap (λ n. drop n bytes) one in
    let left : digit_count (drop (suc i) bytes) ≡ digit_count (drop (i + 1) bytes) = ap digit_count next in
    record { count = omega (arith, c.loop-byte.invariant.count); same = omega (arith, c.loop-byte.invariant.same, more, left) }

pub returns-then-not-is_digit : goal.returns-then-not-is_digit
returns-then-not-is_digit c =
    let none = count_stops c.args.bytes.now c.loop-byte.byte-index 0 c.loop-byte-test.true (sym c.if-not-is_digit.ensures) in
    omega (arith, c.loop-byte.invariant.same, none)

pub returns : goal.returns
returns c =
    let none = count_ends c.args.bytes.now c.loop-byte.byte-index c.loop-byte-test.false in
    omega (arith, c.loop-byte.invariant.same, none)
