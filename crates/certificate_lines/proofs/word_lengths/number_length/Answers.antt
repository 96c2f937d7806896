use Rattle.std.proofs.Common.{arith}
use Rattle.certificate_lines.proofs.Lengths.{decimal_more, decimal_last, decimal_short}
use Rattle.certificate_lines.proofs.word_lengths.number_length.Goals as goal

pub loop-rest-preserved : goal.loop-rest-preserved
loop-rest-preserved c =
    let more = decimal_more c.loop-rest.rest (omega arith) (omega arith) in
    omega (arith, more, c.loop-rest.invariant)

pub overflow_add-long : goal.overflow_add-long
overflow_add-long c =
    let short = decimal_short c.args.number (omega arith) in
    omega (arith, short, c.loop-rest.invariant)

pub returns-clause-long : goal.returns-clause-long
returns-clause-long c =
    let last = decimal_last c.loop-rest.rest (omega arith) in
    omega (arith, last, c.loop-rest.invariant)

pub returns-clause-few : goal.returns-clause-few
returns-clause-few c =
    let last = decimal_last c.loop-rest.rest (omega arith) in
    let short = decimal_short c.args.number (omega arith) in
    omega (arith, last, short, c.loop-rest.invariant)
