use Rattle.std.proofs.Common.{length-append, ap, length, arith}
use Rattle.certificates.proofs.Claims.{is_front, is_no_front}
use Rattle.certificates.proofs.reading.after_front.Goals as goal

pub returns-then-eq : goal.returns-then-eq
returns-then-eq c =
    is_front c.args.front.now c.args.bytes.now c.split_at.result.0.now c.split_at.result.1.now c.split_at.ensures.front c.split_at.ensures.back c.if-eq.ensures

pub returns-else-eq : goal.returns-else-eq
returns-else-eq c = record { none = is_no_front c.args.front.now c.args.bytes.now c.split_at.result.0.now c.split_at.ensures.front c.if-eq.ensures }

pub returns-then-bytes-front : goal.returns-then-bytes-front
returns-then-bytes-front c = record { none = λ more e. let l = ap length e in omega (arith, l, length-append c.args.front.now more, c.if-bytes-front.true) }
