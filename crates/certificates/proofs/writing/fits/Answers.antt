use Rattle.std.proofs.Common.{◌+◌, length, refl, ap, arith}
use Rattle.std.proofs.lemmas.Bool.{false≢true}
use Rattle.certificates.specs.Texts.{text}
use Rattle.certificates.proofs.Fronts.{front_within, length_more, take_past}
use Rattle.certificates.proofs.writing.fits.Goals as goal

pub loop-line-preserved : goal.loop-line-preserved
loop-line-preserved c =
    let more = length_more c.args.lines.now c.loop-line.line-index c.line-item.result c.loop-line-test.true c.line-item.is in
    record { sum = omega (arith, more, c.line_length-long.ensures.long, c.loop-line.invariant.sum, c.if-long-left.false) }

pub returns-then-long-left : goal.returns-then-long-left
returns-then-long-left c =
    let more = length_more c.args.lines.now c.loop-line.line-index c.line-item.result c.loop-line-test.true c.line-item.is in
    let within = front_within c.args.lines.now (c.loop-line.line-index + 1) in (
      (λ yes. absurd (false≢true yes)),
      (λ few. absurd (omega (arith, more, within, few, c.line_length-long.ensures.long, c.loop-line.invariant.sum, c.if-long-left.true))),
    )

pub returns : goal.returns
returns c =
    let all = ap (λ xs. length (text xs)) (take_past c.args.lines.now c.loop-line.line-index c.loop-line-test.false) in
    ((λ _. omega (arith, all, c.loop-line.invariant.sum)), (λ _. refl))
