use Rattle.std.proofs.Common.{refl}
use Rattle.std.proofs.lemmas.Bool.{false≢true}
use Rattle.certificate_lines.specs.declared.line.Line.TheVariants.{Claim}
use Rattle.certificates.proofs.Claims.{none_more, has_here, has_none}
use Rattle.certificates.proofs.following.has_claim.Goals as goal

pub loop-line-preserved : goal.loop-line-preserved
loop-line-preserved c = record {
  none = none_more c.args.lines.now (Claim c.args.stage c.args.site.now) c.line-item.result c.loop-line.line-index c.loop-line-test.true c.line-item.is
      (λ e. false≢true (c.if-is_claim.ensures.1 e)) c.loop-line.invariant.none;
}

pub returns-then-is_claim : goal.returns-then-is_claim
returns-then-is_claim c = (
  (λ _. has_here c.args.lines.now (Claim c.args.stage c.args.site.now) c.line-item.result c.loop-line.line-index c.loop-line-test.true c.line-item.is (c.if-is_claim.ensures.0 refl)),
  (λ _. refl),
)

pub returns : goal.returns
returns c = (
  (λ yes. absurd (false≢true yes)),
  (λ has. absurd (has_none c.args.lines.now (Claim c.args.stage c.args.site.now) c.loop-line.line-index c.loop-line-test.false c.loop-line.invariant.none has)),
)
