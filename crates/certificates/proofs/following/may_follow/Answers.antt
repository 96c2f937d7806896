use Rattle.std.proofs.Common.{refl, sym, ap, ◌∙◌}
use Rattle.certificates.specs.Format.{follows, is_line}
use Rattle.certificates.proofs.following.may_follow.Goals as goal

pub returns : goal.returns
returns c =
    let states = c.requires.states in
    let events = c.requires.events in
    let x = c.args.line.now in (
      (λ yes. record {
        fits = c.requires.fits;
        line = ap (λ n. is_line c.args.ranges n x) (sym states) ∙ sym c.if-not-is_line.ensures;
        named = c.if-not-is_text.ensures.0 refl;
        place = (λ i. follows (sym c.last.ensures.value i) (sym states i) (sym events i) x) ∙ sym c.if-not-follows.ensures;
        claimed = c.is_claimed_in.ensures.0 yes;
      }),
      (λ good. c.is_claimed_in.ensures.1 good.claimed),
    )
