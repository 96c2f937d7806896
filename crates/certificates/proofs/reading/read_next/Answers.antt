use Rattle.std.proofs.Common.{List, refl, sym, subst, ap, ◌∙◌}
use Rattle.std.proofs.lemmas.Bool.{false≢true}
use Rattle.certificate_lines.specs.declared.line.Line.{Line}
use Rattle.certificates.specs.Format.{IsGoodAfter, count_of}
use Rattle.line_guesses.specs.Fits.{Fits}
use Rattle.line_guesses.proofs.Bounds.{line_below}
use Rattle.certificates.proofs.TextLaws.{stopped_by_order, stopped_by_text}
use Rattle.certificates.proofs.reading.read_next.Goals as goal

pub may_follow-requires-clause-fits : goal.may_follow-requires-clause-fits
may_follow-requires-clause-fits c = subst (λ (x : Line). Fits x) (sym c.in_ok-line.ensures) (line_below c.args.bytes.now)

pub may_follow-requires-clause-states : goal.may_follow-requires-clause-states
may_follow-requires-clause-states c = c.requires.states ∙ ap (count_of 2) (sym c.as_slice.ensures.value)

pub may_follow-requires-clause-events : goal.may_follow-requires-clause-events
may_follow-requires-clause-events c = c.requires.events ∙ ap (count_of 5) (sym c.as_slice.ensures.value)

pub returns-then-not-may_follow : goal.returns-then-not-may_follow
returns-then-not-may_follow c =
    stopped_by_order c.args.ranges c.args.lines.now.items c.as_slice.result.now c.args.bytes.now c.in_ok-line.line c.as_slice.ensures.value c.in_ok-line.ensures
    (λ good. false≢true (c.if-not-may_follow.ensures.1 good))

pub returns-in-None : goal.returns-in-None
returns-in-None c =
    let after = rw c.in-None.is at c.in_ok-after.ensures in
    stopped_by_text c.args.ranges c.args.lines.now.items c.args.bytes.now c.in_ok-line.line c.in_ok-line.ensures after

pub returns : goal.returns
returns c =
    let after = rw c.in-Some.is at c.in_ok-after.ensures in
    record {
      x = c.in_ok-line.line;
      good = subst (λ (all : List Line). IsGoodAfter c.args.ranges all c.in_ok-line.line) c.as_slice.ensures.value (c.if-not-may_follow.ensures.0 refl);
      begins = after;
      added = c.in_ok-push-in-Some.ensures.items;
      kind_is = c.kind_of-kind.ensures;
    }
