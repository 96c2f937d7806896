use Rattle.std.proofs.Common.{◌++◌, List, inr, refl, sym, ap, subst, ◌∙◌, arith}
use Rattle.std.proofs.lemmas.Bool.{false≢true}
use Rattle.std.proofs.lemmas.List.{append-nil}
use Rattle.certificate_lines.specs.declared.line.Line.{Line}
use Rattle.certificates.specs.Format.{IsEnded}
use Rattle.certificates.specs.Texts.{text}
use Rattle.certificates.proofs.TextLaws.{bad_here, count_few, lines_within, read_more_begins, read_more_count, read_more_good, read_more_less, read_more_number}
use Rattle.certificates.proofs.reading.read_lines.Goals as goal

pub loop-rest-preserved : goal.loop-rest-preserved
loop-rest-preserved c =
    let one = rw c.in-Some.is at c.in_ok-read_next.ensures in
    let r = c.args.ranges in
    let old = c.loop-rest.lines.items in
    let new = c.read_next.new.lines.items in
    let rest = c.loop-rest.rest.now in
    let after = c.in-Some.after.now in
    let k = c.in-Some.kind in
    record {
      good = read_more_good r old new rest after k c.loop-rest.invariant.good one;
      begins = read_more_begins r old new c.args.bytes.now rest after k c.loop-rest.invariant.begins one;
      number = read_more_number r old new rest after k c.loop-rest.number c.loop-rest.invariant.number one;
      states = read_more_count r old new rest after k 2 c.loop-rest.counts.states c.with-counts.result.states c.loop-rest.invariant.states one c.with-counts.ensures.states;
      events = read_more_count r old new rest after k 5 c.loop-rest.counts.events c.with-counts.result.events c.loop-rest.invariant.events one c.with-counts.ensures.events;
    }

pub loop-rest-smaller : goal.loop-rest-smaller
loop-rest-smaller c =
    let one = rw c.in-Some.is at c.in_ok-read_next.ensures in
    read_more_less c.args.ranges c.loop-rest.lines.items c.read_next.new.lines.items c.loop-rest.rest.now c.in-Some.after.now c.in-Some.kind one

pub with-counts-requires-clause-states : goal.with-counts-requires-clause-states
with-counts-requires-clause-states c =
    count_few 2 c.loop-rest.counts.states c.loop-rest.lines.items c.args.bytes.now c.loop-rest.rest.now c.loop-rest.invariant.states c.loop-rest.invariant.begins
    c.if-bytes.false

pub with-counts-requires-clause-events : goal.with-counts-requires-clause-events
with-counts-requires-clause-events c =
    count_few 5 c.loop-rest.counts.events c.loop-rest.lines.items c.args.bytes.now c.loop-rest.rest.now c.loop-rest.invariant.events c.loop-rest.invariant.begins
    c.if-bytes.false

pub overflow_add-number : goal.overflow_add-number
overflow_add-number c =
    let l = lines_within c.loop-rest.lines.items c.args.bytes.now c.loop-rest.rest.now c.loop-rest.invariant.begins in
    omega (arith, l, c.loop-rest.invariant.number, c.if-bytes.false)

pub returns-in-None-clause-end : goal.returns-in-None-clause-end
returns-in-None-clause-end c =
    let stop = rw c.in-None.is at c.in_ok-read_next.ensures in
    let all = c.loop-rest.lines.items in
    inr (
      c.if-bytes.false,
      bad_here c.args.ranges all c.args.bytes.now c.loop-rest.rest.now c.loop-rest.number c.loop-rest.invariant.good c.loop-rest.invariant.begins c.loop-rest.invariant.number stop
          (λ both. false≢true (c.loop-rest-test.ensures.1 (subst (λ (xs : List Line). IsEnded xs) (sym c.as_slice.ensures.value) both.0, both.1))),
    )

pub returns : goal.returns
returns c =
    let both = c.loop-rest-test.ensures.0 refl in
    let all = c.loop-rest.lines.items in
    record {
      certificate = rw c.from_vec.ensures (record {
        good = c.loop-rest.invariant.good;
        ended = subst (λ (xs : List Line). IsEnded xs) c.as_slice.ensures.value both.0;
      });
      found = rw c.from_vec.ensures (c.loop-rest.invariant.begins ∙ ap (λ xs. text all ++ xs) both.1 ∙ append-nil (text all));
      end = tt;
    }
