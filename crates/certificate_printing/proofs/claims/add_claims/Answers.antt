use Rattle.std.proofs.Common.{◌≡◌, ◌<◌, length, Some, arith}
use Rattle.std.specs.List.{slice_get}
use Rattle.certificate_printing.specs.Analysed.{IsClaimLine}
use Rattle.certificate_printing.proofs.Claiming.{claims_here, class_here, number_here, numbers_below, read_at, verdict_here, verdicts_below}
use Rattle.certificate_printing.proofs.Collecting.{below_all, below_more, below_none}
use Rattle.certificate_printing.proofs.claims.add_claims.Goals as goal

pub loop-place-init : goal.loop-place-init
loop-place-init c = record { added = below_none (IsClaimLine c.args.of c.args.judged.now) c.args.lines.now.items; within = omega arith }

pub index-requires-in-loop-place : goal.index-requires-in-loop-place
index-requires-in-loop-place c =
    let test = c.loop-place-test.true in
    let count = c.len-place-end.ensures in
    let less = verdicts_below c.args.of c.args.judged.now c.requires.judged c.loop-place.place (omega (arith, test, count)) in
    let long = c.args.judged.now.verdicts.ok in
    omega (arith, less, long)

pub index-requires-in-loop-place-2 : goal.index-requires-in-loop-place-2
index-requires-in-loop-place-2 c =
    let test = c.loop-place-test.true in
    let count = c.len-place-end.ensures in
    let less = numbers_below c.args.of c.args.judged.now c.requires.judged c.loop-place.place (omega (arith, test, count)) in
    let long = c.args.judged.now.numbers.ok in
    omega (arith, less, long)

pub add_verdict-requires-clause-class : goal.add_verdict-requires-clause-class
add_verdict-requires-clause-class c =
    let j = c.args.judged.now in
    let k = c.loop-place.place in
    let test = c.loop-place-test.true in
    let count = c.len-place-end.ensures in
    let short : k < length j.sites.items = omega (arith, test, count) in
    class_here c.args.of j c.requires.judged k short c.index.result.now (read_at j.sites.items k c.index.result.now short c.index.ensures)

pub add_verdict-requires-clause-verdict : goal.add_verdict-requires-clause-verdict
add_verdict-requires-clause-verdict c =
    let j = c.args.judged.now in
    let k = c.loop-place.place in
    let test = c.loop-place-test.true in
    let count = c.len-place-end.ensures in
    let short : k < length j.sites.items = omega (arith, test, count) in
    let v = c.index-in-loop-place.result.now in
    verdict_here c.args.of j c.requires.judged k short c.index.result.now (read_at j.sites.items k c.index.result.now short c.index.ensures) v
    (read_at j.verdicts.items k v (verdicts_below c.args.of j c.requires.judged k short) c.index-in-loop-place.ensures)

pub add_verdict-requires-clause-number : goal.add_verdict-requires-clause-number
add_verdict-requires-clause-number c =
    let j = c.args.judged.now in
    let k = c.loop-place.place in
    let test = c.loop-place-test.true in
    let count = c.len-place-end.ensures in
    let short : k < length j.sites.items = omega (arith, test, count) in
    let n = c.index-in-loop-place-2.result.now in
    number_here c.args.of j c.requires.judged k short c.index.result.now (read_at j.sites.items k c.index.result.now short c.index.ensures) n
    (read_at j.numbers.items k n (numbers_below c.args.of j c.requires.judged k short) c.index-in-loop-place-2.ensures)

pub loop-place-preserved : goal.loop-place-preserved
loop-place-preserved c =
    let a = c.args.of in
    let j = c.args.judged.now in
    let k = c.loop-place.place in
    let test = c.loop-place-test.true in
    let count = c.len-place-end.ensures in
    let short : k < length j.sites.items = omega (arith, test, count) in
    let v = c.index-in-loop-place.result.now in
    let old = c.loop-place.lines.items in
    let new = c.add_verdict.new.lines.items in
    let one =
    claims_here a j c.requires.judged k short c.index.result.now (read_at j.sites.items k c.index.result.now short c.index.ensures) v
    (read_at j.verdicts.items k v (verdicts_below a j c.requires.judged k short) c.index-in-loop-place.ensures) old new c.in_ok-add_verdict.ensures in
    record {
      added = below_more (IsClaimLine a j) k c.args.lines.now.items old new c.loop-place.invariant.added one;
      within = omega (arith, short);
    }

pub returns : goal.returns
returns c =
    let all = c.loop-place-test.false in
    let count = c.len-place-end.ensures in
    below_all (IsClaimLine c.args.of c.args.judged.now) c.loop-place.place (length c.args.judged.now.sites.items) c.loop-place.invariant.within
    (omega (arith, all, count)) c.args.lines.now.items c.loop-place.lines.items c.loop-place.invariant.added
