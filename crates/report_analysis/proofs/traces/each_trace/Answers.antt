use Rattle.std.proofs.Common.{◌+◌, ◌∙◌, true, List, take, sym, ap, subst, arith}
use Rattle.std.specs.List.{AllZip}
use Rattle.std.specs.Prelude.{zip}
use Rattle.std.specs.declared.vec.Vec.{Vec}
use Rattle.std.proofs.lemmas.List.{take_all}
use Rattle.std.proofs.lemmas.Option.{get_or_from_slice_get, slice_get_within}
use Rattle.std.proofs.lemmas.Slice.Zip.{AllZip-long, length-zip}
use Rattle.list_laws.proofs.Places.{stands_below}
use Rattle.list_laws.proofs.Zips.{zip_at, zip_more}
use Rattle.site_report.specs.declared.tracked_site.TrackedSite.{TrackedSite}
use Rattle.site_report.specs.declared.verdict.Verdict.{Verdict}
use Rattle.report_analysis.specs.Judging.{IsToldBelowBy}
use Rattle.report_analysis.specs.Later.{IsVerdictOf}
use Rattle.report_analysis.proofs.Tracing.{known_at, pair_stands, told_at}
use Rattle.report_analysis.proofs.TurnedRound.{number_at}
use Rattle.report_analysis.proofs.traces.each_trace.Goals as goal

pub bounds-verdicts-place : goal.bounds-verdicts-place
bounds-verdicts-place c =
    let long = AllZip-long (IsVerdictOf c.args.asked) c.args.sites.now c.args.verdicts.now c.requires.verdicts in
    omega (arith, long, c.loop-place-test.true)

pub trace_of-requires-clause-known : goal.trace_of-requires-clause-known
trace_of-requires-clause-known c =
    let a = c.args.asked in
    let g = a.ground.now in
    let sites = c.args.sites.now in
    let i = c.loop-place.place in
    let (t, at) = stands_below sites i c.loop-place-test.true in
    let (v, beside, told) = zip_at (IsVerdictOf a) sites c.args.verdicts.now i t c.requires.verdicts at in
    known_at a sites c.args.verdicts.now i t v at beside _ _ _ told (number_at g sites c.args.numbers.now c.requires.numbers i t at)

pub loop-place-preserved : goal.loop-place-preserved
loop-place-preserved c =
    let a = c.args.asked in
    let sites = c.args.sites.now in
    let verdicts = c.args.verdicts.now in
    let i = c.loop-place.place in
    let (t, at) = stands_below sites i c.loop-place-test.true in
    let (v, beside, told) = zip_at (IsVerdictOf a) sites verdicts i t c.requires.verdicts at in
    let stands = pair_stands sites verdicts i t v at beside in
    let text = c.in_ok-trace_of.field-0 in
    let of_both = told_at a sites verdicts i t v at beside _ _ text c.in_ok-trace_of.ensures in
    let more = zip_more (IsToldBelowBy a true) (zip sites verdicts) c.loop-place.traces.items i (t, v) text (slice_get_within (zip sites verdicts) i (t, v) stands)
    (sym (get_or_from_slice_get (zip sites verdicts) i (t, v) (t, v) stands)) c.loop-place.invariant.told of_both in
    record { told = subst (λ (ts : List _). AllZip (IsToldBelowBy a true) (take (i + 1) (zip sites verdicts)) ts) (sym {A = List _} c.in_ok-push.ensures.items) more }

pub returns : goal.returns
returns c =
    let pairs = zip c.args.sites.now c.args.verdicts.now in
    let long = length-zip c.args.sites.now c.args.verdicts.now in
    let all = take_all c.loop-place.place pairs (let past = c.loop-place-test.false in omega (arith, long, past)) in
    subst (λ (ps : List (TrackedSite × Verdict)). AllZip (IsToldBelowBy c.args.asked true) ps c.loop-place.traces.items) all c.loop-place.invariant.told
