use Rattle.std.proofs.Common.{◌≡◌, Global, Some, [], map, refl, string_bytes}
use Rattle.command_words.specs.Requests.{wanted_of}
use Rattle.run_spec.specs.declared.status.Status.TheVariants as statuses
use Rattle.run_spec.specs.Inputs.{IsOfTree}
use Rattle.run_spec.specs.Lines.{usage_line}
use Rattle.typestate_core.specs.Answers.{reports}
use Rattle.typestate_core.proofs.CallOrder.{no_report, no_run_calls, run_calls, sample_calls}
use Rattle.typestate_core.proofs.Judging.{no_sample, no_sample_asked, not_left, plain_mode, sample_told, usable_told, usage_told}
use Rattle.typestate_core.proofs.Stages.{numbers_in_range}
use Rattle.typestate_core.proofs.files.judge.Goals as goal

-- ---- on the tree

pub returns-in-Report : goal.returns-in-Report
returns-in-Report g c =
    let words = map (string_bytes {Z = Global}) c.args.words.now in
    let w = wanted_of c.in-Ok.request in
    let asks = c.in-Ok.ensures.asks in
    let plain : IsOfTree w.mode = plain_mode w.mode c.in-Report.is in
    let judged = c.judge_request.ensures in record {
      told = usable_told (g.T.Tree.files c.args.tree.now) c.judge_request.result words w plain asks judged.told;
      sampled = λ sample. absurd (no_sample words w plain asks sample);
      reported = judged.reported;
      read_fault = judged.read_fault;
      no_fault = judged.no_fault;
      same_files = judged.same_files;
      never_falls = judged.never_falls;
      calls = run_calls words (g.T.Tree.files c.args.tree.now) (g.T.Tree.called c.args.tree.now) (g.T.Tree.called c.judge_request.new.tree) (reports c.judge_request.result)
          w asks judged.calls;
      unread = λ left. absurd (not_left words w plain asks left);
      misused = λ misused. absurd (misused w asks);
    }

-- ---- on the sample

pub returns-in-Sample-clause-told : goal.returns-in-Sample-clause-told
returns-in-Sample-clause-told g c =
    sample_told (g.T.Tree.files c.args.tree.now) c.judge_sample.result (map (string_bytes {Z = Global}) c.args.words.now) (wanted_of c.in-Ok.request)
    c.in-Sample.count c.in-Sample.is c.in-Ok.ensures.asks c.judge_sample.ensures.told

pub returns-in-Sample-clause-sampled : goal.returns-in-Sample-clause-sampled
returns-in-Sample-clause-sampled g c = λ sample.
    sample_told (Some []) c.judge_sample.result (map (string_bytes {Z = Global}) c.args.words.now) (wanted_of c.in-Ok.request) c.in-Sample.count c.in-Sample.is
    c.in-Ok.ensures.asks c.judge_sample.ensures.told

pub returns-in-Sample-clause-calls : goal.returns-in-Sample-clause-calls
returns-in-Sample-clause-calls g c =
    sample_calls (map (string_bytes {Z = Global}) c.args.words.now) (g.T.Tree.files c.args.tree.now) (g.T.Tree.called c.args.tree.now) (reports c.judge_sample.result)
    (wanted_of c.in-Ok.request, c.in-Ok.ensures.asks, c.in-Sample.count, c.in-Sample.is)

pub returns-in-Sample-clause-misused : goal.returns-in-Sample-clause-misused
returns-in-Sample-clause-misused g c = λ misused. absurd (misused (wanted_of c.in-Ok.request) c.in-Ok.ensures.asks)

-- ---- where the words ask for nothing

pub returns-in-Err-Cause-clause-told : goal.returns-in-Err-Cause-clause-told
returns-in-Err-Cause-clause-told g c =
    let e = c.in-Err-Cause in
    usage_told (g.T.Tree.files c.args.tree.now) c.misuse.result (map (string_bytes {Z = Global}) c.args.words.now) e.field-0 e.fault e.field-0-is e.ensures.fault
    c.misuse.ensures.ok

pub returns-in-Err-Cause-clause-sampled : goal.returns-in-Err-Cause-clause-sampled
returns-in-Err-Cause-clause-sampled g c = λ sample.
    let e = c.in-Err-Cause in
    absurd (no_sample_asked (map (string_bytes {Z = Global}) c.args.words.now) e.field-0 e.fault e.field-0-is e.ensures.fault sample)

pub returns-in-Err-Cause-clause-calls : goal.returns-in-Err-Cause-clause-calls
returns-in-Err-Cause-clause-calls g c =
    no_run_calls (map (string_bytes {Z = Global}) c.args.words.now) (g.T.Tree.files c.args.tree.now) (g.T.Tree.called c.args.tree.now) (reports c.misuse.result)
    (no_report c.misuse.result statuses.Usage (usage_line c.in-Err-Cause.fault) refl c.misuse.ensures.ok)
