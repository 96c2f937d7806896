use Rattle.std.proofs.Common.{Global, map, string_bytes}
use Rattle.run_soundness.specs.Claims.{IsTrueOfRun}
use Rattle.run_soundness.specs.Reports.{IsReportedOfRun}
use Rattle.typestate_core.proofs.RunTold.{complete_told}
use Rattle.typestate_core.proofs.SafeLines.{told_of_lines, all_safe_told}
use Rattle.typestate_core.proofs.verifier.run.Goals as goal

pub returns-clause-complete : goal.returns-clause-complete
returns-clause-complete g c =
    complete_told c.whole_input_is_reported.ensures (g.T.Tree.files c.args.tree.now) (map (string_bytes {Z = Global}) c.args.words.now) c.judge_and_write.result (g.S.Sink.taken c.args.out.now) (g.S.Sink.taken c.judge_and_write.new.out)
    c.judge_and_write.ensures.told

pub returns-clause-sound : goal.returns-clause-sound
returns-clause-sound g c =
    told_of_lines IsTrueOfRun c.written_safe_lines_are_true.ensures (g.T.Tree.files c.args.tree.now) (map (string_bytes {Z = Global}) c.args.words.now) c.judge_and_write.result (g.S.Sink.taken c.args.out.now) (g.S.Sink.taken c.judge_and_write.new.out)
    c.judge_and_write.ensures.told

pub returns-clause-about : goal.returns-clause-about
returns-clause-about g c =
    told_of_lines IsReportedOfRun c.written_safe_lines_are_reported.ensures (g.T.Tree.files c.args.tree.now) (map (string_bytes {Z = Global}) c.args.words.now) c.judge_and_write.result (g.S.Sink.taken c.args.out.now) (g.S.Sink.taken c.judge_and_write.new.out)
    c.judge_and_write.ensures.told

pub returns-clause-all_safe : goal.returns-clause-all_safe
returns-clause-all_safe g c =
    all_safe_told c.safe_runs_keep_the_protocol.ensures (g.T.Tree.files c.args.tree.now) (map (string_bytes {Z = Global}) c.args.words.now) c.judge_and_write.result (g.S.Sink.taken c.args.out.now) (g.S.Sink.taken c.judge_and_write.new.out)
    c.judge_and_write.ensures.told
