use Rattle.std.specs.List.{Contains}
use Rattle.ground.specs.Findings.{gives_listed}
use Rattle.stage_transfer.specs.Stages.{transfer_of}
use Rattle.ground_views.specs.Questions.{GroundInstance}
use Rattle.tabulation_tables.specs.Lists.{lists_of}
use Rattle.tabulation.proofs.Closing.{closed}
use Rattle.tabulation.proofs.Full.{all_derivable, edges_apart}
use Rattle.tabulation.proofs.work_list.tabulate.Goals as goal

pub returns-clause-edges : goal.returns-clause-edges
returns-clause-edges c = λ x w asked.
    let q = c.args.question.now in
    let g = q.ground.now in
    let t = lists_of c.process_all.new.tables in
    let done = c.in_ok-process_all.ensures.finished in
    let right = done.kept.right in
    let sound = right.sound x w asked in
    record {
      least = record {
        closed = closed x (gives_listed g.methods) (Contains g.facts) (transfer_of w) t right.shape c.well_formed-2.ensures.apart sound done.start done.processed;
        derivable = all_derivable (GroundInstance q x w) t sound;
      };
      apart = edges_apart t right.shape c.well_formed-2.ensures.apart c.well_formed-3.ensures.apart;
    }

pub returns-clause-reasons : goal.returns-clause-reasons
returns-clause-reasons c = λ x w asked. (c.in_ok-process_all.ensures.finished.kept.right.sound x w asked).reasons
