use Rattle.std.proofs.lemmas.Result.{on_ok_weaker}
use Rattle.list_laws.proofs.Places.{contains_at}
use Rattle.tabulation_tables.specs.Lists.{lists_of}
use Rattle.tabulation_tables.proofs.Still.{exits_still}
use Rattle.tabulation.proofs.Steps.{on_ok_both, step_more}
use Rattle.tabulation.proofs.processing.process.Goals as goal

pub returns-clause-step : goal.returns-clause-step
returns-clause-step c =
    on_ok_weaker c.extend.result (λ step.
    step_more c.args.work.question.now (lists_of c.args.tables.now) (lists_of c.come_to.new.tables) (lists_of c.extend.new.tables) c.in_ok-come_to.ensures.step step) c.extend.ensures.step

pub returns-clause-processed : goal.returns-clause-processed
returns-clause-processed c =
    let first = lists_of c.args.tables.now in
    let one = lists_of c.come_to.new.tables in
    let two = lists_of c.extend.new.tables in
    let e = c.at-edge.result in
    let is = c.requires.kept.right.shape.edges e.begin e.end (contains_at first.edges c.args.number.0 e c.at-edge.ensures) in
    let came = c.in_ok-come_to.ensures in
    on_ok_weaker c.extend.result (λ both.
    record {
      edge = e;
      at = both.0.grows.edges c.args.number.0 e (came.step.grows.edges c.args.number.0 e c.at-edge.ensures);
      end = is.end;
      end_at = both.0.grows.ends e.end is.end (came.step.grows.ends e.end is.end is.end_at);
      visited = λ offset spot. both.0.grows.visits e.end (came.visited is.end offset is.end_at spot);
      left = λ exit. exits_still one two both.0.grows e.begin c.args.number.0 (came.left is.end is.end_at exit);
      led = both.1;
    }) (on_ok_both c.extend.result _ _ c.extend.ensures.step c.extend.ensures.led)
