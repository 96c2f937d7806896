use Rattle.std.proofs.Common.{refl, length}
use Rattle.std.proofs.lemmas.Option.{slice_get_read}
use Rattle.report_sites.specs.Found.{GivesNew}
use Rattle.ground.proofs.Adding.{added_all, added_more}
use Rattle.report_sites.proofs.targets.add_outcomes.Goals as goal

pub loop-outcome-preserved : goal.loop-outcome-preserved
loop-outcome-preserved c =
    let outcomes = c.args.outcomes.now in
    let k = c.loop-outcome.outcome-index in
    let at = slice_get_read outcomes (length outcomes) k c.outcome-item.result refl c.loop-outcome-test.true c.outcome-item.is in
    record {
      added = added_more (GivesNew c.args.wanted.now.program.now c.args.wanted.now.upper c.args.method c.args.offset) outcomes k c.outcome-item.result at
          c.args.sites.now.items c.loop-outcome.sites.items c.add_outcome.new.sites.items c.loop-outcome.invariant.added c.in_ok-add_outcome.ensures;
    }

pub returns : goal.returns
returns c =
    added_all (GivesNew c.args.wanted.now.program.now c.args.wanted.now.upper c.args.method c.args.offset) c.args.outcomes.now c.loop-outcome.outcome-index c.loop-outcome-test.false
    c.args.sites.now.items c.loop-outcome.sites.items c.loop-outcome.invariant.added
