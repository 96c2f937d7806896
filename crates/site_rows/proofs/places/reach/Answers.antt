use Rattle.site_rows.proofs.Setting.{same_pushed}
use Rattle.site_rows.proofs.places.reach.Goals as goal

pub loop-rows-preserved : goal.loop-rows-preserved
loop-rows-preserved c = record {
  same = rw c.in_ok-push.ensures.items (same_pushed c.args.rows.now.items c.loop-rows.rows.items c.new.result c.loop-rows.invariant.same c.new.ensures.held c.new.ensures.fresh);
}
