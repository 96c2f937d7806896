use Rattle.code_reader.proofs.Front.{known_more}
use Rattle.code_reader.proofs.body.known_targets.Goals as goal

pub loop-target-preserved : goal.loop-target-preserved
loop-target-preserved c =
    rw (c.in_ok-push_known.ensures, c.loop-target.invariant) (known_more c.args.targets.now c.loop-target.target-index _ c.loop-target-test.true)
