use Rattle.std.proofs.Common.{sym, ◌∙◌}
use Rattle.stage_calls.proofs.left_out.LeftOutPathTest.holds.Goals as goal

pub returns : goal.returns
returns g c p test = c.is_left_out.ensures test.setting test.method test.node test.exit test.known ∙ sym (test.tells c.args.path.now)
