use Rattle.std.proofs.Common.{◌+◌, ◌<◌, ◌≤◌, ◌∙◌, arith}
use Rattle.stage_calls.proofs.SlotTests.{alike_absent, alike_within}
use Rattle.stage_calls.proofs.alike.is_alike.Goals as goal

pub returns-then-first-count : goal.returns-then-first-count
returns-then-first-count g c w l n knows =
    let count = c.slots-count.ensures w l n knows in
    let inside : c.args.second < l.slots + l.stack = omega (arith, count, c.if-second-count.false) in
    let outside : l.slots + l.stack ≤ c.args.first = omega (arith, count, c.if-first-count.true) in
    alike_absent w l n c.args.second c.args.first inside outside

pub returns : goal.returns
returns g c w l n knows =
    let count = c.slots-count.ensures w l n knows in
    let inside : c.args.second < l.slots + l.stack = omega (arith, count, c.if-second-count.false) in
    let within : c.args.first < l.slots + l.stack = omega (arith, count, c.if-first-count.false) in
    c.share.ensures w l n knows ∙ alike_within w l n c.args.second c.args.first inside within
