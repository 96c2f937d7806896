use Rattle.std.proofs.Common.{◌≡◌}
use Rattle.stage_calls.proofs.Happening.{facts_after}
use Rattle.stage_calls.proofs.event.tuple_facts.Goals as goal

pub returns : goal.returns
returns g c w l n setting knows =
    let t = c.args.tuple.now in
    let state : c.tuple.inside.state ≡ t.state = cc in
    facts_after w l n c.args.call.now t c.args.setting.now.automaton.now c.tuple.inside.state c.in-Some.next c.in-Some-receiver.slot _ setting.property state
    c.in-Some.ensures c.in-Some-receiver.ensures (c.after_event.ensures w l n setting knows)
