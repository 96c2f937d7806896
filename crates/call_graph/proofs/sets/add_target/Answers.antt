use Rattle.std.proofs.Common.{refl}
use Rattle.std.proofs.lemmas.Result.{on_ok_weaker}
use Rattle.points_to_numbers.proofs.AddedKeys.{inserted}
use Rattle.call_graph.specs.declared.sets.Sets.{Sets}
use Rattle.ground.proofs.ExactKeys.{same_calls, tells_calls}
use Rattle.ground.proofs.KeySets.{apart_from_distinct_keys}
use Rattle.call_graph.proofs.SetsTaken.{target_added}
use Rattle.call_graph.proofs.sets.add_target.Goals as goal

pub returns : goal.returns
returns c =
    let old = c.args.sets.now in
    let keys = c.insert_full.new.self.keys in
    let number = c.in_ok-number.number in
    let new : Sets = record { sites = old.sites; running = old.running; calls = c.insert_full.new.self; targets = c.add_at.new.self } in
    let calls = inserted same_calls tells_calls.exact tells_calls.itself old.calls.keys keys c.args.call number c.in_ok-number.ensures.keys c.in_ok-number.ensures.stored in
    let apart = apart_from_distinct_keys same_calls tells_calls keys c.in_ok-number.ensures.unique in
    on_ok_weaker c.add_at.result (λ put. target_added old new c.args.call c.args.target number calls apart put refl refl) c.add_at.ensures.put
