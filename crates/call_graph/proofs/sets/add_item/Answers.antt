use Rattle.std.proofs.Common.{refl, sym, subst}
use Rattle.std.proofs.lemmas.Result.{on_ok_weaker}
use Rattle.points_to_numbers.specs.declared.item.Item.{Item}
use Rattle.points_to_numbers.specs.Steps.{IsItemAt}
use Rattle.call_graph.specs.declared.sets.Sets.{Sets}
use Rattle.ground.proofs.ExactKeys.{same_methods, tells_methods}
use Rattle.ground.proofs.KeySets.{inserted_adds}
use Rattle.call_graph.proofs.SetsTaken.{holding_taken, run_taken, call_taken, use_taken}
use Rattle.call_graph.proofs.sets.add_item.Goals as goal

pub returns-in-Holds : goal.returns-in-Holds
returns-in-Holds c =
    let old = c.args.sets.now in
    let new : Sets = record { sites = c.add.new.self; running = old.running; calls = old.calls; targets = old.targets } in
    on_ok_weaker c.add.result (λ put. rw c.in-Holds.is (holding_taken c.args.tables.now c.in-Holds.place c.in-Holds.site old new put refl refl refl)) c.add.ensures.put

pub returns-in_ok-insert-in-Runs : goal.returns-in_ok-insert-in-Runs
returns-in_ok-insert-in-Runs c =
    let old = c.args.sets.now in
    let new : Sets = record { sites = old.sites; running = c.insert.new.self; calls = old.calls; targets = old.targets } in
    let added = inserted_adds same_methods tells_methods old.running.keys c.insert.new.self.keys c.in-Runs.method c.in_ok-insert-in-Runs.ensures.keys in
    rw c.in-Runs.is (run_taken c.args.tables.now c.in-Runs.method old new added refl refl refl)

pub returns-in-Calls : goal.returns-in-Calls
returns-in-Calls c =
    let n = c.args.tables.now in
    let (site, stands, is) = subst (λ (i : Item). IsItemAt n i c.requires.0) c.in-Calls.is c.requires.1 in
    let of_node = sym (c.call_of.ensures site stands).at in
    on_ok_weaker c.add_target.result
    (λ adds. rw c.in-Calls.is (call_taken n c.in-Calls.call c.in-Calls.target site c.call_of.result.now.at c.args.sets.now c.add_target.new.sets stands of_node adds))
    c.add_target.ensures

pub returns-in-Constrains : goal.returns-in-Constrains
returns-in-Constrains c = rw c.in-Constrains.is (use_taken c.args.tables.now c.in-Constrains.field-0 c.in-Constrains.field-1 c.args.sets.now)
