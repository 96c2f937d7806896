use Rattle.points_to.proofs.StartParts.{all_added, start_call_stays}
use Rattle.points_to.proofs.start.start_items.Goals as goal

pub returns-clause-adds : goal.returns-clause-adds
returns-clause-adds c =
    all_added c.args.program.now c.args.entry c.entry_items.new.work.tables c.argument_items.new.work.tables c.initialiser_items.new.work.tables c.args.work.now.steps.items c.entry_items.new.work.steps.items c.argument_items.new.work.steps.items
    c.initialiser_items.new.work.steps.items c.in_ok-entry_items.ensures.adds c.in_ok-argument_items.ensures.grows c.in_ok-argument_items.ensures.adds c.in_ok-initialiser_items.ensures.grows c.in_ok-initialiser_items.ensures.adds

pub returns-clause-call : goal.returns-clause-call
returns-clause-call c =
    let first = c.in_ok-argument_items.ensures in
    let second = c.in_ok-initialiser_items.ensures in
    start_call_stays c.argument_items.new.work.tables.calls c.initialiser_items.new.work.tables.calls second.grows.calls second.calls
    (start_call_stays c.entry_items.new.work.tables.calls c.argument_items.new.work.tables.calls first.grows.calls first.calls c.in_ok-entry_items.ensures.call)
