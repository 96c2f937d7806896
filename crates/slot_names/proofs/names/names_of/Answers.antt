use Rattle.slot_names.proofs.NamedTables.{are_names}
use Rattle.slot_names.proofs.ReachedNodes.{order_of}
use Rattle.slot_names.proofs.names.names_of.Goals as goal

pub returns : goal.returns
returns c =
    let l = c.args.method.now in
    are_names l c.in_ok-arrivals.arrivals c.in_ok-entries.field-0 (order_of l c.requires) c.in_ok-arrivals.ensures c.in_ok-entries.ensures.naming c.in_ok-entries.ensures.all
