use Rattle.std.proofs.Common.{arith}
use Rattle.list_laws.proofs.Zips.{zip_more}
use Rattle.property_file.specs.Reading.{IsEventTable}
use Rattle.toml_tables.proofs.Lists.{AllZip-none}
use Rattle.toml_tables.proofs.Finding.{Finds-none, Finds-some}
use Rattle.property_file.proofs.event_list.events_of.Goals as goal

pub returns-in-None : goal.returns-in-None
returns-in-None c = λ events.
    AllZip-none (IsEventTable c.args.states.now c.args.error) c.args.values.now events c.loop-value.value-index c.value-item.result (omega arith) c.value-item.is
    (Finds-none _ c.in_ok-event.field-0 c.in-None.is c.in_ok-event.ensures)

pub loop-value-preserved : goal.loop-value-preserved
loop-value-preserved c =
    rw c.in_ok-push-in-Some.ensures.items
    (zip_more (IsEventTable c.args.states.now c.args.error) c.args.values.now c.loop-value.events.items c.loop-value.value-index c.value-item.result c.in-Some.event (omega arith) c.value-item.is c.loop-value.invariant
    (Finds-some _ c.in_ok-event.field-0 c.in-Some.event c.in-Some.is c.in_ok-event.ensures))
