use Rattle.std.proofs.Common.{arith}
use Rattle.list_laws.proofs.Zips.{zip_more}
use Rattle.property_file.specs.Reading.{IsStateText}
use Rattle.toml_tables.proofs.Lists.{AllZip-none}
use Rattle.property_file.proofs.state_list.state_numbers.Goals as goal

pub returns-in-None : goal.returns-in-None
returns-in-None c = λ numbers.
    AllZip-none (IsStateText c.args.states.now) c.args.values.now numbers c.loop-value.value-index c.value-item.result (omega arith) c.value-item.is c.in-None.ensures

pub loop-value-preserved : goal.loop-value-preserved
loop-value-preserved c =
    rw c.in_ok-push-in-Some.ensures.items
    (zip_more (IsStateText c.args.states.now) c.args.values.now c.loop-value.numbers.items c.loop-value.value-index c.value-item.result c.in-Some.number (omega arith) c.value-item.is c.loop-value.invariant c.in-Some.ensures)
