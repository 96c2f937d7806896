use Rattle.std.proofs.Common.{List, arith, subst}
use Rattle.std.specs.List.{AllZip}
use Rattle.std.proofs.lemmas.List.{take_all}
use Rattle.toml.specs.declared.value.Value.{Value}
use Rattle.stub_file.specs.StubReading.{ValueSpells}
use Rattle.toml_tables.proofs.Finding.{Finds-none, Finds-some}
use Rattle.toml_tables.proofs.Lists.{AllZip-more, AllZip-none}
use Rattle.stub_file.proofs.Spelling.{AllSpell-from_values, AllSpell-values}
use Rattle.stub_file.proofs.spelled.items_of.Goals as goal

pub returns-in-None : goal.returns-in-None
returns-in-None g c = λ xs z.
    let spells = g.X.Spelled.spells in
    AllZip-none (ValueSpells spells) c.args.values.now xs c.loop-value.value-index c.value-item.result (omega arith) c.value-item.is
    (Finds-none (ValueSpells spells c.value-item.result) c.in_ok-item.field-0 c.in-None.is c.in_ok-item.ensures)
    (AllSpell-values spells c.args.values.now xs z)

pub loop-value-preserved : goal.loop-value-preserved
loop-value-preserved g c =
    let spells = g.X.Spelled.spells in
    rw c.in_ok-push-in-Some.ensures.items
    (AllZip-more (ValueSpells spells) c.args.values.now c.loop-value.items.items c.loop-value.value-index c.value-item.result c.in-Some.item (omega arith) c.value-item.is c.loop-value.invariant
    (Finds-some (ValueSpells spells c.value-item.result) c.in_ok-item.field-0 c.in-Some.item c.in-Some.is c.in_ok-item.ensures))

pub returns : goal.returns
returns g c =
    let spells = g.X.Spelled.spells in
    let values = c.args.values.now in
    let items = c.loop-value.items.items in
    let all = subst (λ (vs : List Value). AllZip (ValueSpells spells) vs items) (take_all c.loop-value.value-index values (omega arith)) c.loop-value.invariant in
    rw c.from_vec.ensures (AllSpell-from_values spells values items all)
