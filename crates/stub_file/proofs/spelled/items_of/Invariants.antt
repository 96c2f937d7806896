use Rattle.std.proofs.Common.{take}
use Rattle.std.specs.List.{AllZip}
use Rattle.stub_file.specs.StubReading.{ValueSpells}
use Rattle.stub_file.proofs.spelled.items_of.Given as goal

-- what the values so far spell
abbrev pub invariant-loop-value : goal.invariant-loop-value
invariant-loop-value g l = AllZip (ValueSpells g.X.Spelled.spells) (take l.value-index l.values) l.items.items
