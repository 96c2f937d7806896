use Rattle.std.proofs.Common.{◌≡◌, map, take}
use Rattle.stub_file.proofs.base_row.all_of.Given as goal

-- what the rows so far say
abbrev pub invariant-loop-row : goal.invariant-loop-row
invariant-loop-row g l = l.all.items ≡ map g.R.Row.says (take l.row-index l.rows)
