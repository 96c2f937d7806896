use Rattle.std.proofs.Common.{◌-◌, arith}
use Rattle.chained_lists.proofs.links.place_named.Goals as goal

pub returns : goal.returns
returns c = λ es number start named. named.next (c.args.name - 1) (omega (arith, c.if-name-eq0.false))
