use Rattle.std.proofs.Common.{[], Contains, sym, subst, arith}
use Rattle.program_model.proofs.numbering.interfaces_of.Goals as goal

pub number_of-requires-clause-there : goal.number_of-requires-clause-there
number_of-requires-clause-there c =
    let count = c.interface_count-count.ensures in
    let test = c.loop-place-test.true in
    subst (Contains c.args.all.now) (sym c.interface_name.ensures) (c.requires.there c.loop-place.place [] (omega (arith, count, test)))
