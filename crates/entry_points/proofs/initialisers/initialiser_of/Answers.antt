use Rattle.std.proofs.lemmas.Option.{slice_get_within}
use Rattle.entry_points.proofs.initialisers.initialiser_of.Goals as goal

pub returns-in_default-clause-none : goal.returns-in_default-clause-none
returns-in_default-clause-none c number d = c.in_default.ensures.none number (record { method = d.method; stands = d.stands; of_class = d.of_class; is = d.named })

pub is_coded-requires : goal.is_coded-requires
is_coded-requires c = let found = c.in-Some.ensures.found in slice_get_within c.args.program.now.methods c.in-Some.method.0 found.method found.stands
