use Rattle.std.proofs.Common.{◌∙◌, sym}
use Rattle.std.proofs.lemmas.Option.{slice_get_within}
use Rattle.entry_points.proofs.Starting.{no_class}
use Rattle.entry_points.proofs.entry.starting.Goals as goal

pub returns-in_default-clause-none : goal.returns-in_default-clause-none
returns-in_default-clause-none c n s =
    no_class c.args.program.now c.well_formed-2.ensures.program c.args.class.now c.in_default.ensures.none n s.found s.stands s.of_class

pub returns-in_default-declared_method-clause-none :
    goal.returns-in_default-declared_method-clause-none
returns-in_default-declared_method-clause-none c n s =
    c.in_default-declared_method.ensures.none n (record { method = s.found; stands = s.stands; of_class = s.of_class ∙ sym c.in-Some.ensures.found.1; is = s.named })

pub is_static-requires : goal.is_static-requires
is_static-requires c =
    let found = c.in-Some-declared_method.ensures.found in
    slice_get_within c.args.program.now.methods c.in-Some-declared_method.number.0 found.method found.stands

pub is_coded-requires : goal.is_coded-requires
is_coded-requires c =
    let found = c.in-Some-declared_method.ensures.found in
    slice_get_within c.args.program.now.methods c.in-Some-declared_method.number.0 found.method found.stands
