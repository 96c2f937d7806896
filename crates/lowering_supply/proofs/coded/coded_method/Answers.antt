use Rattle.std.proofs.lemmas.Option.{slice_get_within}
use Rattle.lowering_supply.proofs.Shown.{no_description, shown}
use Rattle.lowering_supply.proofs.coded.coded_method.Goals as goal

pub method_body-requires : goal.method_body-requires
method_body-requires c = slice_get_within c.args.program.now.methods c.args.number.0 c.requires.method c.requires.stands

pub unreachable-requires : goal.unreachable-requires
unreachable-requires c = no_description c.args.program.now c.args.number.0 c.requires c.in_default.field-0 (c.in_default.ensures c.requires.method c.requires.stands)

pub method-requires : goal.method-requires
method-requires c = slice_get_within c.args.program.now.methods c.args.number.0 c.requires.method c.requires.stands

pub returns-clause-shown : goal.returns-clause-shown
returns-clause-shown c =
    let view = c.method.ensures c.requires.method c.requires.stands in
    shown c.args.program.now c.args.number c.requires c.in-InFile.file c.in-InFile.place c.method.result.class c.well_formed-2.ensures.program (c.in-InFile.ensures c.requires.method c.requires.stands) view.below view.class
