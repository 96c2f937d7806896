use Rattle.std.proofs.Common.{sym}
use Rattle.std.proofs.lemmas.Option.{slice_get_within}
use Rattle.lowering.specs.declared.body.MethodCode.{MethodCode}
use Rattle.lowering.proofs.OwnCode.{own_body, no_description}
use Rattle.lowering.proofs.lower.lower_method.Goals as goal

pub unreachable-requires : goal.unreachable-requires
unreachable-requires c = no_description c.args.program.now c.args.method.0 c.args.code.now c.args.graph.now c.requires c.in_default.field-0 (c.in_default.ensures c.requires.method c.requires.stands)

pub method-requires : goal.method-requires
method-requires c = slice_get_within c.args.program.now.methods c.args.method.0 c.requires.method c.requires.stands

pub lower_body-requires : goal.lower_body-requires
lower_body-requires c =
    let b : MethodCode = record { program = c.args.program; method = c.args.method; current = c.method.result.class; class = c.in-InFile.file; code = c.args.code } in
    let view = c.method.ensures c.requires.method c.requires.stands in
    own_body b c.in-InFile.number c.args.graph.now c.requires c.well_formed-2.ensures.program (c.in-InFile.ensures c.requires.method c.requires.stands) view.below (sym view.class)
