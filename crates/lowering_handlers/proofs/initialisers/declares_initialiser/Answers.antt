use Rattle.std.proofs.lemmas.Option.{slice_get_within}
use Rattle.program_model.specs.Numbers.{name_at}
use Rattle.lowering_handlers.proofs.DeclaredInitialisers.{none_declared, declared_in_file, declared_nowhere}
use Rattle.lowering_handlers.proofs.initialisers.declares_initialiser.Goals as goal

pub returns-in_default : goal.returns-in_default
returns-in_default c = (λ t. absurd cc, λ d. absurd (none_declared c.args.program.now _ c.in_default.ensures.none d))

pub method_body-requires : goal.method_body-requires
method_body-requires c = let found = c.in-Some.ensures.found in slice_get_within c.args.program.now.methods c.in-Some.method.0 found.method found.stands

pub returns-in-InFile : goal.returns-in-InFile
returns-in-InFile c =
    let p = c.args.program.now in
    let found = c.in-Some.ensures.found in
    declared_in_file p c.well_formed-2.ensures.program (name_at p c.args.class.0) c.in-Some.method.0 found c.in-InFile.file c.in-InFile.number c.has_code.result
    (c.in-InFile.ensures found.method found.stands) c.has_code.ensures.of_member

pub returns-in-Described : goal.returns-in-Described
returns-in-Described c =
    let p = c.args.program.now in
    let found = c.in-Some.ensures.found in
    (λ t. absurd cc, λ d. absurd (declared_nowhere p c.well_formed-2.ensures.program (name_at p c.args.class.0) c.in-Some.method.0 found c.in-Described.field-0 (c.in-Described.ensures found.method found.stands) d))
