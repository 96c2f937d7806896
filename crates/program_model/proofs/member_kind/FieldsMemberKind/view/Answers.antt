use Rattle.std.proofs.Common.{◌≡◌, List, map, get_or, Some, sym, ◌∙◌, ap, subst}
use Rattle.std.specs.List.{slice_get}
use Rattle.std.proofs.lemmas.Option.{get_or_from_slice_get}
use Rattle.jvm_model.specs.declared.program.Origin.{Origin}
use Rattle.jvm_model.specs.declared.stub.StubField.{StubField}
use Rattle.jvm_model.specs.Stubs.{field_of_stub}
use Rattle.program_index.proofs.ListPlaces.{map_at}
use Rattle.program_model.specs.Declarations.{Declaration, IsShownAs, member_declaration, field_declaration, field_declarations}
use Rattle.program_model.proofs.Declared.{fields_of_folder}
use Rattle.program_model.proofs.member_kind.FieldsMemberKind.view.Goals as goal

pub returns-in-Folder : goal.returns-in-Folder
returns-in-Folder c d e =
    let file = c.in-Folder.file in
    let declared = ap field_declarations c.in-Folder.is ∙ fields_of_folder file c.in-Folder.natives ∙ ap (map (member_declaration file.class)) (sym c.as_slice.ensures) in
    c.view_in_file.ensures d (subst (λ (ds : List Declaration). slice_get ds c.args.place ≡ Some d) declared e)

pub returns-in-Stub : goal.returns-in-Stub
returns-in-Stub c d e =
    let stub = c.in-Stub.stub in
    let place = c.args.place in
    let field = c.index-as_slice-place.result in
    let there = subst (λ (o : Origin). slice_get (field_declarations o) place ≡ Some d) c.in-Stub.is e in
    let found = map_at field_declaration (map (field_of_stub stub.name) stub.fields) place d there in
    let described = map_at (field_of_stub stub.name) stub.fields place found.0 found.1 in
    let same = c.index-as_slice-place.is ∙ ap (λ (xs : List StubField). get_or xs place field) c.as_slice-in-Stub.ensures ∙ get_or_from_slice_get stub.fields place described.0 field described.1 in
    let shown : IsShownAs c.args.class.0 (field_declaration (field_of_stub stub.name field)) c.view_of.result = record {
      class_number = ap (λ n. n.0) c.view_of.ensures.class;
      same_flags = sym (c.view_of.ensures.flags ∙ c.public_flags-flags.ensures);
      same_signature = sym c.view_of.ensures.signature;
    } in
    subst (λ (x : Declaration). IsShownAs c.args.class.0 x c.view_of.result)
    (ap (λ (f : StubField). field_declaration (field_of_stub stub.name f)) same ∙ ap field_declaration described.2 ∙ found.2) shown
