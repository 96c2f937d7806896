use Rattle.std.proofs.Common.{◌≡◌, List, Some, get_or, ap, ◌∙◌, subst}
use Rattle.std.specs.List.{slice_get}
use Rattle.std.proofs.lemmas.Option.{get_or_from_slice_get}
use Rattle.jvm_model.specs.declared.program.Origin.{Origin}
use Rattle.jvm_model.specs.declared.stub.StubField.{StubField}
use Rattle.jvm_model.specs.Linking.{fields_from}
use Rattle.jvm_model.specs.Programs.{Field, field_of}
use Rattle.jvm_model.specs.Stubs.{field_of_stub}
use Rattle.program_index.proofs.ListPlaces.{map_at}
use Rattle.program_model.proofs.origin.held_in.Goals as goal

pub returns-in-Folder : goal.returns-in-Folder
returns-in-Folder c f e =
    let class = c.in-Folder.file.class in
    let there = subst (λ (o : Origin). slice_get (fields_from o) c.args.place ≡ Some f) c.in-Folder.is e in
    let found = map_at (field_of class) class.fields c.args.place f there in
    ap (λ (x : Field). x.holds) found.2

pub returns-in-Stub : goal.returns-in-Stub
returns-in-Stub c f e =
    let stub = c.in-Stub.stub in
    let place = c.args.place in
    let field = c.index-as_slice-place.result in
    let there = subst (λ (o : Origin). slice_get (fields_from o) place ≡ Some f) c.in-Stub.is e in
    let found = map_at (field_of_stub stub.name) stub.fields place f there in
    let same = c.index-as_slice-place.is ∙ ap (λ (xs : List StubField). get_or xs place field) c.as_slice.ensures ∙ get_or_from_slice_get stub.fields place found.0 field found.1 in
    c.held_by.ensures ∙ ap (λ (x : StubField). x.holds) same ∙ ap (λ (x : Field). x.holds) found.2
