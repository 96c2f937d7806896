use Rattle.std.proofs.Common.{◌≡◌, List, length, map, get_or, Some, sym, ◌∙◌, ap, subst, arith}
use Rattle.std.specs.List.{slice_get}
use Rattle.std.proofs.lemmas.List.{length-map}
use Rattle.std.proofs.lemmas.Option.{get_or_from_slice_get}
use Rattle.jvm_model.specs.declared.class_file.Member.{Member}
use Rattle.jvm_model.specs.declared.program.Origin.{Origin}
use Rattle.jvm_model.specs.declared.stub.StubMethod.{StubMethod}
use Rattle.jvm_model.specs.Stubs.{method_of_stub}
use Rattle.program_index.proofs.ListPlaces.{map_at}
use Rattle.program_model.specs.Declarations.{Declaration, IsShownAs, member_declaration, method_declaration, method_declarations}
use Rattle.program_model.proofs.Declared.{methods_of_folder}
use Rattle.program_model.proofs.member_kind.MethodsMemberKind.view.Goals as goal

pub view_in_file-requires : goal.view_in_file-requires
view_in_file-requires c =
    let file = c.in-Folder.file in
    let is = ap (λ (o : Origin). length (method_declarations o)) c.in-Folder.is in
    let long = ap (length {A = Declaration}) (methods_of_folder file c.in-Folder.natives) ∙ length-map file.class.methods (member_declaration file.class) in
    let slice = ap (length {A = Member}) c.as_slice.ensures in
    omega (arith, c.requires, is, long, slice)

pub returns-in-Folder : goal.returns-in-Folder
returns-in-Folder c d e =
    let file = c.in-Folder.file in
    let declared = ap method_declarations c.in-Folder.is ∙ methods_of_folder file c.in-Folder.natives ∙ ap (map (member_declaration file.class)) (sym c.as_slice.ensures) in
    c.view_in_file.ensures d (subst (λ (ds : List Declaration). slice_get ds c.args.place ≡ Some d) declared e)

pub returns-in-Stub : goal.returns-in-Stub
returns-in-Stub c d e =
    let stub = c.in-Stub.stub in
    let place = c.args.place in
    let method = c.index-as_slice-place.result in
    let there = subst (λ (o : Origin). slice_get (method_declarations o) place ≡ Some d) c.in-Stub.is e in
    let found = map_at method_declaration (map (method_of_stub stub.name) stub.methods) place d there in
    let described = map_at (method_of_stub stub.name) stub.methods place found.0 found.1 in
    let same = c.index-as_slice-place.is ∙ ap (λ (xs : List StubMethod). get_or xs place method) c.as_slice-in-Stub.ensures ∙ get_or_from_slice_get stub.methods place described.0 method described.1 in
    let shown : IsShownAs c.args.class.0 (method_declaration (method_of_stub stub.name method)) c.view_of.result = record {
      class_number = ap (λ n. n.0) c.view_of.ensures.class;
      same_flags = sym (c.view_of.ensures.flags ∙ c.public_flags-flags.ensures);
      same_signature = sym c.view_of.ensures.signature;
    } in
    subst (λ (x : Declaration). IsShownAs c.args.class.0 x c.view_of.result)
    (ap (λ (m : StubMethod). method_declaration (method_of_stub stub.name m)) same ∙ ap method_declaration described.2 ∙ found.2) shown
