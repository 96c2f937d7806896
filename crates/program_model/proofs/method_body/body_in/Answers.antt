use Rattle.std.proofs.Common.{◌≡◌, ℕ, List, Some, length, get_or, sym, ◌∙◌, ap, subst, arith, Bor}
use Rattle.std.specs.List.{enumerate_from, slice_get}
use Rattle.std.proofs.lemmas.Option.{get_or_from_slice_get}
use Rattle.jvm_model.specs.declared.program.Origin.{Origin}
use Rattle.jvm_model.specs.declared.stub.StubMethod.{StubMethod}
use Rattle.jvm_model.specs.Linking.{body_from, folder_method, methods_from}
use Rattle.jvm_model.specs.Programs.{Body, Method}
use Rattle.jvm_model.specs.Stubs.{method_of_stub}
use Rattle.program_index.proofs.ListPlaces.{map_at}
use Rattle.program_model.specs.Bodies.{IsBodyView}
use Rattle.program_model.specs.declared.method_body.MethodBody.TheVariants.{Described}
use Rattle.program_model.proofs.Declared.{length-folder_methods}
use Rattle.program_model.proofs.Pieces.{enumerated_at}
use Rattle.program_model.proofs.method_body.body_in.Goals as goal

pub body_in_file-requires : goal.body_in_file-requires
body_in_file-requires c =
    let is = ap (λ (o : Origin). length (methods_from o)) c.in-Folder.is in
    omega (arith, c.requires, is, length-folder_methods c.in-Folder.file c.in-Folder.natives)

pub returns-in-Folder : goal.returns-in-Folder
returns-in-Folder c m e =
    let class = c.in-Folder.file.class in
    let natives = c.in-Folder.natives in
    let place = c.args.place in
    let there = subst (λ (o : Origin). slice_get (methods_from o) place ≡ Some m) c.in-Folder.is e in
    let found = map_at (folder_method natives class) (enumerate_from 0 class.methods) place m there in
    let at = enumerated_at 0 class.methods place found.0 found.1 in
    let number : place ≡ found.0.0 = omega (arith, at.0) in
    let numbered : body_from natives class (place, found.0.1) ≡ m.body = ap (λ (n : ℕ). body_from natives class (n, found.0.1)) number ∙ ap (λ (x : Method). x.body) found.2 in
    let shown = subst (λ (ds : List StubMethod). IsBodyView (body_from ds class (place, found.0.1)) c.body_in_file.result) c.as_slice.ensures (c.body_in_file.ensures found.0.1 at.1) in
    subst (λ (b : Body). IsBodyView b c.body_in_file.result) numbered shown

-- a description is shown as itself
shown_as : (name : List ℕ) (description : StubMethod) (m : Method) (d : Bor StubMethod) → method_of_stub name description ≡ m → description ≡ d.now → IsBodyView m.body (Described d)
shown_as name description m d is same = subst (λ (x : Method). IsBodyView x.body (Described d)) is same

pub returns-in-Stub : goal.returns-in-Stub
returns-in-Stub c m e =
    let stub = c.in-Stub.stub in
    let place = c.args.place in
    let method = c.index-as_slice-place.result in
    let there = subst (λ (o : Origin). slice_get (methods_from o) place ≡ Some m) c.in-Stub.is e in
    let found = map_at (method_of_stub stub.name) stub.methods place m there in
    let same = c.index-as_slice-place.is ∙ ap (λ (xs : List StubMethod). get_or xs place method) c.as_slice-in-Stub.ensures ∙ get_or_from_slice_get stub.methods place found.0 method found.1 in
    shown_as stub.name found.0 m _ found.2 (sym same)
