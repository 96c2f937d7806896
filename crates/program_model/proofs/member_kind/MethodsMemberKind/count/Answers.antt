use Rattle.std.proofs.Common.{length, sym, ◌∙◌, ap}
use Rattle.std.proofs.lemmas.List.{length-map}
use Rattle.jvm_model.specs.declared.program.Origin.{Origin}
use Rattle.program_model.specs.Declarations.{Declaration, member_declaration, method_declarations}
use Rattle.program_model.proofs.Declared.{methods_of_folder}
use Rattle.program_model.proofs.member_kind.MethodsMemberKind.count.Goals as goal

pub returns-in-Folder : goal.returns-in-Folder
returns-in-Folder c =
    let file = c.in-Folder.file in
    let long = ap (length {A = Declaration}) (methods_of_folder file c.in-Folder.natives) ∙ length-map file.class.methods (member_declaration file.class) in
    c.len.ensures ∙ sym long ∙ ap (λ (o : Origin). length (method_declarations o)) (sym c.in-Folder.is)
