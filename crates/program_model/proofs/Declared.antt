-- What a class file declares: its members.
use Rattle.std.proofs.Common.{◌≡◌, ℕ, ◌+◌, List, [], ◌∷◌, map, refl, ap, length, ◌∙◌}
use Rattle.std.specs.List.{enumerate_from}
use Rattle.std.proofs.lemmas.List.{length-map}
use Rattle.std.proofs.lemmas.List.FromFn.{length-enumerate_from}
use Rattle.jvm_model.specs.declared.class_file.ClassFile.{ClassFile}
use Rattle.jvm_model.specs.declared.class_file.Member.{Member}
use Rattle.jvm_model.specs.declared.program.NamedClass.{NamedClass}
use Rattle.jvm_model.specs.declared.program.Origin.TheVariants.{Folder}
use Rattle.jvm_model.specs.declared.stub.StubMethod.{StubMethod}
use Rattle.jvm_model.specs.Linking.{folder_method, methods_from}
use Rattle.jvm_model.specs.Programs.{field_of}
use Rattle.program_model.specs.Declarations.{Declaration, field_declaration, field_declarations, member_declaration, method_declaration, method_declarations}

-- ---- the members of a class file

numbered_declared : (c : ClassFile) (natives : List StubMethod) (n : ℕ) (ms : List Member) → map method_declaration (map (folder_method natives c) (enumerate_from n ms)) ≡ map (member_declaration c) ms
numbered_declared c natives n [] = refl
numbered_declared c natives n (m ∷ ms) = ap (λ (rest : List Declaration). member_declaration c m ∷ rest) (numbered_declared c natives (n + 1) ms)

pub methods_of_folder : (f : NamedClass) (natives : List StubMethod) → method_declarations (Folder f natives) ≡ map (member_declaration f.class) f.class.methods
methods_of_folder f natives = numbered_declared f.class natives 0 f.class.methods

fields_declared : (c : ClassFile) (ms : List Member) → map field_declaration (map (field_of c) ms) ≡ map (member_declaration c) ms
fields_declared c [] = refl
fields_declared c (m ∷ ms) = ap (λ (rest : List Declaration). member_declaration c m ∷ rest) (fields_declared c ms)

pub fields_of_folder : (f : NamedClass) (natives : List StubMethod) → field_declarations (Folder f natives) ≡ map (member_declaration f.class) f.class.fields
fields_of_folder f natives = fields_declared f.class f.class.fields

pub length-folder_methods : (f : NamedClass) (natives : List StubMethod) → length (methods_from (Folder f natives)) ≡ length f.class.methods
length-folder_methods f natives = length-map (enumerate_from 0 f.class.methods) (folder_method natives f.class) ∙ length-enumerate_from 0 f.class.methods
