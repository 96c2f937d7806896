-- Public contracts rest on this module.
-- Each member is declared in the class that has it: a law of methods and of fields.
use Rattle.std.specs.Prelude.{◌≡◌, All, refl}
use Rattle.std.specs.List.{enumerate_from}
use Rattle.std.proofs.lemmas.List.Elements.{All-map}
use Rattle.jvm_model.specs.declared.program.Origin.{Origin}
use Rattle.jvm_model.specs.declared.program.Origin.TheVariants.{Folder, Stub}
use Rattle.jvm_model.specs.Linking.{class_from, methods_from, fields_from, folder_method}
use Rattle.jvm_model.specs.Programs.{Method, Field, field_of}
use Rattle.jvm_model.specs.Stubs.{method_of_stub, field_of_stub}
use Rattle.program_model.specs.Declarations.{Declaration, field_declaration, field_declarations, method_declaration, method_declarations}

pub method_classes : (o : Origin) → All (λ (m : Method). m.class ≡ (class_from o).name) (methods_from o)
method_classes (Folder f natives) =
    All-map (λ (m : Method). m.class ≡ (class_from (Folder f natives)).name) (folder_method natives f.class) (enumerate_from 0 f.class.methods) (λ k d lt. refl)
method_classes (Stub c) = All-map (λ (m : Method). m.class ≡ c.name) (method_of_stub c.name) c.methods (λ k d lt. refl)

pub field_classes : (o : Origin) → All (λ (f : Field). f.class ≡ (class_from o).name) (fields_from o)
field_classes (Folder f natives) =
    All-map (λ (x : Field). x.class ≡ (class_from (Folder f natives)).name) (field_of f.class) f.class.fields (λ k d lt. refl)
field_classes (Stub c) = All-map (λ (x : Field). x.class ≡ c.name) (field_of_stub c.name) c.fields (λ k d lt. refl)

pub methods_of_class : (o : Origin) → All (λ (d : Declaration). d.class ≡ (class_from o).name) (method_declarations o)
methods_of_class o = All-map (λ (d : Declaration). d.class ≡ (class_from o).name) method_declaration (methods_from o) (method_classes o)

pub fields_of_class : (o : Origin) → All (λ (d : Declaration). d.class ≡ (class_from o).name) (field_declarations o)
fields_of_class o = All-map (λ (d : Declaration). d.class ≡ (class_from o).name) field_declaration (fields_from o) (field_classes o)
