-- The claims that come before those on cycles are flat.
use Rattle.std.proofs.Common.{ℕ, List, [], ◌∷◌, ◌++◌, map, All}
use Rattle.std.specs.List.{flat_map}
use Rattle.std.proofs.lemmas.List.Elements.{All-nil, All-cons, All-append}
use Rattle.jvm_model.specs.declared.program.NamedClass.{NamedClass}
use Rattle.jvm_model.specs.declared.stub.StubClass.{StubClass}
use Rattle.jvm_model.specs.Linking.{base_first, Description, there_claim, kind_claim, supers_of_file, supers_of_stub, own_classes, mention_claim, description_claims, stub_descriptions, native_descriptions, stub_there_claims, native_claims, there_claims, kind_claims, file_claims, stub_claims, name_claims}
use Rattle.jvm_model.specs.Programs.{name_of}
use Rattle.jvm_model.specs.Stubs.{method_names, field_names}
use Rattle.program_linking.specs.Claims.{stub_name}
use Rattle.program_linking.proofs.KnownClasses.{IsFlatClaim, flat_map_flat, map_flat}

descriptions_flat : (ds : List Description) → All IsFlatClaim (description_claims ds)
descriptions_flat ds = flat_map_flat (λ (d : Description). map (mention_claim d.file) (method_names d.method)) (λ d. map_flat (mention_claim d.file) (λ n. tt) (method_names d.method)) ds

stub_flat : (stubs : List StubClass) (c : StubClass) → All IsFlatClaim (stub_there_claims stubs c)
stub_flat stubs c =
    All-append IsFlatClaim (map there_claim (supers_of_stub c) ++ map (mention_claim c.file) (flat_map field_names c.fields)) (description_claims (stub_descriptions stubs c))
    (All-append IsFlatClaim (map there_claim (supers_of_stub c)) (map (mention_claim c.file) (flat_map field_names c.fields))
    (map_flat there_claim (λ s. tt) (supers_of_stub c)) (map_flat (mention_claim c.file) (λ n. tt) (flat_map field_names c.fields)))
    (descriptions_flat (stub_descriptions stubs c))

pub there_flat : (files : List NamedClass) (stubs : List StubClass) → All IsFlatClaim (there_claims files stubs)
there_flat files stubs =
    All-append IsFlatClaim (map there_claim (flat_map supers_of_file files) ++ flat_map (stub_there_claims stubs) (own_classes stubs)) (flat_map (native_claims stubs) files)
    (All-append IsFlatClaim (map there_claim (flat_map supers_of_file files)) (flat_map (stub_there_claims stubs) (own_classes stubs))
    (map_flat there_claim (λ s. tt) (flat_map supers_of_file files)) (flat_map_flat (stub_there_claims stubs) (stub_flat stubs) (own_classes stubs)))
    (flat_map_flat (native_claims stubs) (λ f. descriptions_flat (native_descriptions stubs f.class)) files)

pub kind_flat : (files : List NamedClass) (classes : List StubClass) → All IsFlatClaim (kind_claims files classes)
kind_flat files classes =
    All-append IsFlatClaim (map kind_claim (flat_map supers_of_file files)) (map kind_claim (flat_map supers_of_stub classes))
    (map_flat kind_claim (λ s. tt) (flat_map supers_of_file files)) (map_flat kind_claim (λ s. tt) (flat_map supers_of_stub classes))

files_flat : (others earlier : List (List ℕ)) (files : List NamedClass) → All IsFlatClaim (file_claims others earlier files)
files_flat others earlier [] = All-nil IsFlatClaim
files_flat others earlier (f ∷ files) = All-cons IsFlatClaim _ _ tt (files_flat others (earlier ++ name_of f.class ∷ []) files)

stubs_flat : (earlier : List (List ℕ)) (classes : List StubClass) → All IsFlatClaim (stub_claims earlier classes)
stubs_flat earlier [] = All-nil IsFlatClaim
stubs_flat earlier (c ∷ classes) = All-cons IsFlatClaim _ _ tt (stubs_flat (earlier ++ c.name ∷ []) classes)

pub names_flat : (files : List NamedClass) (classes : List StubClass) → All IsFlatClaim (name_claims files classes)
names_flat files classes =
    let others = map stub_name classes in
    All-append IsFlatClaim (file_claims others [] files) (stub_claims [] (base_first classes)) (files_flat others [] files) (stubs_flat [] (base_first classes))
