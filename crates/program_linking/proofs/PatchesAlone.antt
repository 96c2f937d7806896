-- What patches say does not hang on the stubs that are no patches.
use Rattle.std.proofs.Common.{◌≡◌, Bool, true, false, ◌&&◌, cond, ℕ, List, [], ◌∷◌, ◌++◌, map, filter, refl, sym, ◌∙◌, ap, subst, inl, inr}
use Rattle.std.specs.List.{flat_map}
use Rattle.std.specs.Str.{bytes_eq}
use Rattle.jvm_model.specs.declared.class_file.ClassFile.{ClassFile}
use Rattle.jvm_model.specs.declared.program.NamedClass.{NamedClass}
use Rattle.jvm_model.specs.declared.program.Origin.{Origin}
use Rattle.jvm_model.specs.declared.stub.StubClass.{StubClass}
use Rattle.jvm_model.specs.declared.stub.StubMethod.{StubMethod}
use Rattle.jvm_model.specs.declared.program.Origin.TheVariants.{Folder, Stub}
use Rattle.jvm_model.specs.Linking.{Description, descriptions, with_descriptions, described_methods, native_descriptions, stub_descriptions, folder_origin, stub_origin, own_classes, origins}
use Rattle.jvm_model.specs.Programs.{name_of}
use Rattle.program_linking.specs.Patching.{patches_for, is_patch_stub, is_native_in}
use Rattle.program_linking.specs.TooLarge.{AreTooManyDescriptions, HasLargeFile, HasLargeStub}

pub patches_alone : (name : List ℕ) (stubs : List StubClass) → patches_for name (filter is_patch_stub stubs) ≡ patches_for name stubs
patches_alone name [] = refl
patches_alone name (s ∷ stubs) = by s.is_patch (bytes_eq s.name name) refl (patches_alone name stubs)
  where
    by : (b t : Bool) → s.is_patch ≡ b → patches_for name (filter is_patch_stub stubs) ≡ patches_for name stubs
        → patches_for name (cond s.is_patch (s ∷ filter is_patch_stub stubs) (filter is_patch_stub stubs)) ≡ cond (s.is_patch && bytes_eq s.name name) (s ∷ patches_for name stubs) (patches_for name stubs)
    by true t is e =
        ap (λ (b : Bool). patches_for name (cond b (s ∷ filter is_patch_stub stubs) (filter is_patch_stub stubs))) is
        ∙ ap (λ (ps : List StubClass). cond (s.is_patch && bytes_eq s.name name) (s ∷ ps) ps) e
    by false t is e =
        ap (λ (b : Bool). patches_for name (cond b (s ∷ filter is_patch_stub stubs) (filter is_patch_stub stubs))) is
        ∙ e
        ∙ sym (ap (λ (b : Bool). cond (b && bytes_eq s.name name) (s ∷ patches_for name stubs) (patches_for name stubs)) is)

pub native_descriptions_alone : (stubs : List StubClass) (c : ClassFile) → native_descriptions (filter is_patch_stub stubs) c ≡ native_descriptions stubs c
native_descriptions_alone stubs c =
    ap (λ (ps : List StubClass). with_descriptions [] (filter (is_native_in c) (flat_map descriptions ps))) (patches_alone (name_of c) stubs)

natives_alone : (stubs : List StubClass) (f : NamedClass) → folder_origin (filter is_patch_stub stubs) f ≡ folder_origin stubs f
natives_alone stubs f = ap (λ (ds : List Description). Folder f (described_methods ds)) (native_descriptions_alone stubs f.class)

pub stub_descriptions_alone : (stubs : List StubClass) (c : StubClass) → stub_descriptions (filter is_patch_stub stubs) c ≡ stub_descriptions stubs c
stub_descriptions_alone stubs c =
    ap (λ (ps : List StubClass). with_descriptions (descriptions c) (flat_map descriptions ps)) (patches_alone c.name stubs)

methods_alone : (stubs : List StubClass) (c : StubClass) → described_methods (stub_descriptions (filter is_patch_stub stubs) c) ≡ described_methods (stub_descriptions stubs c)
methods_alone stubs c = ap described_methods (stub_descriptions_alone stubs c)

stub_alone : (stubs : List StubClass) (c : StubClass) → stub_origin (filter is_patch_stub stubs) c ≡ stub_origin stubs c
stub_alone stubs c =
    ap (λ (ms : List StubMethod). Stub (record { file = c.file; name = c.name; super_class = c.super_class; interfaces = c.interfaces; is_interface = c.is_interface; is_patch = c.is_patch; methods = ms; fields = c.fields })) (methods_alone stubs c)

map_alone : {X : Type 0} (f g : X → Origin) → ((x : X) → f x ≡ g x) → (xs : List X) → map f xs ≡ map g xs
map_alone f g same [] = refl
map_alone f g same (x ∷ xs) = (λ i. same x i ∷ map_alone f g same xs i)

pub origins_alone : (files : List NamedClass) (stubs : List StubClass)
    → map (folder_origin (filter is_patch_stub stubs)) files ++ map (stub_origin (filter is_patch_stub stubs)) (own_classes stubs) ≡ origins files stubs
origins_alone files stubs =
    let fs = map_alone (folder_origin (filter is_patch_stub stubs)) (folder_origin stubs) (natives_alone stubs) files in
    let cs = map_alone (stub_origin (filter is_patch_stub stubs)) (stub_origin stubs) (stub_alone stubs) (own_classes stubs) in
    (λ i. fs i ++ cs i)

-- what is too large with the patches alone is too large with all stubs
pub large_file_alone : (stubs : List StubClass) (files : List NamedClass) → HasLargeFile (filter is_patch_stub stubs) files → HasLargeFile stubs files
large_file_alone stubs files large = record {
  file = large.file;
  among = large.among;
  many = elim large.many [
    | inl natives ↦ inl natives
    | inr ds ↦ inr (subst AreTooManyDescriptions (native_descriptions_alone stubs large.file.class) ds)
  ];
}

pub large_stub_alone : (stubs own : List StubClass) → HasLargeStub (filter is_patch_stub stubs) own → HasLargeStub stubs own
large_stub_alone stubs own large = record {
  class = large.class;
  among = large.among;
  many = subst AreTooManyDescriptions (stub_descriptions_alone stubs large.class) large.many;
}
