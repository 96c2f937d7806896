-- Classes come from checked class files, and from stubs that keep the rules of stub files, also with what patches say.
use Rattle.std.proofs.Common.{◌≡◌, ℕ, Bool, true, false, not, ◌&&◌, ◌||◌, List, [], ◌∷◌, map, filter, All, refl, sym, ◌∙◌, ap}
use Rattle.std.specs.Prelude.{if◌then◌else◌}
use Rattle.std.specs.List.{list_any}
use Rattle.std.specs.Str.{bytes_eq}
use Rattle.std.proofs.lemmas.Cmp.{nat_list_eq_equiv}
use Rattle.std.proofs.lemmas.List.Elements.{All-nil, All-cons, All-head, All-tail, All-append, All-map, All-weaker, All-filter}
use Rattle.std.proofs.lemmas.List.Sorted.{All-permutation}
use Rattle.jvm_model.specs.declared.class_file.ClassFile.{ClassFile}
use Rattle.jvm_model.specs.declared.program.NamedClass.{NamedClass}
use Rattle.jvm_model.specs.declared.program.Origin.{Origin}
use Rattle.jvm_model.specs.declared.stub.StubClass.{StubClass}
use Rattle.jvm_model.specs.declared.stub.StubMethod.{StubMethod}
use Rattle.jvm_model.specs.Automata.{all_differ}
use Rattle.jvm_model.specs.Linking.{Description, IsOrder, descriptions, folder_origin, native_descriptions, origins, own_classes, patches_of, stub_descriptions, stub_origin, described_methods, with_description, with_descriptions}
use Rattle.jvm_model.specs.StubRules.{IsSoundMethod, IsSoundStub}
use Rattle.jvm_model.specs.Stubs.{is_same_method}
use Rattle.program_model.proofs.Pieces.{each_piece}
use Rattle.program_model.specs.Origins.{IsSoundOrigin}
use Rattle.program_linking.proofs.Building.{and_true}
use Rattle.program_linking.specs.LinkAnswers.{IsSoundFile}
use Rattle.program_linking.specs.Patching.{is_native_in, patches_for}

-- ---- descriptions that keep the rules

abbrev IsSoundDescription : Description → Type 0
IsSoundDescription d = IsSoundMethod d.method

-- one more, and more of them
sound_with : (held : List Description) (d : Description) → All IsSoundDescription held → IsSoundDescription d → All IsSoundDescription (with_description held d)
sound_with [] d sound one = All-cons IsSoundDescription d [] one (All-nil IsSoundDescription)
sound_with (e ∷ others) d sound one =
    let rest = All-tail IsSoundDescription e others sound in
    by (is_same_method e.method d.method) (All-head IsSoundDescription e others sound) rest (sound_with others d rest one)
  where
    by : (b : Bool) → IsSoundDescription e → All IsSoundDescription others → All IsSoundDescription (with_description others d)
        → All IsSoundDescription (if b then d ∷ others else e ∷ with_description others d)
    by true first rest more = All-cons IsSoundDescription d others one rest
    by false first rest more = All-cons IsSoundDescription e (with_description others d) first more

sound_with_all : (held ds : List Description) → All IsSoundDescription held → All IsSoundDescription ds → All IsSoundDescription (with_descriptions held ds)
sound_with_all held [] sound more = sound
sound_with_all held (d ∷ ds) sound more =
    sound_with_all (with_description held d) ds (sound_with held d sound (All-head IsSoundDescription d ds more)) (All-tail IsSoundDescription d ds more)

-- what they tell keeps the rules
told_sound : (ds : List Description) → All IsSoundDescription ds → All IsSoundMethod (described_methods ds)
told_sound ds sound = All-map IsSoundMethod (λ (d : Description). d.method) ds sound

own_sound : (c : StubClass) → IsSoundStub c → All IsSoundDescription (descriptions c)
own_sound c sound = All-map IsSoundDescription (λ (m : StubMethod). record { method = m; file = c.file }) c.methods sound.methods

patches_sound : (name : List ℕ) (stubs : List StubClass) → All IsSoundStub stubs → All IsSoundDescription (patches_of name stubs)
patches_sound name stubs sound =
    let found = patches_for name stubs in
    each_piece IsSoundDescription descriptions found
    (All-weaker IsSoundStub (λ (c : StubClass). All IsSoundDescription (descriptions c)) own_sound found (All-filter (λ (s : StubClass). s.is_patch && bytes_eq s.name name) IsSoundStub stubs sound))

natives_sound : (stubs : List StubClass) (c : ClassFile) (name : List ℕ) → All IsSoundStub stubs → All IsSoundDescription (with_descriptions [] (filter (is_native_in c) (patches_of name stubs)))
natives_sound stubs c name sound =
    sound_with_all [] (filter (is_native_in c) (patches_of name stubs)) (All-nil IsSoundDescription)
    (All-filter (is_native_in c) IsSoundDescription (patches_of name stubs) (patches_sound name stubs sound))

-- ---- descriptions of different methods

or_parts : (a b : Bool) → (a || b) ≡ false → (a ≡ false) × (b ≡ false)
or_parts true b h = absurd cc
or_parts false b h = (refl, h)

not-true : (b : Bool) → not b ≡ true → b ≡ false
not-true true h = absurd cc
not-true false h = refl

-- methods of one name and descriptor are the same as the same ones
same-alike : (m n other : StubMethod) → is_same_method m n ≡ true → is_same_method m other ≡ is_same_method n other
same-alike m n other h =
    let parts = and_true (bytes_eq m.name n.name) (bytes_eq m.descriptor n.descriptor) h in
    let by_name = nat_list_eq_equiv.congr m.name n.name other.name parts.0 in
    let by_descriptor = nat_list_eq_equiv.congr m.descriptor n.descriptor other.descriptor parts.1 in
    (λ i. by_name i && by_descriptor i)

-- a test that no description passes, none passes after one more that does not
none_with : (test : StubMethod → Bool) (held : List Description) (d : Description) → list_any test (described_methods held) ≡ false → test d.method ≡ false → list_any test (described_methods (with_description held d)) ≡ false
none_with test [] d none fails = ap (λ (b : Bool). b || false) fails
none_with test (e ∷ others) d none fails =
    let parts = or_parts (test e.method) (list_any test (described_methods others)) none in
    by parts.0 parts.1 (is_same_method e.method d.method) (none_with test others d parts.1 fails)
  where
    by : test e.method ≡ false → list_any test (described_methods others) ≡ false → (b : Bool) → list_any test (described_methods (with_description others d)) ≡ false
        → list_any test (described_methods (if b then d ∷ others else e ∷ with_description others d)) ≡ false
    by first rest true more = (λ i. fails i || rest i)
    by first rest false more = (λ i. first i || more i)

-- descriptions of different methods, after one more
differ_with : (held : List Description) (d : Description) → all_differ is_same_method (described_methods held) ≡ true → all_differ is_same_method (described_methods (with_description held d)) ≡ true
differ_with [] d differ = refl
differ_with (e ∷ others) d differ =
    let parts = and_true (not (list_any (is_same_method e.method) (described_methods others))) (all_differ is_same_method (described_methods others)) differ in
    by parts.0 parts.1 (is_same_method e.method d.method) refl (differ_with others d parts.1)
  where
    by : not (list_any (is_same_method e.method) (described_methods others)) ≡ true → all_differ is_same_method (described_methods others) ≡ true → (b : Bool) → is_same_method e.method d.method ≡ b
        → all_differ is_same_method (described_methods (with_description others d)) ≡ true → all_differ is_same_method (described_methods (if b then d ∷ others else e ∷ with_description others d)) ≡ true
    by first rest true same more =
        let alike : list_any (is_same_method d.method) (described_methods others) ≡ list_any (is_same_method e.method) (described_methods others) =
        (λ i. list_any (λ (m : StubMethod). sym (same-alike e.method d.method m same) i) (described_methods others)) in
        let apart : not (list_any (is_same_method d.method) (described_methods others)) ≡ true = ap not alike ∙ first in
        (λ i. apart i && rest i)
    by first rest false same more =
        let none = none_with (is_same_method e.method) others d (not-true (list_any (is_same_method e.method) (described_methods others)) first) same in
        let apart : not (list_any (is_same_method e.method) (described_methods (with_description others d))) ≡ true = ap not none in
        (λ i. apart i && more i)

differ_with_all : (held ds : List Description) → all_differ is_same_method (described_methods held) ≡ true → all_differ is_same_method (described_methods (with_descriptions held ds)) ≡ true
differ_with_all held [] differ = differ
differ_with_all held (d ∷ ds) differ = differ_with_all (with_description held d) ds (differ_with held d differ)

-- the methods of a stub are those of its own descriptions
told_of : (file : List ℕ) (methods : List StubMethod) → described_methods (map (λ m. record { method = m; file = file }) methods) ≡ methods
told_of file [] = refl
told_of file (m ∷ methods) = ap (λ (ms : List StubMethod). m ∷ ms) (told_of file methods)

-- ---- all classes

file_sound : (stubs : List StubClass) → All IsSoundStub stubs → (f : NamedClass) → IsSoundFile f → IsSoundOrigin (folder_origin stubs f)
file_sound stubs sound f checked = (checked, told_sound (native_descriptions stubs f.class) (natives_sound stubs f.class _ sound))

-- a stub that is a class of its own
abbrev IsOwnStub : StubClass → Type 0
IsOwnStub c = IsSoundStub c × (c.is_patch ≡ false)

own_stubs : (stubs : List StubClass) → All IsSoundStub stubs → All IsOwnStub (own_classes stubs)
own_stubs [] sound = All-nil IsOwnStub
own_stubs (c ∷ stubs) sound =
    by c.is_patch refl (All-head IsSoundStub c stubs sound) (own_stubs stubs (All-tail IsSoundStub c stubs sound))
  where
    by : (patch : Bool) → c.is_patch ≡ patch → IsSoundStub c → All IsOwnStub (own_classes stubs) → All IsOwnStub (if not patch then c ∷ own_classes stubs else own_classes stubs)
    by true is first rest = rest
    by false is first rest = All-cons IsOwnStub c (own_classes stubs) (first, is) rest

stub_sound : (stubs : List StubClass) → All IsSoundStub stubs → (c : StubClass) → IsOwnStub c → IsSoundOrigin (stub_origin stubs c)
stub_sound stubs all c (sound, own) = (
  record {
    name = sound.name;
    super_class = sound.super_class;
    interfaces = sound.interfaces;
    methods = told_sound (stub_descriptions stubs c) (sound_with_all (descriptions c) (patches_of c.name stubs) (own_sound c sound) (patches_sound c.name stubs all));
    fields = sound.fields;
    methods_differ =
        let own : all_differ is_same_method (described_methods (descriptions c)) ≡ true = ap (all_differ is_same_method) (told_of c.file c.methods) ∙ sound.methods_differ in
        differ_with_all (descriptions c) (patches_of c.name stubs) own;
    fields_differ = sound.fields_differ;
    patch = sound.patch;
  },
  own,
)

-- The classes that are linked come from where they may come from.
sound_origins : (files : List NamedClass) (stubs : List StubClass) → All IsSoundFile files → All IsSoundStub stubs → All IsSoundOrigin (origins files stubs)
sound_origins files stubs checked sound =
    let of_files = All-weaker IsSoundFile (λ (f : NamedClass). IsSoundOrigin (folder_origin stubs f)) (file_sound stubs sound) files checked in
    let of_stubs = All-weaker IsOwnStub (λ (c : StubClass). IsSoundOrigin (stub_origin stubs c)) (stub_sound stubs sound) (own_classes stubs) (own_stubs stubs sound) in
    All-append IsSoundOrigin (map (folder_origin stubs) files) (map (stub_origin stubs) (own_classes stubs))
    (All-map IsSoundOrigin (folder_origin stubs) files of_files)
    (All-map IsSoundOrigin (stub_origin stubs) (own_classes stubs) of_stubs)

-- So they do in their order.
pub sound_order : (files : List NamedClass) (stubs : List StubClass) → All IsSoundFile files → All IsSoundStub stubs → (order : List Origin) → IsOrder (origins files stubs) order → All IsSoundOrigin order
sound_order files stubs checked sound order is = All-permutation IsSoundOrigin (origins files stubs) order is.same (sound_origins files stubs checked sound)
