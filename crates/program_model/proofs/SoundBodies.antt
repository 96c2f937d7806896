-- The names of classes, the bodies of methods and the entries of fields keep their rules, since what they come from was checked.
use Rattle.std.proofs.Common.{◌≡◌, inl, inr, ℕ, zero, suc, Bool, true, false, not, ◌&&◌, if◌then◌else◌, List, [], drop, find, get_or, unwrap_or, All, Option, Some, None, refl, sym, ap, ◌∙◌, subst, arith}
use Rattle.std.specs.List.{enumerate_from, position_or_len, slice_get}
use Rattle.std.specs.Option.{option_map_or}
use Rattle.std.specs.Str.{bytes_eq}
use Rattle.std.proofs.lemmas.Bool.{and_parts}
use Rattle.std.proofs.lemmas.List.Elements.{All-map}
use Rattle.std.proofs.lemmas.Option.{slice_get-get_or}
use Rattle.std.proofs.lemmas.Slice.Eq.{bytes_eq-Decides}
use Rattle.jvm_model.specs.declared.access.AccessFlag.TheVariants.{Native, Static}
use Rattle.jvm_model.specs.declared.class_file.ClassFile.{ClassFile}
use Rattle.jvm_model.specs.declared.class_file.Member.{Member}
use Rattle.jvm_model.specs.declared.descriptor.Kind.{Kind}
use Rattle.jvm_model.specs.declared.descriptor.Kind.TheVariants.{Prim, Class as OfClass, Array}
use Rattle.jvm_model.specs.declared.grammar.Grammar.TheVariants.{FieldName, FieldDescriptor}
use Rattle.jvm_model.specs.declared.program.Origin.{Origin}
use Rattle.jvm_model.specs.declared.program.Origin.TheVariants.{Folder, Stub}
use Rattle.jvm_model.specs.declared.stub.StubMethod.{StubMethod}
use Rattle.jvm_model.specs.Access.{has_flag}
use Rattle.jvm_model.specs.DescriptorValues.{is_wide, IsKind}
use Rattle.jvm_model.specs.Descriptors.{IsFieldDescriptor, IsFieldType}
use Rattle.jvm_model.specs.LinkedPrograms.{class_names, IsBodyOf, IsSoundEntry}
use Rattle.jvm_model.specs.Linking.{class_from, describes, is_static_as, folder_method, methods_from, fields_from, program_from}
use Rattle.jvm_model.specs.Lookups.{Signature}
use Rattle.jvm_model.specs.Names.{IsClassName}
use Rattle.jvm_model.specs.Programs.{Method, in_file, described, class_or_none, field_of, signature_of}
use Rattle.jvm_model.specs.Soundness.{is_array, IsChecked}
use Rattle.jvm_model.specs.StubRules.{IsSoundMethod, MayHold}
use Rattle.jvm_model.specs.Stubs.{stub_flags, method_of_stub, field_of_stub}
use Rattle.jvm_model.proofs.FieldKinds.{array_kind}
use Rattle.jvm_model.proofs.Fields.{is_component_byte}
use Rattle.jvm_model.proofs.SoundUses.{class_only, class_there, this_leads, this_no_array}
use Rattle.program_index.proofs.OrderPlaces.{all_at}
use Rattle.program_model.specs.Origins.{IsSoundOrigin}
use Rattle.program_model.proofs.Bridges.{found_first, names_are}
use Rattle.program_model.proofs.MemberUses.{field_uses, text_in_grammar}
use Rattle.program_model.proofs.Pieces.{each_piece, enumerated_at}

-- ---- the names of classes

name_sound : (o : Origin) → IsSoundOrigin o → IsClassName (class_from o).name
name_sound (Folder f natives) sound =
    let c = f.class in
    let checked = sound.0.sound in
    let there = class_there c c.this_class checked (this_leads c checked) in
    let is : class_or_none c.pool c.this_class ≡ there.name = ap (λ (o : Option (List ℕ)). unwrap_or o []) there.named in
    subst IsClassName (sym is) (class_only there.name there.grammar (this_no_array c there.name checked there.named))
name_sound (Stub c) sound = sound.0.name

pub names_sound : (order : List Origin) → All IsSoundOrigin order → All IsClassName (class_names (program_from order))
names_sound order sound =
    subst (All IsClassName) (sym (names_are order))
    (All-map IsClassName (λ (o : Origin). (class_from o).name) order (λ k d lt. name_sound (get_or order k d) (sound k d lt)))

-- ---- the bodies of methods

static_as : (wanted is : Bool) → (if wanted then is else not is) ≡ true → is ≡ wanted
static_as true is h = h
static_as false true h = absurd cc
static_as false false h = refl

same_texts : (s : Signature) (name descriptor : List ℕ) → bytes_eq s.name name ≡ true → bytes_eq s.descriptor descriptor ≡ true → s ≡ record { name = name; descriptor = descriptor }
same_texts s name descriptor same_name same_descriptor =
    let e = (bytes_eq-Decides s.name name).0 same_name in
    let f = (bytes_eq-Decides s.descriptor descriptor).0 same_descriptor in
    (λ i. record { name = e i; descriptor = f i })

-- a member of a class file stands for its method, unless a description does
body_of_member : (c : ClassFile) (natives : List StubMethod) → IsChecked c → All IsSoundMethod natives → (m : ℕ × Member) → slice_get c.methods m.0 ≡ Some m.1
    → IsBodyOf (folder_method natives c m) (folder_method natives c m).body
body_of_member c natives checked sound m there = by (find test natives) refl
  where
    test : StubMethod → Bool
    test d = describes c.pool d m.1

    by : (found : Option StubMethod) → find test natives ≡ found → IsBodyOf (folder_method natives c m) (option_map_or described found (in_file c m.0 m.1))
    by None e = record { checked = checked; stands = there; of_class = refl; same_call = refl; same_flags = refl }
    by (Some d) e =
        let at = found_first test natives d e in
        let s = signature_of c.pool m.1 in
        let concrete = not d.is_abstract in
        let native = has_flag m.1.flags Native in
        let name = bytes_eq s.name d.name in
        let descriptor = bytes_eq s.descriptor d.descriptor in
        let last = and_parts (concrete && native && name && descriptor) (is_static_as d m.1) at.2 in
        let third = and_parts (concrete && native && name) descriptor last.0 in
        let second = and_parts (concrete && native) name third.0 in
        record {
          sound = all_at IsSoundMethod natives at.0 d sound at.1;
          same_call = same_texts s d.name d.descriptor second.1 third.1;
          same_static = static_as d.is_static (has_flag m.1.flags Static) last.1;
        }

stub_static : (is_static is_abstract : Bool) → has_flag (stub_flags is_static is_abstract) Static ≡ is_static
stub_static true true = refl
stub_static true false = refl
stub_static false true = refl
stub_static false false = refl

bodies_of : (o : Origin) → IsSoundOrigin o → All (λ (m : Method). IsBodyOf m m.body) (methods_from o)
bodies_of (Folder f natives) sound =
    let c = f.class in
    All-map (λ (m : Method). IsBodyOf m m.body) (folder_method natives c) (enumerate_from 0 c.methods) (λ k d lt.
    let m = get_or (enumerate_from 0 c.methods) k d in
    let at = enumerated_at 0 c.methods k m (slice_get-get_or (enumerate_from 0 c.methods) k d lt) in
    let number : m.0 ≡ k = omega (arith, at.0) in
    body_of_member c natives sound.0 sound.1 m (ap (slice_get c.methods) number ∙ at.1))
bodies_of (Stub c) sound =
    All-map (λ (m : Method). IsBodyOf m m.body) (method_of_stub c.name) c.methods (λ k d lt.
    let m = get_or c.methods k d in
    record { sound = sound.0.methods k d lt; same_call = refl; same_static = stub_static m.is_static m.is_abstract })

pub bodies_sound : (order : List Origin) → All IsSoundOrigin order → All (λ (m : Method). IsBodyOf m m.body) (program_from order).methods
bodies_sound order sound = each_piece (λ (m : Method). IsBodyOf m m.body) methods_from order (λ k d lt. bodies_of (get_or order k d) (sound k d lt))

-- ---- the entries of fields

-- a field descriptor is that of a kind
kind_there : (text : List ℕ) → IsFieldDescriptor text → (kind : Kind) × IsKind text kind
kind_there text is = by is.dimensions is.type_is
  where
    by : (d : ℕ) → IsFieldType d text → (kind : Kind) × IsKind text kind
    by zero (inl base) = (Prim (is_wide text), (base, refl))
    by zero (inr object) = (OfClass object.0, (object.1, object.2))
    by (suc d) array =
        let n = position_or_len is_component_byte text in
        (Array n (drop n text), array_kind text n is (ap is_array array.1) refl)

entries_of : (o : Origin) → IsSoundOrigin o → All IsSoundEntry (fields_from o)
entries_of (Folder f natives) sound =
    let c = f.class in
    All-map IsSoundEntry (field_of c) c.fields (λ k d lt.
    let m = get_or c.fields k d in
    let uses = field_uses c sound.0.sound k m (slice_get-get_or c.fields k d lt) in
    let kind = kind_there (signature_of c.pool m).descriptor (text_in_grammar c.pool FieldDescriptor m.descriptor uses.descriptor_leads uses.descriptor_in) in
    record { name = text_in_grammar c.pool FieldName m.name uses.name_leads uses.name_in; kind = kind.0; descriptor = kind.1; holds = tt })
entries_of (Stub c) sound =
    All-map IsSoundEntry (field_of_stub c.name) c.fields (λ k d lt.
    let f = get_or c.fields k d in
    let is = sound.0.fields k d lt in
    record {
      name = is.name;
      kind = is.kind;
      descriptor = is.descriptor;
      holds = subst (λ (b : Bool). MayHold b is.kind f.holds) (sym (stub_static f.is_static false)) is.holds;
    })

pub entries_sound : (order : List Origin) → All IsSoundOrigin order → All IsSoundEntry (program_from order).fields
entries_sound order sound = each_piece IsSoundEntry fields_from order (λ k d lt. entries_of (get_or order k d) (sound k d lt))
