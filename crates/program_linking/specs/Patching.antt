-- Public contracts rest on this module.
-- Descriptions that are lent, patches by the name of their class, and the native methods that patches may describe.
use Rattle.std.specs.Prelude.{ℕ, Bool, ◌&&◌, List, [], ◌∷◌, map, filter, if◌then◌else◌}
use Rattle.std.specs.Str.{bytes_eq}
use Rattle.std.specs.List.{list_any}
use Rattle.jvm_model.specs.declared.class_file.ClassFile.{ClassFile}
use Rattle.jvm_model.specs.declared.access.AccessFlag.TheVariants.{Native, Static}
use Rattle.jvm_model.specs.declared.class_file.Member.{Member}
use Rattle.jvm_model.specs.declared.pool.PoolEntry.{PoolEntry}
use Rattle.jvm_model.specs.declared.stub.StubClass.{StubClass}
use Rattle.jvm_model.specs.declared.stub.StubMethod.{StubMethod}
use Rattle.jvm_model.specs.Access.{has_flag}
use Rattle.jvm_model.specs.Linking.{Description, describes, with_description}
use Rattle.jvm_model.specs.Lookups.{Signature}
use Rattle.jvm_model.specs.Programs.{signature_of}
use Rattle.jvm_model.specs.Stubs.{stub_signature}
use Rattle.program_linking.specs.declared.descriptions.Described.{Described}
use Rattle.program_index.specs.MemberKeys.{Key}

-- the description that is lent
abbrev pub description_of : Described → Description
description_of d = record { method = d.method.now; file = d.file.now }

-- the key of a name and a descriptor in the class of a number
abbrev pub signature_key : ℕ → Signature → Key
signature_key class s = record { class = class; signature = s }

-- what tells the descriptions of one class apart
abbrev pub method_key : Description → Key
method_key d = signature_key 0 (stub_signature d.method)

-- the patches of the class of a name
abbrev pub patches_for : List ℕ → List StubClass → List StubClass
patches_for name stubs = filter (λ (s : StubClass). s.is_patch && bytes_eq s.name name) stubs

-- a native method by whether it is static, in place of the number of a class, and by its name and descriptor
abbrev pub static_key : Bool → Signature → Key
static_key is_static s = signature_key (if is_static then 1 else 0) s

abbrev pub member_key : List PoolEntry → Member → Key
member_key pool m = static_key (has_flag m.flags Static) (signature_of pool m)

abbrev pub native_key : List PoolEntry → Member → List Key
native_key pool m = if has_flag m.flags Native then member_key pool m ∷ [] else []

abbrev pub native_keys : List PoolEntry → List Member → List Key
native_keys pool methods = map (member_key pool) (filter (λ (m : Member). has_flag m.flags Native) methods)

-- the native method that a stub would describe
abbrev pub described_key : StubMethod → Key
described_key m = static_key m.is_static (stub_signature m)

-- the description is that of a native method of the class file
abbrev pub is_native_in : ClassFile → Description → Bool
is_native_in c d = list_any (describes c.pool d.method) c.methods

-- the patch, if it is one of the class of the name
abbrev pub patch_for : List ℕ → StubClass → List StubClass
patch_for name s = if s.is_patch && bytes_eq s.name name then s ∷ [] else []

-- the descriptions with one more, if it is one of a native method of the class file
abbrev pub with_native : ClassFile → List Description → Description → List Description
with_native c held d = if is_native_in c d then with_description held d else held

abbrev pub is_patch_stub : StubClass → Bool
is_patch_stub c = c.is_patch

-- the stub, if it is a class of its own; and if it is a patch
abbrev pub own_one : StubClass → List StubClass
own_one c = if c.is_patch then [] else c ∷ []

abbrev pub patch_one : StubClass → List StubClass
patch_one c = if c.is_patch then c ∷ [] else []
