-- Public contracts rest on this module.
-- Linking: from the class files of a folder and from stubs to a program in which each name has its class (JVMS 5.3, 5.3.5);
-- or the first thing that is wrong.
use Rattle.std.specs.Prelude.{codes, ◌≡◌, ◌⊎◌, ℕ, ◌+◌, Bool, true, false, not, ◌&&◌, List, [], ◌∷◌, ◌++◌, map, filter, find, Result, Ok, Err, All, Contains, IsPermutation, IsSorted, if◌then◌else◌}
use Rattle.std.specs.List.{enumerate_from, flat_map, list_any}
use Rattle.std.specs.Option.{option_to_list, option_map_or}
use Rattle.std.specs.Ordering.{nat_cmp}
use Rattle.std.specs.Cmp.Lexicographic.{slice_cmp}
use Rattle.std.specs.Str.{bytes_eq}
use Rattle.jvm_model.specs.declared.access.AccessFlag.TheVariants.{Native, Static}
use Rattle.jvm_model.specs.declared.class_file.ClassFile.{ClassFile}
use Rattle.jvm_model.specs.declared.class_file.Member.{Member}
use Rattle.jvm_model.specs.declared.pool.PoolEntry.{PoolEntry}
use Rattle.jvm_model.specs.declared.program.NamedClass.{NamedClass}
use Rattle.jvm_model.specs.declared.program.Origin.{Origin}
use Rattle.jvm_model.specs.declared.program.Origin.TheVariants.{Folder, Stub}
use Rattle.jvm_model.specs.declared.reason.Reason.{Reason}
use Rattle.jvm_model.specs.declared.reason.Reason.TheVariants.{DuplicateClass, MissingClass, KindMismatch, Cycle}
use Rattle.jvm_model.specs.declared.reason.Refusal.{Refusal}
use Rattle.jvm_model.specs.declared.stub.StubClass.{StubClass}
use Rattle.jvm_model.specs.declared.stub.StubMethod.{StubMethod}
use Rattle.jvm_model.specs.Access.{has_flag}
use Rattle.jvm_model.specs.Lookups.{class_name_at}
use Rattle.jvm_model.specs.Programs.{Class, Method, Field, Body, in_file, described, Program, name_of, class_or_none, signature_of, class_of, field_of}
use Rattle.jvm_model.specs.Soundness.{this_class_offset, super_class_offset, interfaces_offset}
use Rattle.jvm_model.specs.Stubs.{is_same_method, super_of, class_of_stub, method_of_stub, field_of_stub, method_names, field_names}
use Rattle.jvm_model.specs.Subtypes.{IsCyclic}

-- ---- patches

-- What a stub says of a method, and the file that says it.
pub record Description : Type 0 where
  pub method : StubMethod
  pub file : List ℕ

abbrev pub descriptions : StubClass → List Description
descriptions c = map (λ m. record { method = m; file = c.file }) c.methods

-- A description takes the place of an earlier one of its name and descriptor; and else it comes last.
abbrev pub with_description : List Description → Description → List Description
with_description [] d = d ∷ []
with_description (e ∷ others) d = if is_same_method e.method d.method then d ∷ others else e ∷ with_description others d

abbrev pub with_descriptions : List Description → List Description → List Description
with_descriptions held [] = held
with_descriptions held (d ∷ others) = with_descriptions (with_description held d) others

-- The stubs that are classes of their own, and what the patches of a name say, in the order of the stubs.
abbrev pub own_classes : List StubClass → List StubClass
own_classes stubs = filter (λ (s : StubClass). not s.is_patch) stubs

abbrev pub patches_of : List ℕ → List StubClass → List Description
patches_of name stubs = flat_map descriptions (filter (λ (s : StubClass). s.is_patch && bytes_eq s.name name) stubs)

-- The methods of a stub class: its own, and those of its patches.
abbrev pub stub_descriptions : List StubClass → StubClass → List Description
stub_descriptions stubs c = with_descriptions (descriptions c) (patches_of c.name stubs)

-- The stub describes the member: a native method of its name and descriptor, which is static if the stub's is. An
-- abstract stub describes none.
abbrev pub is_static_as : StubMethod → Member → Bool
is_static_as d m = if d.is_static then has_flag m.flags Static else not (has_flag m.flags Static)

abbrev pub describes : List PoolEntry → StubMethod → Member → Bool
describes pool d m =
    let s = signature_of pool m in
    not d.is_abstract && has_flag m.flags Native && bytes_eq s.name d.name && bytes_eq s.descriptor d.descriptor && is_static_as d m

-- The descriptions of native methods of a class file: those of its patches.
abbrev pub native_descriptions : List StubClass → ClassFile → List Description
native_descriptions stubs c = with_descriptions [] (filter (λ (d : Description). list_any (describes c.pool d.method) c.methods) (patches_of (name_of c) stubs))

-- ---- the program

abbrev pub described_methods : List Description → List StubMethod
described_methods ds = map (λ (d : Description). d.method) ds

-- Where the classes come from: the class files, and the stubs that are classes of their own, with what patches say.
abbrev pub folder_origin : List StubClass → NamedClass → Origin
folder_origin stubs f = Folder f (described_methods (native_descriptions stubs f.class))

abbrev pub stub_origin : List StubClass → StubClass → Origin
stub_origin stubs c = Stub (record { file = c.file; name = c.name; super_class = c.super_class; interfaces = c.interfaces; is_interface = c.is_interface; is_patch = c.is_patch; methods = described_methods (stub_descriptions stubs c); fields = c.fields })

abbrev pub origins : List NamedClass → List StubClass → List Origin
origins files stubs = map (folder_origin stubs) files ++ map (stub_origin stubs) (own_classes stubs)

abbrev pub class_from : Origin → Class
class_from (Folder f natives) = class_of f.file f.class
class_from (Stub c) = class_of_stub c

-- A method of a class file, of a number: its member, or what a stub says of a native one.
abbrev pub body_from : List StubMethod → ClassFile → ℕ × Member → Body
body_from natives c m = option_map_or described (find (λ (d : StubMethod). describes c.pool d m.1) natives) (in_file c m.0 m.1)

abbrev pub folder_method : List StubMethod → ClassFile → ℕ × Member → Method
folder_method natives c m = record { class = name_of c; signature = signature_of c.pool m.1; flags = m.1.flags; body = body_from natives c m }

abbrev pub methods_from : Origin → List Method
methods_from (Folder f natives) = map (folder_method natives f.class) (enumerate_from 0 f.class.methods)
methods_from (Stub c) = map (method_of_stub c.name) c.methods

abbrev pub fields_from : Origin → List Field
fields_from (Folder f natives) = map (field_of f.class) f.class.fields
fields_from (Stub c) = map (field_of_stub c.name) c.fields

-- The program of classes in this order.
abbrev pub program_from : List Origin → Program
program_from order = record { classes = map class_from order; methods = flat_map methods_from order; fields = flat_map fields_from order }

abbrev pub names : List Origin → List (List ℕ)
names order = map (λ o. (class_from o).name) order

-- The classes in byte order of their names.
pub record IsOrder (all order : List Origin) : Type 0 where
  pub same : IsPermutation all order
  pub sorted : IsSorted (slice_cmp nat_cmp) (names order)

-- ---- what has to hold

-- A class's name is none of the earlier ones; a class of a name is there; each class of the name is an interface, or none is;
-- and the class of a name is not above itself.
pub data Demand : Type 0 where
  differs : (earlier : List (List ℕ)) → (name : List ℕ) → Demand
  is_there : (name : List ℕ) → Demand
  of_kind : (is_interface : Bool) → (name : List ℕ) → Demand
  no_cycle : (name : List ℕ) → Demand

abbrev pub Meets : Program → Demand → Type 0
Meets p (differs earlier name) = Contains earlier name → ⊥
Meets p (is_there name) = Contains (map (λ (c : Class). c.name) p.classes) name
Meets p (of_kind is_interface name) = (c : Class) → Contains p.classes c → c.name ≡ name → c.is_interface ≡ is_interface
Meets p (no_cycle name) = IsCyclic p name → ⊥

abbrev pub reason_of : Demand → Reason
reason_of (differs earlier name) = DuplicateClass
reason_of (is_there name) = MissingClass
reason_of (of_kind is_interface name) = KindMismatch
reason_of (no_cycle name) = Cycle

-- A demand, and the file and the offset where it is reported if it is not met. What a stub demands is reported at the offset 0.
pub record Claim : Type 0 where
  pub file : List ℕ
  pub offset : ℕ
  pub demand : Demand

abbrev pub claim : List ℕ → ℕ → Demand → Claim
claim file offset demand = record { file = file; offset = offset; demand = demand }

-- ---- names that differ

-- Class files differ from earlier ones, and from all stubs; stubs from earlier ones.
abbrev pub file_claims : List (List ℕ) → List (List ℕ) → List NamedClass → List Claim
file_claims others earlier [] = []
file_claims others earlier (f ∷ files) =
    claim f.file (this_class_offset f.class) (differs (earlier ++ others) (name_of f.class)) ∷ file_claims others (earlier ++ name_of f.class ∷ []) files

abbrev pub stub_claims : List (List ℕ) → List StubClass → List Claim
stub_claims earlier [] = []
stub_claims earlier (c ∷ stubs) = claim c.file 0 (differs earlier c.name) ∷ stub_claims (earlier ++ c.name ∷ []) stubs

-- The stubs that are there from the start name no file: a minus stands for it. They come before those of the user's files, so
-- that of two stubs of one name a user's file is named.
abbrev pub is_base_stub : StubClass → Bool
is_base_stub c = bytes_eq c.file (codes "-")

abbrev pub base_first : List StubClass → List StubClass
base_first classes = filter is_base_stub classes ++ filter (λ c. not (is_base_stub c)) classes

abbrev pub name_claims : List NamedClass → List StubClass → List Claim
name_claims files classes = file_claims (map (λ (c : StubClass). c.name) classes) [] files ++ stub_claims [] (base_first classes)

-- ---- supertypes

-- A supertype that a class names, as a superinterface or as its superclass, and where.
pub record NamedSuper : Type 0 where
  pub name : List ℕ
  pub as_interface : Bool
  pub file : List ℕ
  pub offset : ℕ

-- Those of a class file: the superclass, and then the superinterfaces, two bytes each (JVMS 4.1).
abbrev pub interface_places : List ℕ → List PoolEntry → ℕ → List ℕ → List NamedSuper
interface_places file pool offset [] = []
interface_places file pool offset (index ∷ others) =
    record { name = class_or_none pool index; as_interface = true; file = file; offset = offset } ∷ interface_places file pool (offset + 2) others

abbrev pub superclass_place : NamedClass → List ℕ → NamedSuper
superclass_place f name = record { name = name; as_interface = false; file = f.file; offset = super_class_offset f.class }

abbrev pub supers_of_file : NamedClass → List NamedSuper
supers_of_file f =
    map (superclass_place f) (option_to_list (class_name_at f.class.pool f.class.super_class))
    ++ interface_places f.file f.class.pool (interfaces_offset f.class) f.class.interfaces

abbrev pub supers_of_stub : StubClass → List NamedSuper
supers_of_stub c =
    map (λ name. record { name = name; as_interface = false; file = c.file; offset = 0 }) (option_to_list (super_of c))
    ++ map (λ name. record { name = name; as_interface = true; file = c.file; offset = 0 }) c.interfaces

abbrev pub there_claim : NamedSuper → Claim
there_claim s = claim s.file s.offset (is_there s.name)

abbrev pub kind_claim : NamedSuper → Claim
kind_claim s = claim s.file s.offset (of_kind s.as_interface s.name)

-- ---- classes that stubs mention

abbrev pub mention_claim : List ℕ → List ℕ → Claim
mention_claim file name = claim file 0 (is_there name)

abbrev pub description_claims : List Description → List Claim
description_claims ds = flat_map (λ (d : Description). map (mention_claim d.file) (method_names d.method)) ds

abbrev pub stub_there_claims : List StubClass → StubClass → List Claim
stub_there_claims stubs c =
    map there_claim (supers_of_stub c) ++ map (mention_claim c.file) (flat_map field_names c.fields) ++ description_claims (stub_descriptions stubs c)

abbrev pub native_claims : List StubClass → NamedClass → List Claim
native_claims stubs f = description_claims (native_descriptions stubs f.class)

-- ---- all of it, in order

-- Supertypes and mentioned classes are there: for each class file, then for each stub class, and then for each description of
-- a native method.
abbrev pub there_claims : List NamedClass → List StubClass → List Claim
there_claims files stubs =
    map there_claim (flat_map supers_of_file files) ++ flat_map (stub_there_claims stubs) (own_classes stubs) ++ flat_map (native_claims stubs) files

-- Superclasses are no interfaces, and superinterfaces are.
abbrev pub kind_claims : List NamedClass → List StubClass → List Claim
kind_claims files classes = map kind_claim (flat_map supers_of_file files) ++ map kind_claim (flat_map supers_of_stub classes)

-- No class is above itself, in byte order of the names.
abbrev pub cycle_claim : Origin → Claim
cycle_claim (Folder f natives) = claim f.file (this_class_offset f.class) (no_cycle (name_of f.class))
cycle_claim (Stub c) = claim c.file 0 (no_cycle c.name)

abbrev pub claims : List NamedClass → List StubClass → List Origin → List Claim
claims files stubs order =
    name_claims files (own_classes stubs) ++ there_claims files stubs ++ kind_claims files (own_classes stubs) ++ map cycle_claim order

-- The first demand that is not met.
abbrev pub IsFirstUnmet : Program → Refusal → List Claim → Type 0
IsFirstUnmet p refusal [] = ⊥
IsFirstUnmet p refusal (c ∷ others) =
    ((Meets p c.demand → ⊥) × (refusal ≡ record { file = c.file; offset = c.offset; reason = reason_of c.demand }))
    ⊎ (Meets p c.demand × IsFirstUnmet p refusal others)

abbrev pub AreMet : Program → List Claim → Type 0
AreMet p all = All (λ (c : Claim). Meets p c.demand) all

-- The same class files in byte order of the names of their files.
pub record IsFileOrder (files ordered : List NamedClass) : Type 0 where
  pub same : IsPermutation files ordered
  pub sorted : IsSorted (slice_cmp nat_cmp) (map (λ (f : NamedClass). f.file) ordered)

-- What linking class files, in the order of their files, and stubs gives: their program, or the first demand that is not met.
pub data LinksInOrder (files : List NamedClass) (stubs : List StubClass) (outcome : Result Program Refusal) : Type 0 where
  linked : (order : List Origin) → IsOrder (origins files stubs) order → AreMet (program_from order) (claims files stubs order)
      → outcome ≡ Ok (program_from order) → LinksInOrder files stubs outcome
  barred : (order : List Origin) (refusal : Refusal) → IsOrder (origins files stubs) order → IsFirstUnmet (program_from order) refusal (claims files stubs order)
      → outcome ≡ Err refusal → LinksInOrder files stubs outcome

-- What linking class files and stubs gives, in whatever order the class files come.
pub record Links (files : List NamedClass) (stubs : List StubClass) (outcome : Result Program Refusal) : Type 0 where
  pub ordered : List NamedClass
  pub by_file : IsFileOrder files ordered
  pub links : LinksInOrder ordered stubs outcome
