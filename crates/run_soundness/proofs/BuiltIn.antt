-- Each stub that is a class of its own is a class of the program that it links to. So the classes of exceptions, which stand among the stubs that
-- are built in, are in each program that is linked with these.
use Rattle.std.proofs.Common.{◌≡◌, ℕ, true, not, List, ◌++◌, map, Ok, Result, Contains, refl, subst}
use Rattle.std.specs.List.{list_all, list_any}
use Rattle.std.specs.Str.{bytes_eq}
use Rattle.std.proofs.lemmas.List.Elements.{All-contains, Contains-append_left, Contains-append_right, filter-append}
use Rattle.std.proofs.lemmas.List.Sums.{AllPass-from_list_all}
use Rattle.std.proofs.lemmas.Map.Views.{Contains-from_any}
use Rattle.std.proofs.lemmas.Slice.Eq.{bytes_eq-Decides}
use Rattle.jvm_model.specs.declared.program.NamedClass.{NamedClass}
use Rattle.jvm_model.specs.declared.program.Origin.{Origin}
use Rattle.jvm_model.specs.declared.reason.Refusal.{Refusal}
use Rattle.jvm_model.specs.declared.stub.StubClass.{StubClass}
use Rattle.jvm_model.specs.LinkedPrograms.{HasStubClasses, IsThere}
use Rattle.jvm_model.specs.Linking.{barred, class_from, folder_origin, IsOrder, linked, Links, LinksInOrder, origins, own_classes, program_from, stub_origin}
use Rattle.jvm_model.specs.Programs.{Class, Program}
use Rattle.jvm_model.specs.Stubs.{class_of_stub}
use Rattle.program_model.proofs.Assembled.{all_from}
use Rattle.program_model.proofs.Bridges.{map_from, map_to}
use Rattle.program_laws.proofs.ClassOrders.{in_order}
use Rattle.stub_file.specs.BaseLaws.{names_of}
use Rattle.stub_file.specs.BaseStubs.{base_classes}
use Rattle.simulation.specs.Simulation.{exception_names, HasExceptions}

-- ---- the stubs of a linked program

module _ (files : List NamedClass) (stubs : List StubClass) where
  -- a stub that is a class of its own is a class of the program of each order
  in_program : (order : List Origin) → IsOrder (origins files stubs) order → (c : StubClass) → Contains (own_classes stubs) c
      → Contains (program_from order).classes (class_of_stub c)
  in_program order is c own =
      let among = map_to (stub_origin stubs) (own_classes stubs) c own in
      let origin = Contains-append_right (map (folder_origin stubs) files) (map (stub_origin stubs) (own_classes stubs)) (stub_origin stubs c) among in
      map_to class_from order (stub_origin stubs c) (in_order (origins files stubs) order is (stub_origin stubs c) origin)

  has_stubs : (order : List Origin) → IsOrder (origins files stubs) order → HasStubClasses (program_from order) stubs
  has_stubs order is = all_from (λ (c : StubClass). Contains (program_from order).classes (class_of_stub c)) (own_classes stubs) (in_program order is)

  same_program : (p q : Program) (answer : Result Program Refusal) → answer ≡ Ok p → answer ≡ Ok q → p ≡ q
  same_program p q answer x y = cc

  stubs_in_order : (p : Program) → LinksInOrder files stubs (Ok p) → HasStubClasses p stubs
  stubs_in_order p (linked order is met e) =
      subst (λ (q : Program). HasStubClasses q stubs) (same_program (program_from order) p (Ok p) e refl) (has_stubs order is)
  stubs_in_order p (barred order refusal is unmet e) = absurd cc

pub linked_stubs : (files : List NamedClass) (stubs : List StubClass) (p : Program) → Links files stubs (Ok p) → HasStubClasses p stubs
linked_stubs files stubs p l = stubs_in_order l.ordered stubs p l.links

-- ---- the classes that are built in

-- the classes of exceptions have their names among those of the classes that are built in
exceptions_built_in : list_all (λ (name : List ℕ). list_any (bytes_eq name) (names_of (own_classes base_classes))) exception_names ≡ true
exceptions_built_in = refl

exception_among : (name : List ℕ) → Contains exception_names name → Contains (names_of (own_classes base_classes)) name
exception_among name among =
    let each = AllPass-from_list_all (λ (n : List ℕ). list_any (bytes_eq n) (names_of (own_classes base_classes))) exception_names exceptions_built_in in
    let found = All-contains (λ (n : List ℕ). list_any (bytes_eq n) (names_of (own_classes base_classes)) ≡ true) exception_names name each among in
    Contains-from_any (λ x y. (bytes_eq-Decides x y).0) name (names_of (own_classes base_classes)) found

-- a stub that is a class of its own is one beside whatever other stubs
own_left : (xs ys : List StubClass) (c : StubClass) → Contains (own_classes xs) c → Contains (own_classes (xs ++ ys)) c
own_left xs ys c there =
    rw (filter-append (λ (s : StubClass). not s.is_patch) xs ys) (Contains-append_left (own_classes xs) (own_classes ys) c there)

-- the class of the name is there, if a class that is built in has it
built_in_there : (p : Program) (stubs : List StubClass) → HasStubClasses p (base_classes ++ stubs) → (name : List ℕ)
    → Contains (names_of (own_classes base_classes)) name → IsThere p name
built_in_there p stubs has name among =
    let (c, own, named) = map_from (λ (s : StubClass). s.name) (own_classes base_classes) name among in
    let class = All-contains (λ (s : StubClass). Contains p.classes (class_of_stub s)) (own_classes (base_classes ++ stubs)) c has (own_left base_classes stubs c own) in
    subst (IsThere p) named (map_to (λ (k : Class). k.name) p.classes (class_of_stub c) class)

pub has_exceptions : (files : List NamedClass) (stubs : List StubClass) (p : Program) → Links files (base_classes ++ stubs) (Ok p) → HasExceptions p
has_exceptions files stubs p links = record {
  each = λ name among. built_in_there p stubs (linked_stubs files (base_classes ++ stubs) p links) name (exception_among name among);
}
