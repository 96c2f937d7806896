-- Public contracts rest on this module.
-- What holds of the table of base stubs: each class keeps the rules of a stub file, and each class that one mentions is
-- there.
use Rattle.std.specs.Prelude.{ℕ, List, map, All, IsTrue}
use Rattle.std.specs.List.{flat_map, list_all, list_any}
use Rattle.std.specs.Str.{bytes_eq}
use Rattle.jvm_model.specs.declared.stub.StubClass.{StubClass}
use Rattle.jvm_model.specs.Automata.{all_differ}
use Rattle.jvm_model.specs.Stubs.{mentioned}
use Rattle.jvm_model.specs.StubRules.{IsSoundStub}

abbrev pub names_of : List StubClass → List (List ℕ)
names_of classes = map (λ c. c.name) classes

-- The classes keep the rules, have different names, and mention no others.
pub record IsClosedTable (classes : List StubClass) : Type 0 where
  pub sound : All IsSoundStub classes
  pub names_differ : IsTrue (all_differ bytes_eq (names_of classes))
  pub closed : IsTrue (list_all (λ name. list_any (bytes_eq name) (names_of classes)) (flat_map mentioned classes))
