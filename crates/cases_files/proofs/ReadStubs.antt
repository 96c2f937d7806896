-- The stubs that are read keep the rules of a stub file.
use Rattle.std.proofs.Common.{ℕ, List, [], ◌∷◌, All}
use Rattle.std.specs.List.{AllZip}
use Rattle.std.proofs.lemmas.List.Elements.{All-cons, All-nil}
use Rattle.toml.specs.Data.{Members}
use Rattle.jvm_model.specs.declared.stub.StubClass.{StubClass}
use Rattle.stub_file.specs.StubFile.{GivesClass, IsStubFile}
use Rattle.jvm_model.specs.StubRules.{IsSoundStub}

from_tables : (file : List ℕ) (tables : List Members) (classes : List StubClass) → AllZip (GivesClass file) tables classes → All IsSoundStub classes
from_tables file [] [] given = All-nil IsSoundStub
from_tables file [] (c ∷ classes) given = absurd given
from_tables file (t ∷ tables) [] given = absurd given
from_tables file (t ∷ tables) (c ∷ classes) given = All-cons IsSoundStub c classes given.0.sound (from_tables file tables classes given.1)

pub read_sound : (file bytes : List ℕ) (classes : List StubClass) → IsStubFile file bytes classes → All IsSoundStub classes
read_sound file bytes classes is = from_tables file is.spells.class_tables classes is.spells.each
